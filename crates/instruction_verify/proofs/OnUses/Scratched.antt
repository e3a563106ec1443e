-- The scratch of a judge of phis.
use Rattle.std.proofs.Common.{◌≡◌, ℕ, zero, suc, List, [], ◌∷◌, ◌++◌, length, replicate, get_or, refl, ◌∙◌}
use Rattle.std.proofs.lemmas.List.{length-replicate}
use Rattle.instruction_verify.specs.Uses.Edges.{IsScratch, source_of}

zeros : (n k : ℕ) → ◌≡◌ {A = ℕ} (get_or (replicate n 0) k 0) 0
zeros zero k = refl
zeros (suc n) zero = refl
zeros (suc n) (suc k) = zeros n k

-- scratch that is new
pub scratch_new : (sources : List (List ℕ)) (n : ℕ) → n ≡ length sources → IsScratch sources (replicate n 0) (replicate n 0) (replicate n 0)
scratch_new sources n e = record {
  entries_many = length-replicate n 0 ∙ e;
  edges_many = length-replicate n 0 ∙ e;
  last_many = length-replicate n 0 ∙ e;
  entries_zero = zeros n;
  edges_zero = zeros n;
}

-- scratch after a use
pub scratch_used : (sources : List (List ℕ)) (entries edges last entries' edges' last' : List ℕ) → IsScratch sources entries edges last
    → length entries' ≡ length entries → length edges' ≡ length edges → length last' ≡ length last
    → ((n : ℕ) → get_or entries' n 0 ≡ 0) → ((n : ℕ) → get_or edges' n 0 ≡ 0) → IsScratch sources entries' edges' last'
scratch_used sources entries edges last entries' edges' last' w a b d zero_entries zero_edges = record {
  entries_many = a ∙ w.entries_many;
  edges_many = b ∙ w.edges_many;
  last_many = d ∙ w.last_many;
  entries_zero = zero_entries;
  edges_zero = zero_edges;
}

-- one list more, without blocks
pub none_more : (sources : List (List ℕ)) → ((b : ℕ) → source_of sources b ≡ []) → (b : ℕ) → source_of (sources ++ [] ∷ []) b ≡ []
none_more [] none zero = refl
none_more [] none (suc b) = refl
none_more (x ∷ xs) none zero = none 0
none_more (x ∷ xs) none (suc b) = none_more xs (λ k. none (suc k)) b
