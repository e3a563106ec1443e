-- How many leaves the edges of a list set at most.
use Rattle.std.proofs.Common.{◌≡◌, ℕ, ◌+◌, ◌-◌, ◌<◌, ◌≤◌, All, List, get_or, length, take, sym, arith}
use Rattle.std.proofs.lemmas.List.{take_all}
use Rattle.std.proofs.lemmas.List.Elements.{All-more, All-same}
use Rattle.run_actions.specs.declared.edge.Edge.{Edge}

-- one edge more
pub wider_more : (es : List Edge) (k : ℕ) (d : Edge) (old new n : ℕ) → k < length es → All (λ (e : Edge). e.end - e.first ≤ old) (take k es) → n ≡ (get_or es k d).end - (get_or es k d).first → n ≤ new → old ≤ new
    → All (λ (e : Edge). e.end - e.first ≤ new) (take (k + 1) es)
wider_more es k d old new n lt h is more wider =
    All-more (λ (e : Edge). e.end - e.first ≤ new) es k d lt (λ i x l. let le = h i x l in omega (arith, le, wider)) (omega (arith, is, more))

-- all of them
pub wider_all : (es : List Edge) (k most : ℕ) → length es ≤ k → All (λ (e : Edge). e.end - e.first ≤ most) (take k es) → All (λ (e : Edge). e.end - e.first ≤ most) es
wider_all es k most past h = All-same (λ (e : Edge). e.end - e.first ≤ most) es (take k es) (sym (take_all k es past)) h
