-- The table's blocks by their numbers.
use Rattle.std.proofs.Common.{◌≡◌, ℕ, ◌+◌, ◌<◌, [], ◌∷◌, ◌++◌, length, set, get_or, sym, ap, ◌∙◌, arith, inl, inr}
use Rattle.std.specs.Prelude.{◌≢◌}
use Rattle.std.proofs.lemmas.Bool.{cases_eq}
use Rattle.std.proofs.lemmas.List.{length-set, get_or-set_same, get_or-set_other}
use Rattle.std.proofs.lemmas.List.FromFn.{length-map-range_with_len, get_or-map-range_with_len, map-range_with_len_more, fill_by_all}
use Rattle.ir_memory.specs.declared.kept.KeptBlock.{KeptBlock}
use Rattle.ir_memory.specs.Numbered.{numbered}

pub length-numbered : (n : ℕ) (f : ℕ → KeptBlock) → length (numbered n f) ≡ n
length-numbered n f = length-map-range_with_len f 0 n

pub read-numbered : (n : ℕ) (f : ℕ → KeptBlock) (i : ℕ) (d : KeptBlock) → i < n → get_or (numbered n f) i d ≡ f i
read-numbered n f i d h = get_or-map-range_with_len f 0 n i i d h (omega arith)

-- the block of one number is another
pub numbered-set : (n : ℕ) (f g : ℕ → KeptBlock) (i : ℕ) (b : KeptBlock) → g i ≡ b → ((k : ℕ) → k ≢ i → g k ≡ f k) → numbered n g ≡ set (numbered n f) i b
numbered-set n f g i b here same =
    sym (fill_by_all g (set (numbered n f) i b) n b (length-set (numbered n f) i b ∙ length-numbered n f) each)
  where
    each : (k : ℕ) → k < n → get_or (set (numbered n f) i b) k b ≡ g k
    each k h = elim (cases_eq k i) [
      | inl e ↦
          ap (λ j. get_or (set (numbered n f) i b) j b) e
          ∙ get_or-set_same (numbered n f) i b b (omega (arith, h, e, length-numbered n f))
          ∙ sym here
          ∙ ap g (sym e)
      | inr m ↦
          get_or-set_other (numbered n f) i k b b m
          ∙ read-numbered n f k b h
          ∙ sym (same k m)
    ]

-- a block has the next number
pub numbered-push : (n : ℕ) (f g : ℕ → KeptBlock) (b : KeptBlock) → g n ≡ b → ((k : ℕ) → k ≢ n → g k ≡ f k) → numbered (n + 1) g ≡ numbered n f ++ b ∷ []
numbered-push n f g b here same =
    map-range_with_len_more g 0 n n (omega arith)
    ∙ ap (λ x. numbered n g ++ x ∷ []) here
    ∙ ap (λ bs. bs ++ b ∷ []) (sym (fill_by_all g (numbered n f) n b (length-numbered n f) each))
  where
    each : (k : ℕ) → k < n → get_or (numbered n f) k b ≡ g k
    each k h = read-numbered n f k b h ∙ sym (same k (λ e. absurd (omega (arith, h, e))))

-- what is read of a number
pub read-kept : (n : ℕ) (f : ℕ → KeptBlock) (i : ℕ) (b d : KeptBlock) → i < length (numbered n f) → b ≡ f i → b ≡ get_or (numbered n f) i d
read-kept n f i b d h is = is ∙ sym (read-numbered n f i d (omega (arith, h, length-numbered n f)))
