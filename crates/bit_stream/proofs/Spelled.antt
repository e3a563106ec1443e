-- Values that fit their spellings.
use Rattle.std.proofs.Common.{◌≡◌, ℕ, suc, ◌+◌, ◌<◌, Bool, true, false, List, [], ◌∷◌, ◌++◌, length, drop, get_or, refl, ap}
use Rattle.std.proofs.lemmas.List.{drop_more}
use Rattle.std.specs.Prelude.{◌&&◌}
use Rattle.bit_stream.specs.declared.abbreviation.ValueSpelling.{ValueSpelling}
use Rattle.bit_stream.specs.declared.abbreviation.ValueSpelling.TheVariants.{Chunks}
use Rattle.bit_stream.specs.Spelling.{all_fit, fits, each_fit, each_bits, value_bits}

-- every number is spelled in chunks
pub any_chunks : (w : ℕ) (ns : List ℕ) → all_fit (Chunks w) ns ≡ true
any_chunks w [] = refl
any_chunks w (n ∷ ns) = any_chunks w ns

both : (a b : Bool) → a && b ≡ true → (a ≡ true) × (b ≡ true)
both true b h = (refl, h)
both false b h = absurd (cc)

pub each_long : (ss : List ValueSpelling) (ns : List ℕ) → each_fit ss ns ≡ true → length ss ≡ length ns
unfolding each_fit
each_long [] [] h = refl
each_long [] (n ∷ ns) h = absurd (cc)
each_long (s ∷ ss) [] h = absurd (cc)
each_long (s ∷ ss) (n ∷ ns) h = ap suc (each_long ss ns (both _ _ h).1)

first_fits : (s : ValueSpelling) (ss : List ValueSpelling) (n : ℕ) (ns : List ℕ) → each_fit (s ∷ ss) (n ∷ ns) ≡ true → (fits s n ≡ true) × (each_fit ss ns ≡ true)
unfolding each_fit
first_fits s ss n ns h = both _ _ h

first_bits : (s : ValueSpelling) (ss : List ValueSpelling) (n : ℕ) (ns : List ℕ) → each_bits (s ∷ ss) (n ∷ ns) ≡ value_bits s n ++ each_bits ss ns
unfolding each_bits
first_bits s ss n ns = refl

pub fits_at : (ss : List ValueSpelling) (ns : List ℕ) (i : ℕ) (d : ValueSpelling) → i < length ss → i < length ns → each_fit (drop i ss) (drop i ns) ≡ true
    → (fits (get_or ss i d) (get_or ns i 0) ≡ true) × (each_fit (drop (i + 1) ss) (drop (i + 1) ns) ≡ true)
fits_at ss ns i d h k fit = first_fits _ _ _ _ (rw (drop_more ss i d h, drop_more ns i 0 k) at fit)

pub bits_at : (ss : List ValueSpelling) (ns : List ℕ) (i : ℕ) (d : ValueSpelling) → i < length ss → i < length ns
    → each_bits (drop i ss) (drop i ns) ≡ value_bits (get_or ss i d) (get_or ns i 0) ++ each_bits (drop (i + 1) ss) (drop (i + 1) ns)
bits_at ss ns i d h k = rw (drop_more ss i d h, drop_more ns i 0 k) (first_bits _ _ _ _)

pub no_bits : (ss : List ValueSpelling) (ns : List ℕ) → ss ≡ [] → each_bits ss ns ≡ []
unfolding each_bits
no_bits ss ns h = rw h refl
