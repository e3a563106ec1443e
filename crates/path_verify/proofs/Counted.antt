-- How many functions there are, and the first that is too large.
use Rattle.std.proofs.Common.{◌≡◌, ℕ, zero, suc, ◌+◌, ◌*◌, ◌^◌, ◌<◌, ◌≤◌, List, [], ◌∷◌, length, slice_get, drop, Some, None, Bool, true, false, cond, refl, ap, ◌∙◌, arith}
use Rattle.std.specs.List.{find}
use native.Mathlib.Nat.{mul-le-mul}
use Rattle.std.proofs.Math.Seq.{drop-cons}
use Rattle.std.proofs.lemmas.Option.{get_or_from_slice_get, slice_get_within}
use Rattle.std.proofs.lemmas.List.{length-map, drop_all}
use Rattle.module_arena.specs.Changes.{function_in}
use Rattle.module_arena.specs.Lists.{Lists}
use Rattle.module_arena.specs.View.{module_of}

-- as many functions as the arena keeps
pub so_many_functions : (a : Lists) → length (module_of a).functions ≡ length a.functions
unfolding module_of
so_many_functions a = length-map a.functions (function_in a)

-- the product of two such numbers has 64 bits
pub small_product : (x y : ℕ) → x < 2 ^ 32 → y < 2 ^ 32 → x * y < 2 ^ 64
small_product x y lx ly =
    let ax : x ≤ 4294967295 = omega (arith, lx) in
    let ay : y ≤ 4294967295 = omega (arith, ly) in
    let most : x * y ≤ 4294967295 * 4294967295 = mul-le-mul ax ay in
    omega (arith, most)

pub drop_at : {A : Type 0} (xs : List A) (i : ℕ) (x : A) → slice_get xs i ≡ Some x → drop i xs ≡ x ∷ drop (i + 1) xs
drop_at xs i x at =
    let next : suc i ≡ i + 1 = omega arith in
    drop-cons xs i x (slice_get_within xs i x at) ∙ (λ j. get_or_from_slice_get xs i x x at j ∷ drop (next j) xs)

-- what is there
pub some_at : {A : Type 0} (xs : List A) (i : ℕ) → i < length xs → (x : A) × (slice_get xs i ≡ Some x)
some_at [] i lt = absurd (omega (arith, lt))
some_at (x ∷ xs) zero lt = (x, refl)
some_at (x ∷ xs) (suc i) lt = some_at xs i (omega (arith, lt))

-- the first that does
module _ {A : Type 0} (p : A → Bool) where
  pub find_past : (xs : List A) (i : ℕ) (x : A) → slice_get xs i ≡ Some x → p x ≡ false → find p (drop i xs) ≡ find p (drop (i + 1) xs)
  find_past xs i x at fails = ap (find p) (drop_at xs i x at) ∙ (λ j. cond (fails j) (Some x) (find p (drop (i + 1) xs)))

  pub find_here : (xs : List A) (i : ℕ) (x : A) → slice_get xs i ≡ Some x → p x ≡ true → find p (drop i xs) ≡ Some x
  find_here xs i x at holds = ap (find p) (drop_at xs i x at) ∙ (λ j. cond (holds j) (Some x) (find p (drop (i + 1) xs)))

  pub find_end : (xs : List A) (i : ℕ) → length xs ≤ i → find p (drop i xs) ≡ None
  find_end xs i le = ap (find p) (drop_all i xs le)
