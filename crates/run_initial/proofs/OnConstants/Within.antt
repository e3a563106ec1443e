-- The constants in a constant, by their ids.
use Rattle.std.proofs.Common.{◌≡◌, ℕ, zero, suc, ◌+◌, ◌-◌, ◌<◌, ◌≤◌, max, All, List, [], ◌∷◌, length, take, drop, get_or, false, refl, sym, ap, ◌∙◌, subst, arith}
use Rattle.std.specs.Prelude.{nat_eq}
use Rattle.std.proofs.lemmas.Bool.{false≢true}
use Rattle.module_arena.specs.declared.constant.TypedConst.{TypedConst}

-- above all of them
abbrev pub top : List TypedConst → ℕ
top [] = 0
top (part ∷ parts) = max (part.value + 1) (top parts)

pub below_top : (parts : List TypedConst) (place : ℕ) (d : TypedConst) → place < length parts → (get_or parts place d).value < top parts
below_top [] place d h = absurd (omega arith)
below_top (part ∷ parts) zero d h = omega arith
below_top (part ∷ parts) (suc place) d h = let again = below_top parts place d (omega (arith, h)) in omega (arith, again, h)

pub top_within : (types : ℕ) (parts : List TypedConst) (bound : ℕ) → All (λ part. (part.ty < types) × (part.value < bound)) parts → top parts ≤ bound
top_within types [] bound h = omega arith
top_within types (part ∷ parts) bound h =
    let again = top_within types parts bound (λ k d lt. h (suc k) d (omega (arith, lt))) in
    let here = (h 0 part (omega arith)).1 in
    omega (arith, again, here)

-- all but the first
abbrev pub rest_of : List TypedConst → List TypedConst
rest_of parts = take (length parts - 1) (drop 1 parts)

take_length : (xs : List TypedConst) → take (length xs) xs ≡ xs
take_length [] = refl
take_length (x ∷ xs) = ap (λ (ys : List TypedConst). x ∷ ys) (take_length xs)

rest_is : (x : TypedConst) (xs : List TypedConst) → rest_of (x ∷ xs) ≡ xs
rest_is x xs = ap (λ (n : ℕ). take n xs) (omega arith) ∙ take_length xs

-- the first, and those behind it
pub parted : (parts : List TypedConst) (first : TypedConst) → nat_eq (length parts) 0 ≡ false → first ≡ get_or parts 0 first → parts ≡ first ∷ rest_of parts
parted [] first some is = absurd (false≢true (sym some))
parted (x ∷ xs) first some is = λ i. sym is i ∷ sym (rest_is x xs) i

pub rest_within : (parts : List TypedConst) (first : TypedConst) (rest : List TypedConst) → parts ≡ first ∷ rest → top rest ≤ top parts
rest_within parts first rest is = let same = ap top is in omega (arith, same)

pub first_within : (parts : List TypedConst) (first : TypedConst) (rest : List TypedConst) → parts ≡ first ∷ rest → first.value < top parts
first_within parts first rest is = let same = ap top is in omega (arith, same)

-- what all have, the first and the others have
pub first_has : (P : TypedConst → Type 0) (first : TypedConst) (rest : List TypedConst) → All P (first ∷ rest) → P first
first_has P first rest h = h 0 first (omega arith)

pub rest_have : (P : TypedConst → Type 0) (first : TypedConst) (rest : List TypedConst) → All P (first ∷ rest) → All P rest
rest_have P first rest h = λ k d lt. h (suc k) d (omega (arith, lt))

pub all_more : (P : TypedConst → Type 0) (first : TypedConst) (rest : List TypedConst) → P first → All P rest → (k : ℕ) (d : TypedConst) → k < length (first ∷ rest) → P (get_or (first ∷ rest) k d)
all_more P first rest h others zero d lt = h
all_more P first rest h others (suc k) d lt = others k d (omega (arith, lt))

-- an item has what all have
pub item_has : (P : TypedConst → Type 0) (parts : List TypedConst) (k : ℕ) (item : TypedConst) → k < length parts → item ≡ get_or parts k item → All P parts → P item
item_has P parts k item lt is all = subst P (sym is) (all k item lt)
