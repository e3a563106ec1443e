-- Names that stand once each, by how often each stands.
use Rattle.std.proofs.Common.{◌≡◌, ℕ, ◌+◌, ◌≤◌, Bool, true, false, ◌||◌, ◌⊎◌, inl, inr, List, [], ◌∷◌, ◌++◌, map, filter_map, Option, Some, None, refl, sym, ap, ◌∙◌, subst, bytes_eq, arith}
use Rattle.std.specs.List.{cons_option, list_any, list_all}
use Rattle.std.proofs.lemmas.Bool.{and_from, and_parts, or_parts, cases_Bool, not_from_false}
use Rattle.ir_tables.specs.Table.{is_distinct}
use Rattle.module_arena.specs.Module.{Bytes}
use Rattle.extract_rules.proofs.OnValid.Distinct.{Apart}
use Rattle.extract_rules.proofs.Among.{name_self, name_exact}

abbrev pub one_if : Bool → ℕ
one_if true = 1
one_if false = 0

-- how often a name stands in a list
abbrev pub often : Bytes → List Bytes → ℕ
often n [] = 0
often n (x ∷ xs) = one_if (bytes_eq n x) + often n xs

pub often_both : (n : Bytes) (xs ys : List Bytes) → often n (xs ++ ys) ≡ often n xs + often n ys
often_both n [] ys = omega arith
often_both n (x ∷ xs) ys = let h = often_both n xs ys in omega (arith, h)

never_often : (n : Bytes) (xs : List Bytes) → list_any (bytes_eq n) xs ≡ false → often n xs ≡ 0
never_often n [] h = refl
never_often n (x ∷ xs) h =
    let both = or_parts (bytes_eq n x) _ h in
    let here = ap one_if both.0 in
    let rest = never_often n xs both.1 in
    omega (arith, here, rest)

often_never : (n : Bytes) (xs : List Bytes) → often n xs ≤ 0 → list_any (bytes_eq n) xs ≡ false
often_never n [] h = refl
often_never n (x ∷ xs) h = go (bytes_eq n x) h (often_never n xs)
  where
    go : (b : Bool) → one_if b + often n xs ≤ 0 → (often n xs ≤ 0 → list_any (bytes_eq n) xs ≡ false) → (b || list_any (bytes_eq n) xs) ≡ false
    go false h more = more (omega (arith, h))
    go true h more = absurd (omega (arith, h))

pub apart_once : (xs : List Bytes) → Apart xs → (n : Bytes) → often n xs ≤ 1
apart_once [] a n = omega arith
apart_once (x ∷ xs) a n = go (cases_Bool (bytes_eq n x)) (apart_once xs a.1 n)
  where
    go : (bytes_eq n x ≡ true) ⊎ (bytes_eq n x ≡ false) → often n xs ≤ 1 → one_if (bytes_eq n x) + often n xs ≤ 1
    go (inl t) h =
        let here = ap one_if t in
        let rest = never_often n xs (subst (λ z. list_any (bytes_eq z) xs ≡ false) (sym (name_exact n x t)) a.0) in
        omega (arith, here, rest)
    go (inr f) h = let here = ap one_if f in omega (arith, here, h)

pub once_distinct : (xs : List Bytes) → ((n : Bytes) → often n xs ≤ 1) → is_distinct bytes_eq xs ≡ true
once_distinct [] h = refl
once_distinct (x ∷ xs) h =
    let here = ap one_if (name_self x) in
    let first = h x in
    and_from _ _ (not_from_false _ (often_never x xs (omega (arith, here, first)))) (once_distinct xs (λ n. let all = h n in omega (arith, all)))

-- what is made of some of the elements, under their names, has no name more often
pub often_made : {X Y : Type 0} (key : X → Bytes) (name : Y → Bytes) (f : X → Option Y) → ((x : X) (y : Y) → f x ≡ Some y → name y ≡ key x) → (n : Bytes) (xs : List X) → often n (map name (filter_map f xs)) ≤ often n (map key xs)
often_made key name f same n [] = omega arith
often_made {Y = Y} key name f same n (x ∷ xs) = go (f x) refl (often_made key name f same n xs)
  where
    go : (o : Option Y) → f x ≡ o → often n (map name (filter_map f xs)) ≤ often n (map key xs) → often n (map name (cons_option o (filter_map f xs))) ≤ one_if (bytes_eq n (key x)) + often n (map key xs)
    go None e h = omega (arith, h)
    go (Some y) e h = let here = ap (λ z. one_if (bytes_eq n z)) (same x y e) in omega (arith, here, h)

found_passes : (p : Bytes → Bool) (n : Bytes) (ys : List Bytes) → 1 ≤ often n ys → list_all p ys ≡ true → p n ≡ true
found_passes p n [] h a = absurd (omega (arith, h))
found_passes p n (y ∷ ys) h a = go (cases_Bool (bytes_eq n y)) (λ k. found_passes p n ys k (and_parts (p y) _ a).1)
  where
    go : (bytes_eq n y ≡ true) ⊎ (bytes_eq n y ≡ false) → (1 ≤ often n ys → p n ≡ true) → p n ≡ true
    go (inl t) more = ap p (name_exact n y t) ∙ (and_parts (p y) _ a).0
    go (inr f) more = let here = ap one_if f in more (omega (arith, h, here))

-- what all names of a list pass, those pass that stand no more often than there
pub all_of_fewer : (p : Bytes → Bool) (xs ys : List Bytes) → ((n : Bytes) → often n xs ≤ often n ys) → list_all p ys ≡ true → list_all p xs ≡ true
all_of_fewer p [] ys h a = refl
all_of_fewer p (x ∷ xs) ys h a =
    let here = ap one_if (name_self x) in
    let first = h x in
    and_from _ _ (found_passes p x ys (omega (arith, here, first)) a) (all_of_fewer p xs ys (λ n. let all = h n in omega (arith, all)) a)
