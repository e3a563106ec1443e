-- Lists of which no two elements are the same.
use Rattle.std.proofs.Common.{◌≡◌, List, [], ◌∷◌, ◌++◌, Bool, true, false, not}
use Rattle.std.specs.Prelude.{⊤}
use Rattle.std.specs.List.{AllByRecursion, list_any}
use Rattle.std.proofs.lemmas.Bool.{and_parts, or_parts, not-true}
use Rattle.linkage_rules.proofs.Gathered.{all_joined}
use Rattle.ir_tables.specs.Table.{is_distinct}

all_front : {A : Type 0} (P : A → Type 0) (xs ys : List A) → AllByRecursion P (xs ++ ys) → AllByRecursion P xs × AllByRecursion P ys
all_front P [] ys h = (tt, h)
all_front P (x ∷ xs) ys h = let r = all_front P xs ys h.1 in ((h.0, r.0), r.1)

module _ {A : Type 0} (same : A → A → Bool) where
  -- no two are the same
  abbrev pub Distinct : List A → Type 0
  Distinct [] = ⊤
  Distinct (x ∷ xs) = AllByRecursion (λ y. same x y ≡ false) xs × Distinct xs

  -- none of these is one of those
  abbrev pub Cross : List A → List A → Type 0
  Cross xs ys = AllByRecursion (λ x. AllByRecursion (λ y. same x y ≡ false) ys) xs

  none_same : (x : A) (xs : List A) → list_any (same x) xs ≡ false → AllByRecursion (λ y. same x y ≡ false) xs
  none_same x [] h = tt
  none_same x (y ∷ xs) h = let p = or_parts (same x y) (list_any (same x) xs) h in (p.0, none_same x xs p.1)

  pub distinct_is : (xs : List A) → is_distinct same xs ≡ true → Distinct xs
  distinct_is [] h = tt
  distinct_is (x ∷ xs) h =
      let p = and_parts (not (list_any (same x) xs)) (is_distinct same xs) h in (none_same x xs (not-true (list_any (same x) xs) p.0), distinct_is xs p.1)

  pub parts_of : (xs ys : List A) → Distinct (xs ++ ys) → Distinct xs × Distinct ys × Cross xs ys
  parts_of [] ys h = (tt, h, tt)
  parts_of (x ∷ xs) ys h =
      let r = parts_of xs ys h.1 in
      let f = all_front (λ y. same x y ≡ false) xs ys h.0 in
      ((f.0, r.0), r.1, (f.1, r.2))

  pub joined : (xs ys : List A) → Distinct xs → Distinct ys → Cross xs ys → Distinct (xs ++ ys)
  joined [] ys h g c = g
  joined (x ∷ xs) ys h g c = (all_joined (λ y. same x y ≡ false) xs ys h.0 c.0, joined xs ys h.1 g c.1)

  module _ (turned : (x y : A) → same x y ≡ false → same y x ≡ false) where
    none_crossed : (ys : List A) → Cross ys []
    none_crossed [] = tt
    none_crossed (y ∷ ys) = (tt, none_crossed ys)

    one_crossed : (x : A) (xs ys : List A) → AllByRecursion (λ y. same x y ≡ false) ys → Cross ys xs → Cross ys (x ∷ xs)
    one_crossed x xs [] h c = tt
    one_crossed x xs (y ∷ ys) h c = ((turned x y h.0, c.0), one_crossed x xs ys h.1 c.1)

    pub crossed : (xs ys : List A) → Cross xs ys → Cross ys xs
    crossed [] ys c = none_crossed ys
    crossed (x ∷ xs) ys c = one_crossed x xs ys c.0 (crossed xs ys c.1)

    -- the same in another order
    pub reordered : (xs ys zs : List A) → Distinct (xs ++ (ys ++ zs)) → Distinct (xs ++ (zs ++ ys))
    reordered xs ys zs h =
        let p = parts_of xs (ys ++ zs) h in
        let q = parts_of ys zs p.1 in
        joined xs (zs ++ ys) p.0 (joined zs ys q.1 q.0 (crossed ys zs q.2)) (both xs p.2)
      where
        both : (ws : List A) → Cross ws (ys ++ zs) → Cross ws (zs ++ ys)
        both [] c = tt
        both (w ∷ ws) c = let f = all_front (λ y. same w y ≡ false) ys zs c.0 in (all_joined (λ y. same w y ≡ false) zs ys f.1 f.0, both ws c.1)
