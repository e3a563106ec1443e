-- Lists without repeats, and places in them.
use Rattle.std.proofs.Common.{◌≡◌, Bool, true, false, not, ◌||◌, List, [], ◌∷◌, refl, ap, subst, filter}
use Rattle.std.specs.List.{list_any}
use Rattle.std.proofs.lemmas.Bool.{or_left, or_right, or_from, or_parts, both_ways, cond_both, false_from_ne_true}
use Rattle.linkage_rules.specs.Lists.{firsts, has}

pub any_filter : {A : Type 0} (test p : A → Bool) (xs : List A) → list_any test xs ≡ false → list_any test (filter p xs) ≡ false
any_filter test p [] h = refl
any_filter test p (x ∷ xs) h =
    let parts = or_parts (test x) (list_any test xs) h in
    let rest = any_filter test p xs parts.1 in
    cond_both (p x) (x ∷ filter p xs) (filter p xs) (λ ys. list_any test ys ≡ false) (λ _. or_from (test x) (list_any test (filter p xs)) parts.0 rest) (λ _. rest)

-- a filter keeps what passes
pub any_kept : {A : Type 0} (test p : A → Bool) (xs : List A) → ((x : A) → test x ≡ true → p x ≡ true) → list_any test xs ≡ true → list_any test (filter p xs) ≡ true
any_kept test p [] f h = h
any_kept test p (x ∷ xs) f h = go (test x) refl (any_kept test p xs f)
  where
    go : (b : Bool) → test x ≡ b → (list_any test xs ≡ true → list_any test (filter p xs) ≡ true) → list_any test (filter p (x ∷ xs)) ≡ true
    go true e more = rw (f x e) (or_left (test x) _ e)
    go false e more =
        let rest = more (subst (λ c. (c || list_any test xs) ≡ true) e h) in
        cond_both (p x) (x ∷ filter p xs) (filter p xs) (λ ys. list_any test ys ≡ true) (λ _. or_right (test x) _ rest) (λ _. rest)

module _ {A : Type 0} (same : A → A → Bool) (self : (x : A) → same x x ≡ true) (exact : (x y : A) → same x y ≡ true → x ≡ y) where
  pub other_way : (x y : A) → same x y ≡ false → same y x ≡ false
  other_way x y h = false_from_ne_true (same y x) (λ e. both_ways (same x y) h (subst (λ z. same z y ≡ true) (exact y x e) (self y)))

  pub has_firsts : (xs : List A) (x : A) → has same xs x ≡ true → has same (firsts same xs) x ≡ true
  has_firsts [] x h = h
  has_firsts (y ∷ xs) x h = go (same x y) refl (has_firsts xs x)
    where
      go : (b : Bool) → same x y ≡ b → (has same xs x ≡ true → has same (firsts same xs) x ≡ true) → has same (firsts same (y ∷ xs)) x ≡ true
      go true e more = or_left (same x y) _ e
      go false e more =
          let there = more (subst (λ c. (c || has same xs x) ≡ true) e h) in
          or_right (same x y) _ (any_kept (same x) (λ z. not (same y z)) (firsts same xs) (λ z s. ap not (subst (λ w. same y w ≡ false) (exact x z s) (other_way x y e))) there)

  pub firsts_has : (xs : List A) (x : A) → has same xs x ≡ false → has same (firsts same xs) x ≡ false
  firsts_has [] x h = refl
  firsts_has (y ∷ xs) x h =
      let parts = or_parts (same x y) (has same xs x) h in
      or_from (same x y) _ parts.0 (any_filter (same x) _ (firsts same xs) (firsts_has xs x parts.1))
