-- Lists without repeats, and places in them.
use Rattle.std.proofs.Common.{◌≡◌, ℕ, zero, suc, Bool, true, false, not, cond, ◌||◌, ◌&&◌, List, [], ◌∷◌, map, Some, refl, sym, ap, ap₂, ◌∙◌, subst, filter, option_map}
use Rattle.std.specs.Prelude.{slice_get}
use Rattle.std.specs.List.{list_any}
use Rattle.std.specs.Map.{lookup}
use Rattle.std.proofs.lemmas.Bool.{or_left, or_right, or_from, or_parts, and_right, and_left, and_from, cond-true, cond-false, cond_both}
use Rattle.std.proofs.lemmas.Option.{same_Some, slice_get-map}
use Rattle.linkage_rules.specs.Lists.{firsts, has}
use Rattle.linkage_rules.proofs.Lists.{any_filter, other_way}

-- no element is the same as one after it
abbrev pub Apart : {A : Type 0} → (A → A → Bool) → List A → Type 0
Apart same [] = Unit {0}
Apart same (x ∷ xs) = (list_any (same x) xs ≡ false) × Apart same xs

-- where none passes, the one at a place does not
pub none_at : {A : Type 0} (test : A → Bool) (xs : List A) (k : ℕ) (y : A) → list_any test xs ≡ false → slice_get xs k ≡ Some y → test y ≡ false
none_at test [] k y h e = cc
none_at test (x ∷ xs) zero y h e = subst (λ z. test z ≡ false) (same_Some x y e) (or_parts (test x) (list_any test xs) h).0
none_at test (x ∷ xs) (suc k) y h e = none_at test xs k y (or_parts (test x) (list_any test xs) h).1 e

-- a filter that throws out what the test finds leaves nothing that it finds
pub none_left : {A : Type 0} (test : A → Bool) (xs : List A) → list_any test (filter (λ y. not (test y)) xs) ≡ false
none_left test [] = refl
none_left test (x ∷ xs) = go (test x) refl (none_left test xs)
  where
    go : (b : Bool) → test x ≡ b → list_any test (filter (λ y. not (test y)) xs) ≡ false → list_any test (cond (not (test x)) (x ∷ filter (λ y. not (test y)) xs) (filter (λ y. not (test y)) xs)) ≡ false
    go true e rest = rw e rest
    go false e rest = rw e (or_from (test x) _ e rest)

-- a filter that throws out what the test does not find changes nothing
pub all_left : {A : Type 0} (test : A → Bool) (xs : List A) → list_any test xs ≡ false → filter (λ y. not (test y)) xs ≡ xs
all_left test [] h = refl
all_left test (x ∷ xs) h =
    let parts = or_parts (test x) (list_any test xs) h in
    cond-true (not (test x)) _ _ (ap not parts.0) ∙ ap (λ ys. x ∷ ys) (all_left test xs parts.1)

module _ {A : Type 0} (same : A → A → Bool) (self : (x : A) → same x x ≡ true) (exact : (x y : A) → same x y ≡ true → x ≡ y) where
  pub has_at : (xs : List A) (k : ℕ) (x : A) → slice_get xs k ≡ Some x → has same xs x ≡ true
  has_at [] k x h = cc
  has_at (y ∷ xs) zero x h = or_left (same x y) _ (subst (λ z. same x z ≡ true) (sym (same_Some y x h)) (self x))
  has_at (y ∷ xs) (suc k) x h = or_right (same x y) _ (has_at xs k x h)

  pub at_has : (xs : List A) (x : A) → has same xs x ≡ true → (k : ℕ) × (slice_get xs k ≡ Some x)
  at_has [] x h = cc
  at_has (y ∷ xs) x h = go (same x y) refl (at_has xs x)
    where
      go : (b : Bool) → same x y ≡ b → (has same xs x ≡ true → (k : ℕ) × (slice_get xs k ≡ Some x)) → (k : ℕ) × (slice_get (y ∷ xs) k ≡ Some x)
      go true e more = (0, ap Some (sym (exact x y e)))
      go false e more = let r = more (subst (λ c. (c || has same xs x) ≡ true) e h) in (suc r.0, r.1)

  pub apart_filter : (p : A → Bool) (xs : List A) → Apart same xs → Apart same (filter p xs)
  apart_filter p [] h = tt
  apart_filter p (x ∷ xs) h =
      let rest = apart_filter p xs h.1 in
      cond_both (p x) (x ∷ filter p xs) (filter p xs) (Apart same) (λ _. (any_filter (same x) p xs h.0, rest)) (λ _. rest)

  pub apart_firsts : (xs : List A) → Apart same (firsts same xs)
  apart_firsts [] = tt
  apart_firsts (x ∷ xs) = (none_left (same x) (firsts same xs), apart_filter _ (firsts same xs) (apart_firsts xs))

  pub firsts_apart : (xs : List A) → Apart same xs → firsts same xs ≡ xs
  firsts_apart [] h = refl
  firsts_apart (x ∷ xs) h = ap (λ ys. x ∷ filter (λ y. not (same x y)) ys) (firsts_apart xs h.1) ∙ ap (λ ys. x ∷ ys) (all_left (same x) xs h.0)

  pub lookup_at : {B : Type 0} (rows : List (A × B)) (k : ℕ) (x : A) (b : B) → Apart same (map (λ r. r.0) rows) → slice_get rows k ≡ Some (x, b) → lookup (same x) rows ≡ Some b
  lookup_at [] k x b a h = cc
  lookup_at (r ∷ rows) zero x b a h =
      let e = same_Some r (x, b) h in
      cond-true (same x r.0) _ _ (subst (λ z. same x z ≡ true) (sym (ap (λ q. q.0) e)) (self x)) ∙ ap (λ q. Some q.1) e
  lookup_at (r ∷ rows) (suc k) x b a h =
      let there : slice_get (map (λ q. q.0) rows) k ≡ Some x = slice_get-map (λ q. q.0) rows k ∙ ap (option_map (λ q. q.0)) h in
      cond-false (same x r.0) _ _ (other_way same self exact r.0 x (none_at (same r.0) (map (λ q. q.0) rows) k x a.0 there)) ∙ lookup_at rows k x b a.1 h

  -- a filter by a key that none has
  pub filter_none : {B : Type 0} (key : B → A) (d : B → Bool) (x : A) (es : List B) → list_any (same x) (map key es) ≡ false → filter (λ e. d e && same x (key e)) es ≡ []
  filter_none key d x [] h = refl
  filter_none key d x (e ∷ es) h =
      let parts = or_parts (same x (key e)) (list_any (same x) (map key es)) h in
      cond-false (d e && same x (key e)) _ _ (and_right (d e) (same x (key e)) parts.0) ∙ filter_none key d x es parts.1

  pub filter_at : {B : Type 0} (key : B → A) (d : B → Bool) (es : List B) (k : ℕ) (e : B) → Apart same (map key es) → slice_get es k ≡ Some e → filter (λ x. d x && same (key e) (key x)) es ≡ cond (d e) (e ∷ []) []
  filter_at key d [] k e a h = cc
  filter_at key d (x ∷ es) zero e a h = go (d e) refl
    where
      is : x ≡ e
      is = same_Some x e h

      rest : filter (λ y. d y && same (key e) (key y)) es ≡ []
      rest = filter_none key d (key e) es (subst (λ z. list_any (same (key z)) (map key es) ≡ false) is a.0)

      go : (b : Bool) → d e ≡ b → filter (λ y. d y && same (key e) (key y)) (x ∷ es) ≡ cond (d e) (e ∷ []) []
      go true t =
          cond-true (d x && same (key e) (key x)) _ _ (and_from _ _ (ap d is ∙ t) (subst (λ z. same (key e) (key z) ≡ true) (sym is) (self (key e))))
          ∙ ap₂ (λ y ys. y ∷ ys) is rest ∙ sym (cond-true (d e) _ _ t)
      go false t =
          cond-false (d x && same (key e) (key x)) _ _ (and_left _ _ (ap d is ∙ t)) ∙ rest ∙ sym (cond-false (d e) _ _ t)
  filter_at key d (x ∷ es) (suc k) e a h =
      let there : slice_get (map key es) k ≡ Some (key e) = slice_get-map key es k ∙ ap (option_map key) h in
      cond-false (d x && same (key e) (key x)) _ _ (and_right (d x) _ (other_way same self exact (key x) (key e) (none_at (same (key x)) (map key es) k (key e) a.0 there)))
      ∙ filter_at key d es k e a.1 h
