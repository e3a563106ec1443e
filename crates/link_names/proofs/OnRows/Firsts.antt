-- Lists without repeats, and one element more.
use Rattle.std.proofs.Common.{◌≡◌, ℕ, zero, suc, Bool, true, false, not, cond, List, [], ◌∷◌, ◌++◌, Some, refl, sym, ap, ◌∙◌, filter, append-nil}
use Rattle.std.specs.Prelude.{slice_get}
use Rattle.std.specs.List.{list_any}
use Rattle.std.proofs.lemmas.Bool.{cond-true, cond-false, false_from_ne_true, or_left, or_right, or_from, both_ways}
use Rattle.std.proofs.lemmas.List.Elements.{filter-append}
use Rattle.linkage_rules.specs.Lists.{firsts}
use Rattle.linkage_rules.proofs.Lists.{any_filter, any_kept}

pub still_at : {A : Type 0} (done rest : List A) (n : ℕ) (s : A) → slice_get done n ≡ Some s → slice_get (done ++ rest) n ≡ Some s
still_at [] rest n s h = cc
still_at (d ∷ done) rest zero s h = h
still_at (d ∷ done) rest (suc n) s h = still_at done rest n s h

module _ {A : Type 0} (same : A → A → Bool) where
  -- of more elements those of the first are the first
  pub firsts_before : (xs ys : List A) → (rest : List A) × (firsts same (xs ++ ys) ≡ firsts same xs ++ rest)
  firsts_before [] ys = (firsts same ys, refl)
  firsts_before (x ∷ xs) ys =
      let more = firsts_before xs ys in
      (filter (λ y. not (same x y)) more.0, ap (λ l. x ∷ filter (λ y. not (same x y)) l) more.1 ∙ ap (λ l. x ∷ l) (filter-append (λ y. not (same x y)) (firsts same xs) more.0))

  -- one element more, unless it is there
  abbrev pub with_one : Bool → List A → A → List A
  with_one b xs x = cond b xs (xs ++ x ∷ [])

  module _ (through : (x y z : A) → same x y ≡ true → same y z ≡ true → same x z ≡ true) where
    -- the first ones with one element more
    pub firsts_more : (xs : List A) (x : A) → firsts same (xs ++ x ∷ []) ≡ with_one (list_any (λ y. same y x) (firsts same xs)) (firsts same xs) x
    firsts_more [] x = refl
    firsts_more (y ∷ xs) x = go (same y x) refl (list_any (λ z. same z x) (firsts same xs)) refl (firsts_more xs x)
      where
        hidden : same y x ≡ true → (c : Bool) → y ∷ filter (λ z. not (same y z)) (with_one c (firsts same xs) x) ≡ y ∷ filter (λ z. not (same y z)) (firsts same xs)
        hidden e true = refl
        hidden e false =
            ap (λ l. y ∷ l)
            (filter-append (λ z. not (same y z)) (firsts same xs) (x ∷ [])
            ∙ ap (λ l. filter (λ z. not (same y z)) (firsts same xs) ++ l) (cond-false (not (same y x)) (x ∷ []) [] (ap not e))
            ∙ append-nil (filter (λ z. not (same y z)) (firsts same xs)))

        other : same y x ≡ false → (z : A) → same z x ≡ true → not (same y z) ≡ true
        other e z h = ap not (false_from_ne_true (same y z) (λ s. both_ways (same y x) e (through y z x s h)))

        go : (b : Bool) → same y x ≡ b → (c : Bool) → list_any (λ z. same z x) (firsts same xs) ≡ c → firsts same (xs ++ x ∷ []) ≡ with_one (list_any (λ z. same z x) (firsts same xs)) (firsts same xs) x
            → firsts same (y ∷ (xs ++ x ∷ [])) ≡ with_one (list_any (λ z. same z x) (firsts same (y ∷ xs))) (firsts same (y ∷ xs)) x
        go true e c f rest =
            ap (λ l. y ∷ filter (λ z. not (same y z)) l) rest
            ∙ hidden e (list_any (λ z. same z x) (firsts same xs))
            ∙ sym (cond-true (list_any (λ z. same z x) (firsts same (y ∷ xs))) _ _ (or_left (same y x) _ e))
        go false e true f rest =
            ap (λ l. y ∷ filter (λ z. not (same y z)) l) (rest ∙ cond-true (list_any (λ z. same z x) (firsts same xs)) _ _ f)
            ∙ sym (cond-true (list_any (λ z. same z x) (firsts same (y ∷ xs))) _ _ (or_right (same y x) _ (any_kept (λ z. same z x) (λ z. not (same y z)) (firsts same xs) (other e) f)))
        go false e false f rest =
            ap (λ l. y ∷ filter (λ z. not (same y z)) l) (rest ∙ cond-false (list_any (λ z. same z x) (firsts same xs)) _ _ f)
            ∙ ap (λ l. y ∷ l)
            (filter-append (λ z. not (same y z)) (firsts same xs) (x ∷ [])
            ∙ ap (λ l. filter (λ z. not (same y z)) (firsts same xs) ++ l) (cond-true (not (same y x)) (x ∷ []) [] (ap not e)))
            ∙ sym (cond-false (list_any (λ z. same z x) (firsts same (y ∷ xs))) _ _ (or_from (same y x) _ e (any_filter (λ z. same z x) (λ z. not (same y z)) (firsts same xs) f)))
