-- Leaves that are appended one behind the other.
use Rattle.std.proofs.Common.{◌≡◌, ℕ, ◌+◌, ◌<◌, ◌≤◌, List, [], ◌∷◌, ◌++◌, length, drop, get_or, Result, Ok, Err, OnOk, append_assoc, append-nil, sym, ap, ◌∙◌}
use Rattle.std.proofs.lemmas.List.{at_drop_more, at_drop_all}
use Rattle.ir_eval.specs.declared.value.Scalar.{Scalar}

-- the same leaves in other words
pub reworded : {E : Type 0} (r : Result (Unit {0}) E) (old new xs ys : List Scalar) → OnOk r (new ≡ old ++ xs) → xs ≡ ys → OnOk r (new ≡ old ++ ys)
reworded (Ok u) old new xs ys e same = e ∙ ap (λ (l : List Scalar). old ++ l) same
reworded (Err e) old new xs ys h same = tt

-- no leaves
pub none_pushed : (old xs : List Scalar) → xs ≡ [] → old ≡ old ++ xs
none_pushed old xs e = sym (append-nil old) ∙ ap (λ (l : List Scalar). old ++ l) (sym e)

-- a list that is appended part by part, each by `one`
module _ {A : Type 0} (all : List A → List Scalar) (one : A → List Scalar) (more : (x : A) (xs : List A) → all (x ∷ xs) ≡ one x ++ all xs) where
  -- one part more
  pub part_more : (xs : List A) (k : ℕ) (x : A) (now next whole : List Scalar) → k < length xs → x ≡ get_or xs k x → now ++ all (drop k xs) ≡ whole → next ≡ now ++ one x → next ++ all (drop (k + 1) xs) ≡ whole
  part_more xs k x now next whole lt is before step =
      ap (λ (l : List Scalar). l ++ all (drop (k + 1) xs)) step
      ∙ append_assoc now (one x) (all (drop (k + 1) xs))
      ∙ ap (λ (l : List Scalar). now ++ l) (sym (more x (drop (k + 1) xs)) ∙ ap (λ (y : A). all (y ∷ drop (k + 1) xs)) is ∙ sym (at_drop_more all xs k x lt))
      ∙ before

  -- none is left
  pub part_end : all [] ≡ [] → (xs : List A) (k : ℕ) (now whole : List Scalar) → length xs ≤ k → now ++ all (drop k xs) ≡ whole → now ≡ whole
  part_end none xs k now whole le before = sym (append-nil now) ∙ ap (λ (l : List Scalar). now ++ l) (sym (at_drop_all all xs k le ∙ none)) ∙ before
