-- Operands that are appended one behind the other.
use Rattle.std.proofs.Common.{◌≡◌, ℕ, ◌+◌, ◌<◌, ◌≤◌, List, [], ◌∷◌, ◌++◌, length, drop, get_or, append_assoc, sym, ap, ◌∙◌}
use Rattle.std.proofs.lemmas.List.{at_drop_more, at_drop_all, append-nil}

-- behind an empty list
pub from_empty : (o x n : List ℕ) → o ≡ [] → n ≡ o ++ x → n ≡ x
from_empty o x n empty e = e ∙ ap (λ (l : List ℕ). l ++ x) empty

-- a list that is appended part by part, each by `one`
module _ {A : Type 0} (all : List A → List ℕ) (one : A → List ℕ) (more : (x : A) (xs : List A) → all (x ∷ xs) ≡ one x ++ all xs) where
  -- one part more
  pub part_more : (xs : List A) (k : ℕ) (x : A) (now next whole : List ℕ) → k < length xs → x ≡ get_or xs k x → now ++ all (drop k xs) ≡ whole → next ≡ now ++ one x → next ++ all (drop (k + 1) xs) ≡ whole
  part_more xs k x now next whole lt is before step =
      ap (λ (l : List ℕ). l ++ all (drop (k + 1) xs)) step
      ∙ append_assoc now (one x) (all (drop (k + 1) xs))
      ∙ ap (λ (l : List ℕ). now ++ l) (sym (more x (drop (k + 1) xs)) ∙ ap (λ (y : A). all (y ∷ drop (k + 1) xs)) is ∙ sym (at_drop_more all xs k x lt))
      ∙ before

  -- none is left
  pub part_end : all [] ≡ [] → (xs : List A) (k : ℕ) (now whole : List ℕ) → length xs ≤ k → now ++ all (drop k xs) ≡ whole → now ≡ whole
  part_end none xs k now whole le before = sym (append-nil now) ∙ ap (λ (l : List ℕ). now ++ l) (sym (at_drop_all all xs k le ∙ none)) ∙ before
