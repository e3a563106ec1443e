-- Parts of parts, one index after another.
use Rattle.std.proofs.Common.{◌≡◌, ℕ, ◌+◌, ◌<◌, ◌≤◌, List, [], ◌∷◌, length, drop, get_or, true, refl, sym, ap, ◌∙◌, subst, arith}
use Rattle.std.proofs.lemmas.List.{at_drop_more, at_drop_all}
use Rattle.module_arena.specs.TypeTests.{lies_in_memory}
use Rattle.run_rules.specs.Leaves.{element, leaves_before, leaves_before_part, part}
use Rattle.type_table.specs.Layout.{leaves}
use Rattle.type_table.specs.Shape.{Shape}
use Rattle.type_table.specs.Types.{Types, structs, tree}
use Rattle.run_names.specs.declared.types.part.ValuePart.{ValuePart}
use Rattle.run_names.specs.Shapes.Shapes.{HasElement, HasPath, shape_in}

-- from a part the indices from one on lead to where all lead from the whole
pub record IsOnTheWay (t : Types) (whole : ℕ) (indices : List ℕ) (k : ℕ) (p : ValuePart) : Type 0 where
  pub known : p.ty < length t.types
  pub laid : lies_in_memory (structs t) (tree t p.ty) ≡ true
  pub there : HasPath (shape_in t p.ty) (drop k indices)
  pub shape : part (shape_in t p.ty) (drop k indices) ≡ part (shape_in t whole) indices
  pub before : p.before + leaves_before_part (shape_in t p.ty) (drop k indices) ≡ leaves_before_part (shape_in t whole) indices
  pub within : p.before + leaves (shape_in t p.ty) ≤ leaves (shape_in t whole)

-- one index more
pub one_further : (t : Types) (whole : ℕ) (indices : List ℕ) (k i : ℕ) (p q : ValuePart) → k < length indices → i ≡ get_or indices k 0 → IsOnTheWay t whole indices k p
    → q.ty < length t.types → lies_in_memory (structs t) (tree t q.ty) ≡ true → shape_in t q.ty ≡ element (shape_in t p.ty) i → q.before ≡ p.before + leaves_before (shape_in t p.ty) i
    → q.before + leaves (shape_in t q.ty) ≤ p.before + leaves (shape_in t p.ty) → IsOnTheWay t whole indices (k + 1) q
one_further t whole indices k i p q lt is way known laid shape before within =
    let here : drop k indices ≡ i ∷ drop (k + 1) indices = at_drop_more (λ (l : List ℕ). l) indices k 0 lt ∙ ap (λ (n : ℕ). n ∷ drop (k + 1) indices) (sym is) in
    let there : HasElement (shape_in t p.ty) i × HasPath (element (shape_in t p.ty) i) (drop (k + 1) indices) = subst (HasPath (shape_in t p.ty)) here way.there in
    let same : leaves_before_part (shape_in t p.ty) (drop k indices) ≡ leaves_before (shape_in t p.ty) i + leaves_before_part (shape_in t q.ty) (drop (k + 1) indices) =
    ap (leaves_before_part (shape_in t p.ty)) here ∙ ap (λ (s : Shape). leaves_before (shape_in t p.ty) i + leaves_before_part s (drop (k + 1) indices)) (sym shape) in
    let told = way.before in
    let bound = way.within in
    record {
      known = known;
      laid = laid;
      there = subst (λ (s : Shape). HasPath s (drop (k + 1) indices)) (sym shape) there.1;
      shape = ap (λ (s : Shape). part s (drop (k + 1) indices)) shape ∙ ap (part (shape_in t p.ty)) (sym here) ∙ way.shape;
      before = omega (arith, before, same, told);
      within = omega (arith, within, bound);
    }

-- and no index is left
pub at_the_end : (t : Types) (whole : ℕ) (indices : List ℕ) (k : ℕ) (p : ValuePart) → length indices ≤ k → IsOnTheWay t whole indices k p
    → (shape_in t p.ty ≡ part (shape_in t whole) indices) × (p.before ≡ leaves_before_part (shape_in t whole) indices)
at_the_end t whole indices k p le way =
    let none : drop k indices ≡ [] = at_drop_all (λ (l : List ℕ). l) indices k le in
    let rest : leaves_before_part (shape_in t p.ty) (drop k indices) ≡ 0 = ap (leaves_before_part (shape_in t p.ty)) none in
    let told = way.before in
    (ap (part (shape_in t p.ty)) (sym none) ∙ way.shape, omega (arith, rest, told))

-- what the next index leads to is there
pub next_there : (t : Types) (whole : ℕ) (indices : List ℕ) (k i : ℕ) (p : ValuePart) → k < length indices → i ≡ get_or indices k 0 → IsOnTheWay t whole indices k p → HasElement (shape_in t p.ty) i
next_there t whole indices k i p lt is way =
    let here : drop k indices ≡ i ∷ drop (k + 1) indices = at_drop_more (λ (l : List ℕ). l) indices k 0 lt ∙ ap (λ (n : ℕ). n ∷ drop (k + 1) indices) (sym is) in
    let there : HasElement (shape_in t p.ty) i × HasPath (element (shape_in t p.ty) i) (drop (k + 1) indices) = subst (HasPath (shape_in t p.ty)) here way.there in
    there.0

-- before the first index
pub at_first : (t : Types) (whole : ℕ) (indices : List ℕ) → whole < length t.types → lies_in_memory (structs t) (tree t whole) ≡ true → HasPath (shape_in t whole) indices → IsOnTheWay t whole indices 0 (record { ty = whole; before = 0 })
at_first t whole indices known laid there = record { known = known; laid = laid; there = there; shape = refl; before = omega arith; within = omega arith }
