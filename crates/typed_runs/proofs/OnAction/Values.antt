-- select and freeze go leaf by leaf.
use Rattle.std.proofs.Common.{◌≡◌, ℕ, ◌+◌, List, [], ◌∷◌, map, zip, refl, sym, subst, Bool, true, ◌&&◌}
use Rattle.std.specs.List.{AllZip}
use Rattle.std.proofs.lemmas.Bool.{and_parts}
use Rattle.ir_memory.specs.declared.leaf.Leaf.{Leaf}
use Rattle.ir_memory.specs.declared.leaf.Leaf.TheVariants as leaf
use Rattle.type_table.specs.Tree.{Tree, int}
use Rattle.module_arena.specs.Module.{Value}
use Rattle.module_arena.specs.Same.{same_type}
use Rattle.module_arena.specs.TypeTests.{is_integer_of}
use Rattle.module_arena.proofs.SameValues.{type_is}
use Rattle.run_rules.specs.Action.{Origin, Action}
use Rattle.run_rules.specs.Constant.{shape_of}
use Rattle.run_rules.specs.Leaves.{Slot, slots, is_pointer}
use Rattle.run_rules.specs.Scope.{FunctionScope, value_in, scalar_of}
use Rattle.typed_runs.specs.Actions.{Typing, IsOrigin, AreOrigins, IsResult, IsPlace, IsTypedAction}
use Rattle.typed_runs.specs.Kinds.{kinds_of}
use Rattle.typed_runs.proofs.OnLook.Constants.{integer_of_is}
use Rattle.typed_runs.specs.Action.Asked.{HasLeaves}
use Rattle.typed_runs.proofs.OnAction.Scalars.{integer_leaf}

module _ (t : Typing) (look : ℕ → ℕ → ℕ → Action) (n : ℕ) where
  -- the arms side by side
  arms_typed : (ks : List Leaf) (xs ys : List Origin) → AreOrigins t look n ks xs → AreOrigins t look n ks ys
      → AllZip (λ kind (arm : Origin × Origin). IsOrigin t look n kind arm.0 × IsOrigin t look n kind arm.1) ks (zip xs ys)
  arms_typed [] [] ys h g = tt
  arms_typed [] (x ∷ xs) ys h g = absurd h
  arms_typed (k ∷ ks) [] ys h g = absurd h
  arms_typed (k ∷ ks) (x ∷ xs) [] h g = absurd g
  arms_typed (k ∷ ks) (x ∷ xs) (y ∷ ys) h g = ((h.0, g.0), arms_typed ks xs ys h.1 g.1)

  -- each leaf, and whether it is a pointer
  frozen_typed : (ss : List Slot) (xs : List Origin) → AreOrigins t look n (map (λ (s : Slot). s.leaf) ss) xs
      → AllZip (λ kind (x : Bool × Origin). (x.0 ≡ is_pointer kind) × IsOrigin t look n kind x.1) (map (λ (s : Slot). s.leaf) ss) (zip (map (λ (s : Slot). is_pointer s.leaf) ss) xs)
  frozen_typed [] xs h = tt
  frozen_typed (s ∷ ss) [] h = absurd h
  frozen_typed (s ∷ ss) (x ∷ xs) h = ((refl, h.0), frozen_typed ss xs h.1)

  module _ (sc : FunctionScope) where
    -- the one leaf of an i1
    pub condition_leaf : (ty : Tree) (v : Value) → is_integer_of 1 ty ≡ true → HasLeaves t look n sc ty v → IsOrigin t look n (leaf.Int 1) (scalar_of sc ty v)
    condition_leaf ty v e h =
        let same : ty ≡ int 1 = integer_of_is 1 ty e in
        subst (λ u. HasLeaves t look n sc u v → IsOrigin t look n (leaf.Int 1) (scalar_of sc u v)) (sym same) (integer_leaf t look n sc 1 v) h

    pub select_typed : (c first second : Tree) (v l r : Value) (to k p : ℕ) → (is_integer_of 1 c && same_type first second) ≡ true
        → HasLeaves t look n sc c v → HasLeaves t look n sc first l → HasLeaves t look n sc second r → IsResult t look n to (kinds_of (shape_of sc.names first)) → IsPlace t look n k (p + 1)
        → IsTypedAction t look n k p (Action.Select to (scalar_of sc c v) (zip (value_in sc first l) (value_in sc second r)))
    select_typed c first second v l r to k p h condition left right at next =
        let q = and_parts (is_integer_of 1 c) (same_type first second) h in (
          condition_leaf c v q.0 condition,
          (
            kinds_of (shape_of sc.names first),
            arms_typed (kinds_of (shape_of sc.names first)) (value_in sc first l) (value_in sc second r) left
                (subst (λ ty. AreOrigins t look n (kinds_of (shape_of sc.names ty)) (value_in sc second r)) (sym (type_is first second q.1)) right),
            at,
          ),
          next,
        )

    pub freeze_typed : (ty : Tree) (v : Value) (to k p : ℕ) → HasLeaves t look n sc ty v → IsResult t look n to (kinds_of (shape_of sc.names ty)) → IsPlace t look n k (p + 1)
        → IsTypedAction t look n k p (Action.Freeze to (zip (map (λ s. is_pointer s.leaf) (slots (shape_of sc.names ty))) (value_in sc ty v)))
    freeze_typed ty v to k p has at next = ((kinds_of (shape_of sc.names ty), frozen_typed (slots (shape_of sc.names ty)) (value_in sc ty v) has, at), next)
