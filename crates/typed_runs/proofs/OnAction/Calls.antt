-- A call hands over the leaves of its arguments, and these are as the function type says.
use Rattle.std.proofs.Common.{◌≡◌, ℕ, ◌+◌, List, [], ◌∷◌, ◌++◌, map, flat_map, refl, sym, ap, ◌∙◌, Bool, true, false, true≢false}
use Rattle.std.specs.List.{AllByRecursion}
use Rattle.std.proofs.lemmas.Bool.{and_parts}
use Rattle.ir_memory.specs.declared.leaf.Leaf.{Leaf}
use Rattle.type_table.specs.Shape.{Shape}
use Rattle.type_table.specs.Tree.{Tree, ptr}
use Rattle.module_arena.specs.Module.{Value, Operand, Signature}
use Rattle.module_arena.specs.Same.{same_type}
use Rattle.module_arena.specs.ValueRules.{arguments_suit}
use Rattle.module_arena.proofs.SameValues.{type_is}
use Rattle.run_rules.specs.Action.{Origin, Action}
use Rattle.run_rules.specs.Constant.{shape_of}
use Rattle.run_rules.specs.Resolve.{signature_in}
use Rattle.run_rules.specs.Scope.{FunctionScope, operand_in, scalar_of}
use Rattle.typed_runs.specs.Actions.{Typing, AreOrigins, IsResult, IsPlace, IsTypedAction}
use Rattle.typed_runs.specs.Kinds.{kinds_of, kinds_of_all}
use Rattle.typed_runs.specs.Action.Asked.{HasLeaves, IsGoodOperand}
use Rattle.typed_runs.proofs.OnAction.Scalars.{pointer_leaf}

module _ (t : Typing) (look : ℕ → ℕ → ℕ → Action) (n : ℕ) where
  both_had : (ks js : List Leaf) (xs ys : List Origin) → AreOrigins t look n ks xs → AreOrigins t look n js ys → AreOrigins t look n (ks ++ js) (xs ++ ys)
  both_had [] js [] ys h g = g
  both_had [] js (x ∷ xs) ys h g = absurd h
  both_had (k ∷ ks) js [] ys h g = absurd h
  both_had (k ∷ ks) js (x ∷ xs) ys h g = (h.0, both_had ks js xs ys h.1 g)

  module _ (sc : FunctionScope) where
    abbrev shapes : List Operand → List Shape
    shapes os = map (λ (a : Operand). shape_of sc.names a.ty) os

    arguments_typed : (os : List Operand) → AllByRecursion (IsGoodOperand t look n sc) os → AreOrigins t look n (kinds_of_all (shapes os)) (flat_map (operand_in sc) os)
    arguments_typed [] h = tt
    arguments_typed (o ∷ os) h = both_had (kinds_of (shape_of sc.names o.ty)) (kinds_of_all (shapes os)) (operand_in sc o) (flat_map (operand_in sc) os) h.0.0 (arguments_typed os h.1)

    arguments_are : (variadic : Bool) (ts : List Tree) (os : List Operand) → arguments_suit variadic ts os ≡ true → (further : List Shape) × (shapes os ≡ map (shape_of sc.names) ts ++ further) × (variadic ≡ false → further ≡ [])
    arguments_are variadic [] [] h = ([], refl, λ e. refl)
    arguments_are variadic [] (o ∷ os) h = (shapes (o ∷ os), refl, λ e. absurd (true≢false (sym h ∙ e)))
    arguments_are variadic (ty ∷ ts) [] h = absurd (true≢false (sym h))
    arguments_are variadic (ty ∷ ts) (o ∷ os) h =
        let q = and_parts (same_type ty o.ty) (arguments_suit variadic ts os) h in
        let r = arguments_are variadic ts os q.1 in
        let same : shape_of sc.names o.ty ≡ shape_of sc.names ty = ap (shape_of sc.names) (sym (type_is ty o.ty q.0)) in
        (r.0, (λ i. same i ∷ r.1 i), r.2)

    pub call_typed : (signature : Signature) (v : Value) (os : List Operand) (to k p : ℕ) → arguments_suit signature.variadic signature.parameters os ≡ true → HasLeaves t look n sc ptr v
        → AllByRecursion (IsGoodOperand t look n sc) os → IsResult t look n to (kinds_of (shape_of sc.names signature.returns)) → IsPlace t look n k (p + 1)
        → IsTypedAction t look n k p (Action.Call to (signature_in sc.names signature) (scalar_of sc ptr v) (map (λ a. shape_of sc.names a.ty) os) (flat_map (operand_in sc) os))
    call_typed signature v os to k p h callee arguments at next =
        (pointer_leaf t look n sc ptr v refl callee, arguments_typed os arguments, arguments_are signature.variadic signature.parameters os h, at, next)
