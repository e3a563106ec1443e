-- getelementptr: each index is an integer of its width, and each field lies within reach.
use Rattle.std.proofs.Common.{◌≡◌, ℕ, ◌+◌, List, [], ◌∷◌, map, refl, Bool, true, ◌&&◌, lit<}
use Rattle.std.specs.List.{AllByRecursion, list_all}
use Rattle.std.proofs.lemmas.Bool.{and_parts}
use Rattle.std.proofs.lemmas.List.Elements.{All-from_recursion}
use Rattle.ir_eval.specs.Value.{IsWidth}
use Rattle.ir_memory.specs.declared.leaf.Leaf.TheVariants as leaf
use Rattle.type_table.specs.Shape.{Shape, int_leaf, ptr_leaf, void_leaf, opaque_leaf, array_of, struct_of}
use Rattle.type_table.specs.Tree.{Tree}
use Rattle.module_arena.specs.Constants.{leads_to_part, indices_fit}
use Rattle.module_arena.specs.Module.{Value, Operand}
use Rattle.module_arena.specs.TypeTests.{is_integer, is_pointer, lies_in_memory}
use Rattle.module_arena.specs.ValueRules.{index_of_operand}
use Rattle.module_arena.specs.WellFormed.{is_good_type, are_good_structs}
use Rattle.run_rules.specs.Action.{Action}
use Rattle.run_rules.specs.Constant.{shape_of}
use Rattle.run_rules.specs.Displace.{TermIndex, number_in, inner_term, inner_terms, terms_of}
use Rattle.run_rules.specs.Leaves.{element}
use Rattle.run_rules.specs.Resolve.{index_in}
use Rattle.run_rules.specs.Scope.{FunctionScope, scalar_of}
use Rattle.typed_runs.specs.Actions.{Typing, IsOrigin, IsResult, IsPlace, IsTerm, IsTypedAction}
use Rattle.typed_runs.proofs.OnTypes.Laid.{IsLaid, element_laid, offset_small, type_laid}
use Rattle.typed_runs.specs.Action.Asked.{HasLeaves, IsGoodOperand}
use Rattle.typed_runs.proofs.OnAction.Scalars.{pointer_width, pointer_leaf, width_leaf}

module _ (t : Typing) (look : ℕ → ℕ → ℕ → Action) (n : ℕ) where
  -- an index is an integer of its width
  abbrev IsGoodIndex : TermIndex → Type 0
  IsGoodIndex i = IsWidth i.width × IsOrigin t look n (leaf.Int i.width) i.origin

  inner_term_typed : (s : Shape) (i : TermIndex) → IsLaid s → IsGoodIndex i → IsTerm t look n (inner_term s i)
  inner_term_typed (int_leaf w) i laid h = (pointer_width, lit< tt)
  inner_term_typed ptr_leaf i laid h = (pointer_width, lit< tt)
  inner_term_typed void_leaf i laid h = (pointer_width, lit< tt)
  inner_term_typed (opaque_leaf label) i laid h = (pointer_width, lit< tt)
  inner_term_typed (array_of k s) i laid h = h
  inner_term_typed (struct_of label packed ss) i laid h = (pointer_width, offset_small packed ss (number_in i) laid.0)

  inner_typed : (s : Shape) (is : List TermIndex) → IsLaid s → AllByRecursion IsGoodIndex is → AllByRecursion (IsTerm t look n) (inner_terms s is)
  inner_typed s [] laid h = tt
  inner_typed s (i ∷ is) laid h = (inner_term_typed s i laid h.0, inner_typed (element s (number_in i)) is (element_laid s (number_in i) laid) h.1)

  terms_typed : (s : Shape) (is : List TermIndex) → IsLaid s → AllByRecursion IsGoodIndex is → AllByRecursion (IsTerm t look n) (terms_of s is)
  terms_typed s [] laid h = tt
  terms_typed s (i ∷ is) laid h = (h.0, inner_typed s is laid h.1)

  module _ (sc : FunctionScope) (good : are_good_structs sc.names.structs ≡ true) where
    indices_good : (os : List Operand) → list_all (λ i. is_integer i.ty) (map index_of_operand os) ≡ true → AllByRecursion (IsGoodOperand t look n sc) os → AllByRecursion IsGoodIndex (map (index_in sc) os)
    indices_good [] h g = tt
    indices_good (o ∷ os) h g =
        let q = and_parts (is_integer o.ty) (list_all (λ i. is_integer i.ty) (map index_of_operand os)) h in
        (width_leaf t look n sc o.ty o.value q.0 g.0.1 g.0.0, indices_good os q.1 g.1)

    integers : (source : Tree) (os : List Operand) → indices_fit sc.names.structs source (map index_of_operand os) ≡ true → list_all (λ i. is_integer i.ty) (map index_of_operand os) ≡ true
    integers source [] h = refl
    integers source (o ∷ os) h = (and_parts (list_all (λ i. is_integer i.ty) (map index_of_operand (o ∷ os))) (leads_to_part sc.names.structs source (map index_of_operand os)) h).0

    pub displace_typed : (inbounds : Bool) (source base : Tree) (v : Value) (os : List Operand) (to k p : ℕ) → (is_pointer base && indices_fit sc.names.structs source (map index_of_operand os)) ≡ true
        → is_good_type sc.names.structs source ≡ true → lies_in_memory sc.names.structs source ≡ true → HasLeaves t look n sc base v → AllByRecursion (IsGoodOperand t look n sc) os
        → IsResult t look n to (leaf.Ptr ∷ []) → IsPlace t look n k (p + 1)
        → IsTypedAction t look n k p (Action.Displace to inbounds (scalar_of sc base v) (terms_of (shape_of sc.names source) (map (index_in sc) os)))
    displace_typed inbounds source base v os to k p h g lies has indices at next =
        let q = and_parts (is_pointer base) (indices_fit sc.names.structs source (map index_of_operand os)) h in (
          pointer_leaf t look n sc base v q.0 has,
          All-from_recursion (IsTerm t look n) (terms_of (shape_of sc.names source) (map (index_in sc) os))
              (terms_typed (shape_of sc.names source) (map (index_in sc) os) (type_laid sc.names.structs good source g lies) (indices_good os (integers source os q.1) indices)),
          at,
          next,
        )
