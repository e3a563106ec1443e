-- load, store and alloca.
use Rattle.std.proofs.Common.{◌≡◌, ℕ, ◌+◌, List, [], ◌∷◌, map, zip, arith, true, Option, Some, None, lit<, option_to_list}
use Rattle.std.specs.List.{AllByRecursion, list_all}
use Rattle.std.specs.Option.{option_map_or}
use Rattle.std.proofs.lemmas.Bool.{and_parts}
use Rattle.std.proofs.lemmas.List.Elements.{All-from_recursion}
use Rattle.ir_eval.specs.declared.value.Scalar.TheVariants as scalar
use Rattle.ir_eval.specs.Value.{IsWidth}
use Rattle.ir_memory.specs.Given.{IsLeaf, IsAlignment}
use Rattle.ir_memory.specs.declared.leaf.Leaf.TheVariants as leaf
use Rattle.type_table.specs.Tree.{Tree}
use Rattle.module_arena.specs.EntryRules.{alignment_suits}
use Rattle.module_arena.specs.Module.{Value, Operand}
use Rattle.module_arena.specs.TypeTests.{is_integer, is_pointer}
use Rattle.module_arena.specs.WellFormed.{is_good_type, are_good_structs}
use Rattle.run_rules.specs.Action.{Origin, Action}
use Rattle.run_rules.specs.Constant.{shape_of, width_of}
use Rattle.run_rules.specs.Leaves.{Slot, slots}
use Rattle.run_rules.specs.Resolve.{alignment_in}
use Rattle.run_rules.specs.Scope.{FunctionScope, value_in, scalar_in, scalar_of}
use Rattle.typed_runs.specs.Actions.{Typing, IsOrigin, AreOrigins, IsResult, IsPlace, IsTypedAction}
use Rattle.typed_runs.specs.Kinds.{kinds_of}
use Rattle.typed_runs.proofs.OnTypes.Aligned.{shape_aligned, stated_aligned}
use Rattle.typed_runs.proofs.OnTypes.Good.{IsGoodSlot, leaves_good}
use Rattle.typed_runs.specs.Action.Asked.{HasLeaves, IsGoodOperand}
use Rattle.typed_runs.proofs.OnAction.Scalars.{pointer_leaf, width_leaf}

module _ (t : Typing) (look : ℕ → ℕ → ℕ → Action) (n : ℕ) where
  -- a leaf that is stored
  abbrev IsStored : Slot × Origin → Type 0
  IsStored x = IsLeaf x.0.leaf × IsOrigin t look n x.0.leaf x.1

  stored_typed : (ss : List Slot) (xs : List Origin) → AllByRecursion IsGoodSlot ss → AreOrigins t look n (map (λ (s : Slot). s.leaf) ss) xs → AllByRecursion IsStored (zip ss xs)
  stored_typed [] xs g h = tt
  stored_typed (s ∷ ss) [] g h = absurd h
  stored_typed (s ∷ ss) (x ∷ xs) g h = ((g.0, h.0), stored_typed ss xs g.1 h.1)

  module _ (sc : FunctionScope) (good : are_good_structs sc.names.structs ≡ true) where
    aligned : (stated : Option ℕ) (ty : Tree) → alignment_suits stated ≡ true → IsAlignment (alignment_in sc.names stated ty)
    aligned None ty h = shape_aligned (shape_of sc.names ty)
    aligned (Some a) ty h = stated_aligned a h

    pub load_typed : (ty address : Tree) (v : Value) (stated : Option ℕ) (to k p : ℕ) → alignment_suits stated ≡ true → is_pointer address ≡ true → is_good_type sc.names.structs ty ≡ true
        → HasLeaves t look n sc address v → IsResult t look n to (kinds_of (shape_of sc.names ty)) → IsPlace t look n k (p + 1)
        → IsTypedAction t look n k p (Action.Load to (alignment_in sc.names stated ty) (scalar_of sc address v) (slots (shape_of sc.names ty)))
    load_typed ty address v stated to k p a i g has at next =
        (aligned stated ty a, pointer_leaf t look n sc address v i has, All-from_recursion IsGoodSlot (slots (shape_of sc.names ty)) (leaves_good sc.names.structs good ty g), at, next)

    pub store_typed : (ty address : Tree) (v w : Value) (stated : Option ℕ) (k p : ℕ) → alignment_suits stated ≡ true → is_pointer address ≡ true → is_good_type sc.names.structs ty ≡ true
        → HasLeaves t look n sc ty v → HasLeaves t look n sc address w → IsPlace t look n k (p + 1)
        → IsTypedAction t look n k p (Action.Store (alignment_in sc.names stated ty) (scalar_of sc address w) (zip (slots (shape_of sc.names ty)) (value_in sc ty v)))
    store_typed ty address v w stated k p a i g has there next = (
      aligned stated ty a,
      pointer_leaf t look n sc address w i there,
      All-from_recursion IsStored (zip (slots (shape_of sc.names ty)) (value_in sc ty v)) (stored_typed (slots (shape_of sc.names ty)) (value_in sc ty v) (leaves_good sc.names.structs good ty g) has),
      next,
    )

    -- how many values a block is for: one where no count is written
    count_typed : (count : Option Operand) → list_all (λ c. is_integer c.ty) (option_to_list count) ≡ true → AllByRecursion (IsGoodOperand t look n sc) (option_to_list count)
        → (width : ℕ) × IsWidth width × IsOrigin t look n (leaf.Int width) (option_map_or (scalar_in sc) count (Origin.Known (scalar.Int 1)))
    count_typed None h g = (1, record { some = omega arith; most = omega arith }, lit< tt)
    count_typed (Some o) h g =
        let w = width_leaf t look n sc o.ty o.value (and_parts (is_integer o.ty) true h).0 g.0.1 g.0.0 in
        (width_of sc.names o.ty, w.0, w.1)

    pub alloca_typed : (ty : Tree) (count : Option Operand) (stated : Option ℕ) (to size k p : ℕ) → alignment_suits stated ≡ true → list_all (λ c. is_integer c.ty) (option_to_list count) ≡ true
        → AllByRecursion (IsGoodOperand t look n sc) (option_to_list count) → IsResult t look n to (leaf.Ptr ∷ []) → IsPlace t look n k (p + 1)
        → IsTypedAction t look n k p (Action.Allocate to size (alignment_in sc.names stated ty) (option_map_or (scalar_in sc) count (Origin.Known (scalar.Int 1))))
    alloca_typed ty count stated to size k p a i g at next = (aligned stated ty a, count_typed count i g, at, next)
