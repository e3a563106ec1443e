-- The values of a valid function have the leaves of their types.
use Rattle.std.proofs.Common.{◌≡◌, ℕ, List, [], ◌∷◌, refl, sym, true, Option, Some, None, option_to_list, true≢false}
use Rattle.std.specs.List.{AllByRecursion, list_all}
use Rattle.std.specs.Option.{option_map_or}
use Rattle.std.proofs.lemmas.Bool.{and_parts}
use Rattle.ir_eval.specs.declared.value.Pointer.{Pointer}
use Rattle.ir_eval.specs.declared.value.Scalar.{Scalar}
use Rattle.ir_memory.specs.declared.leaf.Leaf.TheVariants as leaf
use Rattle.type_table.specs.Tree.{Tree, ptr}
use Rattle.module_arena.specs.Functions.{blocks, local_type}
use Rattle.module_arena.specs.Module.{Bytes, LocalName, Value, Operand, Operation, Function, Module}
use Rattle.module_arena.specs.Operations.{callee}
use Rattle.module_arena.specs.Same.{same_type}
use Rattle.module_arena.specs.TypeTests.{is_pointer, is_type}
use Rattle.module_arena.specs.ValueRules.{value_has_type, have_types_written, is_pointer_value, arguments_suit, call_suits, value_fits, operands_fit, callee_fits}
use Rattle.module_arena.specs.WellFormed.{is_good_type, are_good_structs, known_in, known_of_operands, is_good_constant, are_good_operands}
use Rattle.run_rules.specs.Action.{Action}
use Rattle.run_rules.specs.Constant.{Names}
use Rattle.run_rules.specs.Scope.{FunctionScope, scope_of}
use Rattle.typed_runs.specs.Actions.{Typing}
use Rattle.typed_runs.specs.Kinds.{IsOf}
use Rattle.typed_runs.specs.Look.Typings.{frame_kinds}
use Rattle.typed_runs.proofs.OnLook.Origins.{value_typed}
use Rattle.typed_runs.proofs.OnLook.Operands.{AllHaveShapes}
use Rattle.typed_runs.proofs.OnTypes.Sounds.{constant_sound}
use Rattle.typed_runs.specs.Action.Asked.{CallSuits, HasLeaves, IsGoodOperand}
use Rattle.typed_runs.specs.Body.Laws.{names_with}
use Rattle.typed_runs.proofs.OnBody.Lists.{front_all, back_all}

module _ (m : Module) (good : are_good_structs m.structs ≡ true) (address : Bytes → Scalar) (bounds : Pointer → Option (ℕ × ℕ)) where
  abbrev names : Names
  names = names_with m address bounds

  module _ (f : Function) (t : Typing) (look : ℕ → ℕ → ℕ → Action) (n : ℕ) (kinds : t.kinds n ≡ frame_kinds names f) (shapes : AllHaveShapes m.structs (blocks f)) (addresses : (name : Bytes) → IsOf t.fixed leaf.Ptr (address name)) where
    abbrev sc : FunctionScope
    sc = scope_of names f

    value_leaves : (ty : Tree) (v : Value) → value_has_type m.structs f ty v ≡ true → value_fits m.structs ty v ≡ true → list_all (is_good_constant m) (known_in ty v) ≡ true → HasLeaves t look n sc ty v
    value_leaves ty (Value.Local name) has fit g = value_typed t look n names f kinds shapes addresses ty (Value.Local name) has fit tt
    value_leaves ty (Value.Known c) has fit g = value_typed t look n names f kinds shapes addresses ty (Value.Known c) has fit (constant_sound m good names refl ty c (and_parts (is_good_constant m (ty, c)) true g).0)

    pub operands_good : (os : List Operand) → have_types_written m.structs f os ≡ true → operands_fit m.structs os ≡ true → list_all (is_good_constant m) (known_of_operands os) ≡ true → are_good_operands m os ≡ true
        → AllByRecursion (IsGoodOperand t look n sc) os
    operands_good [] has fit known g = tt
    operands_good (o ∷ os) has fit known g =
        let p = and_parts (value_has_type m.structs f o.ty o.value) (have_types_written m.structs f os) has in
        let q = and_parts (value_fits m.structs o.ty o.value) (operands_fit m.structs os) fit in
        let r = and_parts (is_good_type m.structs o.ty) (are_good_operands m os) g in
        let first = front_all (is_good_constant m) (known_in o.ty o.value) (known_of_operands os) known in
        let others = back_all (is_good_constant m) (known_in o.ty o.value) (known_of_operands os) known in
        ((value_leaves o.ty o.value p.0 q.0 first, r.0), operands_good os p.1 q.1 others r.1)

    -- ---- calls

    pointer_type : (o : Option Tree) → is_type is_pointer o ≡ true → is_type (same_type ptr) o ≡ true
    pointer_type None h = h
    pointer_type (Some ptr) h = refl
    pointer_type (Some _) h = absurd (true≢false (sym h))

    callee_has_type : (v : Value) → is_pointer_value m.structs f v ≡ true → value_has_type m.structs f ptr v ≡ true
    callee_has_type (Value.Local name) h = pointer_type (local_type m.structs f name) h
    callee_has_type (Value.Known c) h = refl

    pub callee_good : (o : Operation) (r : Option LocalName) → call_suits m.structs f r o ≡ true → callee_fits m.structs (callee o) ≡ true → list_all (is_good_constant m) (option_map_or (known_in ptr) (callee o) []) ≡ true
        → AllByRecursion (HasLeaves t look n sc ptr) (option_to_list (callee o))
    callee_good (Operation.Call signature v arguments) r h fit known =
        let p = and_parts (is_pointer_value m.structs f v) _ h in
        (value_leaves ptr v (callee_has_type v p.0) fit known, tt)
    callee_good _ r h fit known = tt

    pub call_suited : (o : Operation) (r : Option LocalName) → call_suits m.structs f r o ≡ true → CallSuits o
    call_suited (Operation.Call signature v arguments) r h =
        let p = and_parts (is_pointer_value m.structs f v) _ h in
        (and_parts (arguments_suit signature.variadic signature.parameters arguments) _ p.1).0
    call_suited _ r h = tt
