-- Each class of instruction.
use Rattle.std.proofs.Common.{◌≡◌, ℕ, ◌+◌, Bool, true, false, Option, true≢false}
use Rattle.std.proofs.lemmas.Bool.{and_parts}
use Rattle.ir_tables.specs.declared.flag.Flag.TheVariants.{Inbounds, Samesign}
use Rattle.ir_tables.specs.Flags.{has_flag}
use Rattle.type_table.specs.Layout.{size}
use Rattle.type_table.specs.Tree.{Tree}
use Rattle.module_arena.specs.Forms.{is_binary, are_flags_of}
use Rattle.module_arena.specs.Module.{LocalName, Operation}
use Rattle.module_arena.specs.WellFormed.{is_good_type, are_good_structs}
use Rattle.run_rules.specs.Action.{Action}
use Rattle.run_rules.specs.Constant.{shape_of}
use Rattle.run_rules.specs.Resolve.{operation_in, is_phi}
use Rattle.run_rules.specs.Scope.{FunctionScope, place_in}
use Rattle.typed_runs.specs.Actions.{Typing, IsPlace, IsTypedAction}
use Rattle.typed_runs.specs.Action.Asked.{IsAsked}
use Rattle.typed_runs.specs.Action.Laws.{InstructionsAreTyped}
use Rattle.typed_runs.proofs.OnAction.Calls.{call_typed}
use Rattle.typed_runs.proofs.OnAction.Memory.{load_typed, store_typed, alloca_typed}
use Rattle.typed_runs.proofs.OnAction.Parts.{extract_typed, insert_typed}
use Rattle.typed_runs.proofs.OnAction.Scalars.{compute_typed, compare_typed, convert_typed}
use Rattle.typed_runs.proofs.OnAction.Steps.{displace_typed}
use Rattle.typed_runs.proofs.OnAction.Values.{select_typed, freeze_typed}

module _ (t : Typing) (look : ℕ → ℕ → ℕ → Action) (n : ℕ) (sc : FunctionScope) (good : are_good_structs sc.names.structs ≡ true) (r : Option LocalName) (k p : ℕ) (next : IsPlace t look n k (p + 1)) where
  abbrev to : ℕ
  to = place_in sc r

  abbrev is_good : Tree → Bool
  is_good = is_good_type sc.names.structs

  operation_typed : (o : Operation) → IsAsked t look n sc (record { result = r; operation = o }) → is_phi o ≡ false → IsTypedAction t look n k p (operation_in sc to o)
  operation_typed (Operation.BinaryOperation opcode flags left right) a phi =
      compute_typed t look n sc left.ty opcode flags to k p left.value right a.arithmetic a.values.0.1 (and_parts (is_binary opcode) (are_flags_of opcode flags) a.phrase).0 a.values.0.0 a.values.1.0.0 a.placed next
  operation_typed (Operation.Compare flags predicate left right) a phi =
      compare_typed t look n sc left.ty predicate (has_flag flags Samesign) to k p left.value right a.arithmetic a.values.0.1 a.values.0.0 a.values.1.0.0 a.placed next
  operation_typed (Operation.Convert opcode flags value ty) a phi =
      convert_typed t look n sc opcode flags value.ty ty value.value to k p a.cast a.values.0.1 (and_parts (is_good ty) true a.types).0 a.values.0.0 a.placed next
  operation_typed (Operation.Select condition first second) a phi =
      select_typed t look n sc condition.ty first.ty second.ty condition.value first.value second.value to k p a.arithmetic a.values.0.0 a.values.1.0.0 a.values.1.1.0.0 a.placed next
  operation_typed (Operation.Freeze value) a phi = freeze_typed t look n sc value.ty value.value to k p a.values.0.0 a.placed next
  operation_typed (Operation.Phi ty incoming) a phi = absurd (true≢false phi)
  operation_typed (Operation.Load flags ty address alignment) a phi =
      load_typed t look n sc good ty address.ty address.value alignment to k p a.alignment a.address (and_parts (is_good ty) true a.types).0 a.values.0.0 a.placed next
  operation_typed (Operation.Store flags value address alignment) a phi =
      store_typed t look n sc good value.ty address.ty value.value address.value alignment k p a.alignment a.address a.values.0.1 a.values.0.0 a.values.1.0.0 next
  operation_typed (Operation.Alloca ty count alignment) a phi =
      alloca_typed t look n sc good ty count alignment to (size (shape_of sc.names ty)) k p a.alignment a.address a.values a.placed next
  operation_typed (Operation.GetElementPtr flags source base indices) a phi =
      displace_typed t look n sc good (has_flag flags Inbounds) source base.ty base.value indices to k p a.element (and_parts (is_good source) true a.types).0 a.lies a.values.0.0 a.values.1 a.placed next
  operation_typed (Operation.Call signature callee arguments) a phi =
      call_typed t look n sc signature callee arguments to k p a.call a.called.0 a.values a.placed next
  operation_typed (Operation.ExtractValue aggregate indices) a phi =
      extract_typed t look n sc good aggregate.ty aggregate.value indices to k p a.part a.values.0.1 a.values.0.0 a.placed next
  operation_typed (Operation.InsertValue aggregate new indices) a phi =
      insert_typed t look n sc good aggregate.ty new.ty aggregate.value new.value indices to k p a.part a.values.0.1 a.values.0.0 a.values.1.0.0 a.placed next

pub instructions_are_typed : InstructionsAreTyped
instructions_are_typed t look function sc good i asked phi block position next = operation_typed t look function sc good i.result block position next i.operation asked phi
