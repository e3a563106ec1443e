-- Where nothing fails that an operation asks for, it can be built over the locals of its function.
use Rattle.std.proofs.Common.{◌≡◌, ◌<◌, ◌≤◌, ◌^◌, ◌&&◌, nat_lt, cond, List, [], ◌∷◌, ◌++◌, length, Bool, true, false, Option, Some, None, All, arith}
use Rattle.std.specs.List.{flat_map}
use Rattle.std.proofs.lemmas.Bool.{and_parts, ltb-true}
use Rattle.std.proofs.lemmas.List.Elements.{All-nil, All-cons}
use Rattle.ir_terminals.specs.declared.values.Integer.{Integer}
use Rattle.ir_terminals.specs.declared.values.Local.{Local}
use Rattle.ir_phrases.specs.Constants.Tree.{ValueTree, LocalValue, ConstantValue, TypedValueTree}
use Rattle.ir_phrases.specs.Constants.Forms.{IsNotEmpty}
use Rattle.ir_phrases.specs.Instructions.Tree.{SignatureTree, IncomingTree, OperationTree, Binary, Compare, Cast, Select, Freeze, Phi, Load, Store, Alloca, GetElementPtr, Call, ExtractValue, InsertValue}
use Rattle.ir_phrases.specs.Instructions.Forms.{IsOperationFormed}
use Rattle.ir_syntax.specs.Tree.{ItemTree}
use Rattle.type_table.specs.Tree.{Tree, ptr}
use Rattle.module_arena.specs.Lists.{Lists}
use Rattle.module_arena.specs.Module.{LocalName}
use Rattle.name_rules.specs.declared.fault.ResolveFault.TheVariants as faults
use Rattle.name_rules.specs.Spelled.{spelled_local}
use Rattle.name_rules.specs.Locals.{Locals, local_in, is_there}
use Rattle.name_rules.specs.Written.{type_in, bits_at}
use Rattle.name_rules.specs.ModuleOf.{structs_in}
use Rattle.name_rules.specs.Demand.{Demand, first_refusal, is_natural, place_of_local}
use Rattle.name_rules.specs.TypeDemands.{type_demands}
use Rattle.name_rules.specs.FunctionDemands.{alignment_demands, index_demands, value_demands, operand_demands, block_demand, incoming_demands, signature_demands, count_demands, operation_demands}
use Rattle.name_rules.specs.Breaks.{known_in}
use Rattle.name_rules.proofs.Judging.{held, both_hold}
use Rattle.item_build.specs.Types.Declarations.{IsShort}
use Rattle.item_build.specs.Buildable.Narrow.{IsNarrowValue, IsNarrowOperand, IsNarrowSignature, IsNarrowCount, IsNarrowIncoming, IsNarrowOperation}
use Rattle.item_build.specs.Buildable.Bodies.{IsShortInteger, CanSignature, CanValue, CanOperand, CanTarget, CanIncoming, CanCount, CanOperation}
use Rattle.ir_resolve.proofs.OnBuildsWell.Given.{IsGiven, AreLocals, all_asked}
use Rattle.ir_resolve.proofs.OnBuildsWell.Types.{bits_narrow, can_type, can_types}
use Rattle.ir_resolve.proofs.OnBuildsWell.Constants.{can_hold}

-- ---- indices and alignments

short : (written : Integer) → (is_natural written && nat_lt written.magnitude (2 ^ 32)) ≡ true → IsShortInteger written
short written h = by written.negative
  where
    magnitude : written.magnitude < 2 ^ 32
    magnitude = ltb-true written.magnitude (2 ^ 32) (and_parts (is_natural written) (nat_lt written.magnitude (2 ^ 32)) h).1

    by : (negative : Bool) → cond negative 0 written.magnitude < 2 ^ 32
    by true = omega arith
    by false = magnitude

pub short_alignment : (written : Option Integer) → first_refusal (alignment_demands written) ≡ None → IsShort written
short_alignment None e = tt
short_alignment (Some written) e = short written (held (is_natural written && nat_lt written.magnitude (2 ^ 32)) (faults.ConstantRange written.place) [] e).0

short_indices : (indices : List Integer) → first_refusal (index_demands indices) ≡ None → All IsShortInteger indices
short_indices [] e = All-nil IsShortInteger
short_indices (written ∷ more) e =
    let here = held (is_natural written && nat_lt written.magnitude (2 ^ 32)) (faults.ConstantRange written.place) (index_demands more) e in
    All-cons IsShortInteger written more (short written here.0) (short_indices more here.1)

some_operand : (operands : List TypedValueTree) → IsNotEmpty operands → 0 < length operands
some_operand [] h = absurd h
some_operand (first ∷ more) h = omega arith

module _ (items : List ItemTree) (entries : Lists) (given : IsGiven items entries) (all : Locals) (values labels : List LocalName) (locals : AreLocals all values labels) where
  -- a value that stands at a type of at most 128 bits
  can_value : (t : Tree) (v : ValueTree) → bits_at t ≤ 128 → IsNarrowValue v → first_refusal (value_demands (known_in items) all t v) ≡ None → CanValue (structs_in items) entries values labels v
  can_value t (LocalValue written) b n e =
      locals.value_called (local_in written) (held (is_there all false (local_in written)) (faults.UnknownName (place_of_local written) (spelled_local (local_in written))) [] e).0
  can_value t (ConstantValue constant) b n e = can_hold items entries given t constant b n e

  pub can_operand : (o : TypedValueTree) → IsNarrowOperand o → first_refusal (operand_demands (known_in items) all o) ≡ None → CanOperand (structs_in items) entries values labels o
  can_operand o n e =
      let parts = both_hold (type_demands (known_in items) o.0) (value_demands (known_in items) all (type_in o.0) o.1) e in
      (can_type items given.unbroken o.0 n.0 parts.0, can_value (type_in o.0) o.1 (bits_narrow o.0 n.0) n.1 parts.1)

  can_operands : (os : List TypedValueTree) → All IsNarrowOperand os → first_refusal (flat_map (operand_demands (known_in items) all) os) ≡ None → All (CanOperand (structs_in items) entries values labels) os
  can_operands os n e = all_asked IsNarrowOperand (CanOperand (structs_in items) entries values labels) (operand_demands (known_in items) all) can_operand os n e

  -- a block that is found, and what is asked for behind it
  pub can_target : (target : Local) (more : List Demand) → first_refusal (block_demand (known_in items) all target ∷ more) ≡ None
      → CanTarget (structs_in items) entries values labels target × (first_refusal more ≡ None)
  can_target target more e =
      let there = held (is_there all true (local_in target)) (faults.UnknownName (place_of_local target) (spelled_local (local_in target))) more e in
      (locals.label_called (local_in target) there.0, there.1)

  can_incoming : (t : Tree) → bits_at t ≤ 128 → (i : IncomingTree) → IsNarrowIncoming i → first_refusal (incoming_demands (known_in items) all t i) ≡ None → CanIncoming (structs_in items) entries values labels i
  can_incoming t b i n e =
      let parts = both_hold (value_demands (known_in items) all t i.0) (block_demand (known_in items) all i.1 ∷ []) e in
      (can_value t i.0 b n parts.0, (can_target i.1 [] parts.1).0)

  can_signature : (s : Option SignatureTree) → IsNarrowSignature s → first_refusal (signature_demands (known_in items) all s) ≡ None → CanSignature (structs_in items) entries s
  can_signature None n e = tt
  can_signature (Some written) n e = can_types items given.unbroken written.0 n e

  can_count : (count : Option TypedValueTree) → IsNarrowCount count → first_refusal (count_demands (known_in items) all count) ≡ None → CanCount (structs_in items) entries values labels count
  can_count None n e = tt
  can_count (Some written) n e = can_operand written n e

  -- an operand, and a value of the same type behind it
  two_can : (left : TypedValueTree) (right : ValueTree) → IsNarrowOperand left → IsNarrowValue right
      → first_refusal (operand_demands (known_in items) all left ++ value_demands (known_in items) all (type_in left.0) right) ≡ None
      → CanOperand (structs_in items) entries values labels left × CanValue (structs_in items) entries values labels right
  two_can left right n m e =
      let parts = both_hold (operand_demands (known_in items) all left) (value_demands (known_in items) all (type_in left.0) right) e in
      (can_operand left n parts.0, can_value (type_in left.0) right (bits_narrow left.0 n.0) m parts.1)

  -- an operation of which nothing is asked in vain
  pub can_operation : (o : OperationTree) → IsNarrowOperation o → IsOperationFormed o → first_refusal (operation_demands (known_in items) all o) ≡ None → CanOperation (structs_in items) entries values labels o
  can_operation (Binary opcode flags left right) n f e = two_can left right n.0 n.1 e
  can_operation (Compare flags predicate left right) n f e = two_can left right n.0 n.1 e
  can_operation (Cast opcode flags value to) n f e =
      let parts = both_hold (operand_demands (known_in items) all value) (type_demands (known_in items) to) e in
      (can_operand value n.0 parts.0, can_type items given.unbroken to n.1 parts.1)
  can_operation (Select condition first second) n f e =
      let asked = operand_demands (known_in items) all in
      let parts = both_hold (asked condition) (asked first ++ asked second) e in
      let choices = both_hold (asked first) (asked second) parts.1 in
      (can_operand condition n.0 parts.0, can_operand first n.1 choices.0, can_operand second n.2 choices.1)
  can_operation (Freeze value) n f e = can_operand value n e
  can_operation (Phi ty incoming) n f e =
      let t = type_in ty in
      let parts = both_hold (type_demands (known_in items) ty) (flat_map (incoming_demands (known_in items) all t) incoming) e in (
        can_type items given.unbroken ty n.0 parts.0,
        all_asked IsNarrowIncoming (CanIncoming (structs_in items) entries values labels) (incoming_demands (known_in items) all t) (can_incoming t (bits_narrow ty n.0)) incoming n.1 parts.1,
      )
  can_operation (Load flags ty address alignment) n f e =
      let parts = both_hold (type_demands (known_in items) ty) (operand_demands (known_in items) all address ++ alignment_demands alignment) e in
      let rest = both_hold (operand_demands (known_in items) all address) (alignment_demands alignment) parts.1 in
      (can_type items given.unbroken ty n.0 parts.0, can_operand address n.1 rest.0, short_alignment alignment rest.1)
  can_operation (Store flags value address alignment) n f e =
      let parts = both_hold (operand_demands (known_in items) all value) (operand_demands (known_in items) all address ++ alignment_demands alignment) e in
      let rest = both_hold (operand_demands (known_in items) all address) (alignment_demands alignment) parts.1 in
      (can_operand value n.0 parts.0, can_operand address n.1 rest.0, short_alignment alignment rest.1)
  can_operation (Alloca ty count alignment) n f e =
      let parts = both_hold (type_demands (known_in items) ty) (count_demands (known_in items) all count ++ alignment_demands alignment) e in
      let rest = both_hold (count_demands (known_in items) all count) (alignment_demands alignment) parts.1 in
      (can_type items given.unbroken ty n.0 parts.0, can_count count n.1 rest.0, short_alignment alignment rest.1)
  can_operation (GetElementPtr flags source operands) n f e =
      let parts = both_hold (type_demands (known_in items) source) (flat_map (operand_demands (known_in items) all) operands) e in
      (can_type items given.unbroken source n.0 parts.0, some_operand operands f.1, can_operands operands n.1 parts.1)
  can_operation (Call call) n f e =
      let signature = signature_demands (known_in items) all call.signature in
      let callee = value_demands (known_in items) all ptr call.callee in
      let arguments = flat_map (operand_demands (known_in items) all) call.arguments in
      let first = both_hold (type_demands (known_in items) call.returns) (signature ++ (callee ++ arguments)) e in
      let second = both_hold signature (callee ++ arguments) first.1 in
      let third = both_hold callee arguments second.1 in (
        can_type items given.unbroken call.returns n.0 first.0,
        can_signature call.signature n.1 second.0,
        can_value ptr call.callee (omega arith) n.2 third.0,
        can_operands call.arguments n.3 third.1,
      )
  can_operation (ExtractValue aggregate indices) n f e =
      let parts = both_hold (operand_demands (known_in items) all aggregate) (index_demands indices) e in
      (can_operand aggregate n parts.0, short_indices indices parts.1)
  can_operation (InsertValue aggregate part indices) n f e =
      let parts = both_hold (operand_demands (known_in items) all aggregate) (operand_demands (known_in items) all part ++ index_demands indices) e in
      let rest = both_hold (operand_demands (known_in items) all part) (index_demands indices) parts.1 in
      (can_operand aggregate n.0 parts.0, can_operand part n.1 rest.0, short_indices indices rest.1)
