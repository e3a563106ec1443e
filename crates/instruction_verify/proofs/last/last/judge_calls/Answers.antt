use Rattle.std.proofs.Common.{◌&&◌, List, [], ◌∷◌, Option, All, length, map, sym, ap, ◌∙◌, subst}
use Rattle.std.specs.Option.{option_map, option_to_list}
use Rattle.type_table.specs.Types.{structs, trees}
use Rattle.module_arena.specs.Changes.{function_in}
use Rattle.module_arena.specs.Operations as operations
use Rattle.module_arena.specs.Valid.{Demand, InstructionOf}
use Rattle.module_arena.specs.ValueRules as rules
use Rattle.module_arena.specs.View.{constants_of, inst_view, operand_view, value_view}
use Rattle.module_arena.specs.declared.instruction.Operand.{Operand}
use Rattle.module_arena.specs.declared.instruction.Value as the_value
use Rattle.entry_verify.proofs.OnConstants.ConstantsKnown.{own_structs}
use Rattle.path_rows.proofs.Viewed.{callee_viewed, operands_viewed}
use Rattle.entry_verify.specs.Types.Judged.{Judged, asks}
use Rattle.instruction_verify.proofs.Asked.{demand}
use Rattle.instruction_verify.specs.Last.ValuesById.{HasConstant, IsTyped}
use Rattle.instruction_verify.proofs.OnLast.Listed.{are_typed, callee_known, operands_known}
use Rattle.instruction_verify.proofs.last.last.judge_calls.Goals as goal

pub callee_fits-direct-requires : goal.callee_fits-direct-requires
callee_fits-direct-requires c =
    let a = c.args.judge.now in
    subst (λ (o : Option the_value.Value). All (HasConstant (length a.constants)) (option_to_list o)) (sym c.callee_of.ensures)
    (callee_known a (length c.args.value_types.now) c.args.instruction.now c.requires.known)

pub operands_fit-requires : goal.operands_fit-requires
operands_fit-requires c =
    let a = c.args.judge.now in
    let values = length c.args.value_types.now in
    subst (λ (os : List Operand). All (IsTyped a) os) (sym c.requires.gathered) (are_typed a values _ (operands_known a values c.args.instruction.now c.requires.known))

pub returns : goal.returns
returns c values blocks told =
    let a = c.args.judge.now in
    let f = function_in a c.args.function.now in
    let i = inst_view (trees a.table) (constants_of a) values blocks c.args.instruction.now in
    let entity = InstructionOf c.args.number c.args.function.now.name in
    let suits = c.call_suits-suits.ensures f values blocks told ∙ ap (λ s. rules.call_suits s f i.result i.operation) (sym (own_structs a)) in
    let fits =
    c.operands_fit.ensures values blocks
    ∙ ap (λ (os : List Operand). rules.operands_fit (structs a.table) (map (operand_view (trees a.table) (constants_of a) values blocks) os)) c.requires.gathered
    ∙ ap (rules.operands_fit (structs a.table)) (operands_viewed (trees a.table) (constants_of a) values blocks c.args.instruction.now)
    ∙ ap (λ s. rules.operands_fit s (operations.operands i.operation)) (sym (own_structs a)) in
    let direct =
    c.callee_fits-direct.ensures values blocks
    ∙ ap (λ (o : Option the_value.Value). rules.callee_fits (structs a.table) (option_map (value_view (trees a.table) (constants_of a) values blocks) o)) c.callee_of.ensures
    ∙ ap (rules.callee_fits (structs a.table)) (callee_viewed (trees a.table) (constants_of a) values blocks c.args.instruction.now)
    ∙ ap (λ s. rules.callee_fits s (operations.callee i.operation)) (sym (own_structs a)) in
    subst (λ (ds : List Demand). Judged ds c.judge_instruction.result)
    (ap (asks entity) (λ j. c.asked.ensures j ∷ c.asked-2.ensures j ∷ [])
    ∙ (λ j. demand entity 17 (suits j) ∷ demand entity 18 (fits j && direct j) ∷ []))
    c.judge_instruction.ensures
