use Rattle.std.proofs.Common.{List, [], ◌∷◌, map, sym, ap, ◌∙◌, subst}
use Rattle.type_table.specs.Types.{trees}
use Rattle.module_arena.specs.Changes.{function_in}
use Rattle.module_arena.specs.Valid.{Demand, InstructionOf}
use Rattle.module_arena.specs.ValueRules.{have_types_written}
use Rattle.module_arena.specs.View.{constants_of, operand_view}
use Rattle.entry_verify.proofs.OnConstants.ConstantsKnown.{own_structs}
use Rattle.entry_verify.specs.Types.Judged.{Judged, asks}
use Rattle.instruction_verify.proofs.Asked.{demand}
use Rattle.instruction_verify.proofs.last.last.judge_written.Goals as goal

pub returns : goal.returns
returns c values blocks told =
    let a = c.args.judge.now in
    let f = function_in a c.args.function.now in
    let os = map (operand_view (trees a.table) (constants_of a) values blocks) c.args.operands.now in
    let entity = InstructionOf c.args.number c.args.function.now.name in
    let typed = c.have_types_written-typed.ensures f values blocks told ∙ ap (λ s. have_types_written s f os) (sym (own_structs a)) in
    subst (λ (ds : List Demand). Judged ds c.judge_instruction.result)
    (ap (asks entity) (λ j. c.asked.ensures j ∷ []) ∙ (λ j. demand entity 11 (typed j) ∷ []))
    c.judge_instruction.ensures
