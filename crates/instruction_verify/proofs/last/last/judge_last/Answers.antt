use Rattle.std.proofs.Common.{List, All, Err, length, map, sym, ap, ◌∙◌, subst, ◌++◌}
use Rattle.std.proofs.lemmas.Result.{err_from_is_err_and}
use Rattle.type_table.specs.Types.{trees}
use Rattle.module_arena.specs.Changes.{function_in}
use Rattle.module_arena.specs.Known.{HasOperand}
use Rattle.module_arena.specs.Operations.{operands}
use Rattle.module_arena.specs.View.{constants_of, inst_view, module_of, operand_view}
use Rattle.module_arena.specs.declared.instruction.Operand.{Operand}
use Rattle.path_rows.proofs.Viewed.{operands_viewed}
use Rattle.entry_verify.proofs.OnTypes.Judging.{fails_first, leads_past}
use Rattle.instruction_verify.specs.Parts.{type_demands}
use Rattle.instruction_verify.specs.Last.Last.{call_demands, written_demands}
use Rattle.instruction_verify.proofs.OnLast.Listed.{inst_within, operands_known}
use Rattle.instruction_verify.proofs.OnLast.TypesWritten.{written_fails, written_holds}
use Rattle.instruction_verify.proofs.last.last.judge_last.Goals as goal

pub judge_written-requires-clause-known : goal.judge_written-requires-clause-known
judge_written-requires-clause-known c =
    let a = c.args.judge.now in
    let values = length c.args.value_types.now in
    subst (λ (os : List Operand). All (HasOperand (length a.table.types) (length a.constants) values) os) (sym c.requires.gathered) (operands_known a values c.args.instruction.now c.requires.known)

pub judge_instruction_types-requires : goal.judge_instruction_types-requires
judge_instruction_types-requires c = inst_within c.args.judge.now (length c.args.value_types.now) c.args.instruction.now c.requires.known

pub returns-in_err-judge_written : goal.returns-in_err-judge_written
returns-in_err-judge_written c values blocks told =
    let a = c.args.judge.now in
    let m = module_of a in
    let f = function_in a c.args.function.now in
    let i = inst_view (trees a.table) (constants_of a) values blocks c.args.instruction.now in
    let seen = operand_view (trees a.table) (constants_of a) values blocks in
    let listed = ap (λ (os : List Operand). map seen os) c.requires.gathered ∙ operands_viewed (trees a.table) (constants_of a) values blocks c.args.instruction.now in
    let p = err_from_is_err_and c.from_residual.result c.from_residual.ensures.1 in
    rw (p.1, p.2) (written_fails m f c.args.number _ (operands i.operation) (type_demands m f.name c.args.number i ++ call_demands m f c.args.number i) _ listed (c.in_err-judge_written.ensures values blocks told))

pub returns-in_err-judge_instruction_types : goal.returns-in_err-judge_instruction_types
returns-in_err-judge_instruction_types c values blocks told =
    let a = c.args.judge.now in
    let m = module_of a in
    let f = function_in a c.args.function.now in
    let n = c.args.number in
    let i = inst_view (trees a.table) (constants_of a) values blocks c.args.instruction.now in
    let seen = operand_view (trees a.table) (constants_of a) values blocks in
    let listed = ap (λ (os : List Operand). map seen os) c.requires.gathered ∙ operands_viewed (trees a.table) (constants_of a) values blocks c.args.instruction.now in
    let first = written_holds m f n _ (operands i.operation) listed (c.in_ok-judge_written.ensures values blocks told) in
    let p = err_from_is_err_and c.from_residual-in_err-judge_instruction_types.result c.from_residual-in_err-judge_instruction_types.ensures.1 in
    rw (p.1, p.2) (leads_past (written_demands m f n (operands i.operation)) (type_demands m f.name n i ++ call_demands m f n i) first (Err _)
    (fails_first (type_demands m f.name n i) (call_demands m f n i) _ (c.in_err-judge_instruction_types.ensures values blocks)))

pub returns : goal.returns
returns c values blocks told =
    let a = c.args.judge.now in
    let m = module_of a in
    let f = function_in a c.args.function.now in
    let n = c.args.number in
    let i = inst_view (trees a.table) (constants_of a) values blocks c.args.instruction.now in
    let seen = operand_view (trees a.table) (constants_of a) values blocks in
    let listed = ap (λ (os : List Operand). map seen os) c.requires.gathered ∙ operands_viewed (trees a.table) (constants_of a) values blocks c.args.instruction.now in
    let first = written_holds m f n _ (operands i.operation) listed (c.in_ok-judge_written.ensures values blocks told) in
    leads_past (written_demands m f n (operands i.operation)) (type_demands m f.name n i ++ call_demands m f n i) first c.judge_calls.result
    (leads_past (type_demands m f.name n i) (call_demands m f n i) (c.in_ok-judge_instruction_types.ensures values blocks) c.judge_calls.result (c.judge_calls.ensures values blocks told))
