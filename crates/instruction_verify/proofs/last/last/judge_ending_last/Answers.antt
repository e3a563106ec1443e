use Rattle.std.proofs.Common.{List, map, ap, ◌∙◌, subst}
use Rattle.std.proofs.lemmas.Result.{err_from_is_err_and}
use Rattle.type_table.specs.Types.{trees}
use Rattle.module_arena.specs.Changes.{function_in}
use Rattle.module_arena.specs.Known.{HasOperand}
use Rattle.module_arena.specs.Operations.{ending_operands}
use Rattle.module_arena.specs.View.{constants_of, ending_view, module_of, operand_view}
use Rattle.module_arena.specs.declared.instruction.Operand.{Operand}
use Rattle.path_rows.proofs.Viewed.{end_operands_viewed}
use Rattle.std.proofs.Common.{All, length}
use Rattle.entry_verify.proofs.OnTypes.Judging.{leads_past}
use Rattle.instruction_verify.specs.Parts.{ending_type_demands}
use Rattle.instruction_verify.specs.Last.Last.{written_demands}
use Rattle.instruction_verify.proofs.OnLast.Listed.{end_within}
use Rattle.instruction_verify.proofs.OnLast.TypesWritten.{written_fails, written_holds}
use Rattle.instruction_verify.proofs.last.last.judge_ending_last.Goals as goal

pub judge_ending_types-requires-clause-known : goal.judge_ending_types-requires-clause-known
judge_ending_types-requires-clause-known c =
    let a = c.args.judge.now in
    let values = length c.args.value_types.now in
    end_within a values c.args.ending.now (subst (λ (os : List Operand). All (HasOperand (length a.table.types) (length a.constants) values) os) c.requires.gathered c.requires.known)

pub returns-in_err-judge_written : goal.returns-in_err-judge_written
returns-in_err-judge_written c values blocks told =
    let a = c.args.judge.now in
    let m = module_of a in
    let f = function_in a c.args.function.now in
    let n = c.args.number in
    let e = ending_view (trees a.table) (constants_of a) values blocks c.args.ending.now in
    let seen = operand_view (trees a.table) (constants_of a) values blocks in
    let listed = ap (λ (os : List Operand). map seen os) c.requires.gathered ∙ end_operands_viewed (trees a.table) (constants_of a) values blocks c.args.ending.now in
    let p = err_from_is_err_and c.from_residual.result c.from_residual.ensures.1 in
    rw (p.1, p.2) (written_fails m f n _ (ending_operands e) (ending_type_demands m f n e) _ listed (c.in_err-judge_written.ensures values blocks told))

pub returns : goal.returns
returns c values blocks told =
    let a = c.args.judge.now in
    let m = module_of a in
    let f = function_in a c.args.function.now in
    let n = c.args.number in
    let e = ending_view (trees a.table) (constants_of a) values blocks c.args.ending.now in
    let seen = operand_view (trees a.table) (constants_of a) values blocks in
    let listed = ap (λ (os : List Operand). map seen os) c.requires.gathered ∙ end_operands_viewed (trees a.table) (constants_of a) values blocks c.args.ending.now in
    let first = written_holds m f n _ (ending_operands e) listed (c.in_ok-judge_written.ensures values blocks told) in
    leads_past (written_demands m f n (ending_operands e)) (ending_type_demands m f n e) first c.judge_ending_types.result (c.judge_ending_types.ensures values blocks)
