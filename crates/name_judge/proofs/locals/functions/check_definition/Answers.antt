use Rattle.std.proofs.Common.{map}
use Rattle.std.proofs.lemmas.Result.{err_from_is_err_and}
use Rattle.ir_phrases.specs.Instructions.View.{block_view}
use Rattle.ir_syntax.specs.View.{parameter_view}
use Rattle.type_judge.specs.Gathered.{known_of}
use Rattle.name_judge.specs.Locals.Names.{locals_of}
use Rattle.name_judge.proofs.OnLocals.Calls.{none_yet, definition_judged, definition_refused}
use Rattle.name_judge.proofs.locals.functions.check_definition.Goals as goal

pub returns-in_err-check_parameters : goal.returns-in_err-check_parameters
returns-in_err-check_parameters c =
    let known = known_of c.args.known.now in
    let tables = c.begin.new.self in
    let all = locals_of tables.locals in
    let p = err_from_is_err_and c.from_residual-in_err-check_parameters.result c.from_residual-in_err-check_parameters.ensures.1 in
    rw (p.1, p.2)
    (definition_refused known all (map parameter_view c.args.parameters.now) (map block_view c.args.blocks.now) c.in_ok-begin.ensures.function _ _ _ _ (none_yet tables.called c.in_ok-begin.ensures.next c.in_ok-begin.ensures.names)
    (c.in_err-check_parameters.ensures all))

pub returns : goal.returns
returns c =
    let known = known_of c.args.known.now in
    let tables = c.begin.new.self in
    let all = locals_of tables.locals in
    definition_judged known all (map parameter_view c.args.parameters.now) (map block_view c.args.blocks.now) c.in_ok-begin.ensures.function _ _ _ _ _ (none_yet tables.called c.in_ok-begin.ensures.next c.in_ok-begin.ensures.names)
    (c.in_ok-check_parameters.ensures all) c.check_blocks.ensures
