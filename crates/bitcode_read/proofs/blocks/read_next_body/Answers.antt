use Rattle.std.proofs.Common.{refl, sym, ◌∙◌}
use Rattle.std.specs.Prelude.{Ok, Err}
use Rattle.std.proofs.lemmas.Result.{err_from_is_err_and}
use Rattle.record_table.specs.Bodies.{at_first}
use Rattle.record_read.proofs.OnOpening.Answering.{out_of_memory}
use Rattle.bitcode_read.proofs.BodyAnswers.{body_answers, body_refused, count_here}
use Rattle.bitcode_read.proofs.blocks.read_next_body.Goals as goal

pub returns-clause-room : goal.returns-clause-room
returns-clause-room c = record { variables = c.requires.room.variables; functions = c.requires.room.functions; aliases = c.requires.room.aliases; numbers = c.requires.room.numbers }

pub returns-in_err-parameters-clause-reads : goal.returns-in_err-parameters-clause-reads
returns-in_err-parameters-clause-reads c = λ all known may s inside behind others h before at.
    let p = err_from_is_err_and c.from_residual.result c.from_residual.ensures.1 in
    rw p.1 (out_of_memory _ _ p.0 (p.2 ∙ c.in_err-parameters.ensures.memory))

pub returns-in_err-body-clause-reads : goal.returns-in_err-body-clause-reads
returns-in_err-body-clause-reads c = λ all known may s inside behind others h before at.
    let p = err_from_is_err_and c.from_residual-in_err-body.result c.from_residual-in_err-body.ensures.1 in
    rw (p.1, p.2)
    (body_refused _ all known c.args.m.now c.args.sofar.now s inside behind others h may before at c.args.number c.requires.due c.counts_ahead-m.result c.counts_ahead-m.ensures c.in_ok-parameters.parameters
    (count_here _ all known c.args.m.now c.args.sofar.now s inside behind h may c.args.number c.requires.due _ c.in_ok-parameters.parameters c.arena.ensures c.in_ok-parameters.ensures.count) c.read_body.new.m (Err c.in_err-body.field-0.0)
    (λ k outside counts. c.in_err-body.ensures.answers inside others k before outside counts) (at_first 0) c.in_err-body.field-0.0 _ refl)

pub returns-in_err-push-clause-reads : goal.returns-in_err-push-clause-reads
returns-in_err-push-clause-reads c = λ all known may s inside behind others h before at.
    let p = err_from_is_err_and c.from_residual-in_err-push.result c.from_residual-in_err-push.ensures.1 in
    rw p.1 (out_of_memory _ _ p.0 p.2)

pub returns-clause-reads : goal.returns-clause-reads
returns-clause-reads c = λ all known may s inside behind others h before at.
    body_answers _ all known c.args.m.now c.args.sofar.now s inside behind others h may before at c.args.number c.requires.due c.counts_ahead-m.result c.counts_ahead-m.ensures c.in_ok-parameters.parameters
    (count_here _ all known c.args.m.now c.args.sofar.now s inside behind h may c.args.number c.requires.due _ c.in_ok-parameters.parameters c.arena.ensures c.in_ok-parameters.ensures.count) c.read_body.new.m (Ok c.in_ok-body.body)
    (λ k outside counts. c.in_ok-body.ensures.answers inside others k before outside counts) (at_first 0) _ _ c.in_ok-body.body c.in_ok-body.ensures.keeps refl c.in_ok-push.ensures.items (sym c.place-sofar.ensures) refl c.in_ok-body.ensures.unspent
    (c.in_ok-body.ensures.behind inside others before) refl
