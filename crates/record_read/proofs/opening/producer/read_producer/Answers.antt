use Rattle.std.proofs.Common.{[], refl, sym, ap, suc, ◌∙◌}
use Rattle.std.proofs.lemmas.Bool.{not-true, not-false}
use Rattle.std.proofs.lemmas.Result.{err_from_is_err_and}
use Rattle.record_table.specs.Records.{producer_from}
use Rattle.record_read.proofs.OnOpening.Answering.{misplaced_so, out_of_memory}
use Rattle.record_read.proofs.OnOpening.Fronts.{behind_it, entered, foreign, foreign_entry, front_block, front_record, ours_is}
use Rattle.record_read.proofs.opening.producer.read_producer.Goals as goal

pub returns-in_err-entry-clause-answers : goal.returns-in_err-entry-clause-answers
returns-in_err-entry-clause-answers c = λ all before.
    let p = err_from_is_err_and c.from_residual.result c.from_residual.ensures.1 in
    rw p.1 (out_of_memory _ _ p.0 p.2)

pub returns-in_err-front-clause-answers : goal.returns-in_err-front-clause-answers
returns-in_err-front-clause-answers c = λ all before.
    let p = err_from_is_err_and c.from_residual-in_err-front.result c.from_residual-in_err-front.ensures.1 in
    rw p.1 (out_of_memory _ _ p.0 p.2)

pub returns-then-not-is_producer-clause-answers : goal.returns-then-not-is_producer-clause-answers
returns-then-not-is_producer-clause-answers c = λ all before.
    rw (foreign_entry all c.args.reader.now c.next.new.self c.in_ok-entry.entry (c.in_ok-entry.ensures.2 all [] before) (sym c.is_producer.ensures ∙ c.if-not-is_producer.true)) refl

pub returns-then-not-front-clause-answers : goal.returns-then-not-front-clause-answers
returns-then-not-front-clause-answers c = λ all before.
    let e = entered all c.args.reader.now c.next.new.self c.in_ok-entry.entry (c.in_ok-entry.ensures.2 all [] before) (sym c.is_producer.ensures ∙ c.if-not-is_producer.false) in
    let f = c.in_ok-front.ensures.finds e.0.inside e.0.pieces e.0.before in
    rw (foreign all c.next.new.self e.0 _ f.ours (not-true _ c.if-not-front.true)) refl

pub returns-in-Some-clause-answers : goal.returns-in-Some-clause-answers
returns-in-Some-clause-answers c = λ all before.
    let e = entered all c.args.reader.now c.next.new.self c.in_ok-entry.entry (c.in_ok-entry.ensures.2 all [] before) (sym c.is_producer.ensures ∙ c.if-not-is_producer.false) in
    let f = c.in_ok-front.ensures.finds e.0.inside e.0.pieces e.0.before in
    let is = ours_is all c.next.new.self e.0 _ f.ours (not-false _ c.if-not-front.false) in
    rw (is ∙ front_block e.0.inside e.0.behind c.in-Some.id (sym c.in-Some.is ∙ f.block)) (misplaced_so c.in-Some.id 0 _ _ c.misplaced.ensures)

pub returns-in-None-clause-answers : goal.returns-in-None-clause-answers
returns-in-None-clause-answers c = λ all before.
    let e = entered all c.args.reader.now c.next.new.self c.in_ok-entry.entry (c.in_ok-entry.ensures.2 all [] before) (sym c.is_producer.ensures ∙ c.if-not-is_producer.false) in
    let f = c.in_ok-front.ensures.finds e.0.inside e.0.pieces e.0.before in
    let ours = (not-false _ c.if-not-front.false) in
    let is = ours_is all c.next.new.self e.0 _ f.ours ours in
    let first = front_record e.0.inside (sym c.in-None.is ∙ f.block) (sym f.ours ∙ ours) in
    behind_it all e.0.behind e.0.pieces c.end_of_producer.new.reader (producer_from 0 e.0.inside) c.end_of_producer.result is e.0.later (rw first (c.end_of_producer.ensures.answers _ e.0.pieces (f.before ours)))

pub end_of_producer-requires-clause-begun : goal.end_of_producer-requires-clause-begun
end_of_producer-requires-clause-begun c =
    let w = c.requires.whole in
    let e = entered w.all c.args.reader.now c.next.new.self c.in_ok-entry.entry (c.in_ok-entry.ensures.2 w.all [] w.before) (sym c.is_producer.ensures ∙ c.if-not-is_producer.false) in
    let f = c.in_ok-front.ensures.finds e.0.inside e.0.pieces e.0.before in
    record { inside = _; others = e.0.pieces; before = f.before (not-false _ c.if-not-front.false) }

pub end_of_producer-requires-clause-one : goal.end_of_producer-requires-clause-one
end_of_producer-requires-clause-one c =
    let w = c.requires.whole in
    let e = entered w.all c.args.reader.now c.next.new.self c.in_ok-entry.entry (c.in_ok-entry.ensures.2 w.all [] w.before) (sym c.is_producer.ensures ∙ c.if-not-is_producer.false) in
    let f = c.in_ok-front.ensures.finds e.0.inside e.0.pieces e.0.before in
    f.at (not-false _ c.if-not-front.false) ∙ ap suc (e.1 ∙ c.requires.first)
