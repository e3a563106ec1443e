use Rattle.std.proofs.Common.{◌≡◌, ◌≤◌, Bool, List, length, sym, ap, subst, ◌∙◌, arith}
use Rattle.std.specs.Prelude.{is_some}
use Rattle.std.proofs.lemmas.Result.{err_from_is_err_and}
use Rattle.record_read.specs.Order.Due.{due_at}
use Rattle.bitcode_read.proofs.TypesAnswers.{texts_held}
use Rattle.bitcode_read.proofs.Whole.{due_told, end_answers, end_refused}
use Rattle.bitcode_read.proofs.module.whole.Goals as goal

pub next_due-requires : goal.next_due-requires
next_due-requires c = subst (λ (xs : List Bool). length xs ≤ 262144) (sym c.deref.ensures.value) c.requires.room.functions

pub returns : goal.returns
returns c = λ all others first known e.
    let many : c.len.result ≡ length c.args.sofar.bodies.items = omega (arith, c.len.ensures, c.args.sofar.bodies.ok.0) in
    end_answers _ (texts_held c.args.texts.now c.requires.held) all known c.args.m.now others c.args.sofar e.s first e.sofar e.from e.left e.at
    (c.in_ok-expect_whole.ensures e.s e.sofar.last (due_told _ all known c.args.m.now c.args.sofar e.s e.sofar ∙ (sym (λ j. is_some (due_at (c.deref.ensures.value j) (many j) 0)) ∙ (ap is_some (sym c.next_due.ensures) ∙ sym c.is_some-is_due.ensures))) (sym e.at ∙ sym c.at.ensures))

pub returns-in_err-expect_whole : goal.returns-in_err-expect_whole
returns-in_err-expect_whole c = λ all others first known e.
    let p = err_from_is_err_and c.from_residual.result c.from_residual.ensures.1 in
    let many : c.len.result ≡ length c.args.sofar.bodies.items = omega (arith, c.len.ensures, c.args.sofar.bodies.ok.0) in
    rw (p.1, p.2)
    (end_refused _ all known c.args.m.now others c.args.sofar e.s first e.from _
    (c.in_err-expect_whole.ensures e.s e.sofar.last (due_told _ all known c.args.m.now c.args.sofar e.s e.sofar ∙ (sym (λ j. is_some (due_at (c.deref.ensures.value j) (many j) 0)) ∙ (ap is_some (sym c.next_due.ensures) ∙ sym c.is_some-is_due.ensures))) (sym e.at ∙ sym c.at.ensures)))
