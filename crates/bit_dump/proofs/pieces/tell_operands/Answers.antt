use Rattle.std.proofs.Common.{ℕ, List, refl, ap, ◌∙◌}
use Rattle.std.proofs.lemmas.Result.{err_from_is_err_and}
use Rattle.bit_dump.specs.Walk.Walker.{Walker}
use Rattle.bit_dump.specs.Text.{operand_text}
use Rattle.bit_dump.specs.Outline.{after_operand, after_operands}
use Rattle.bit_dump.proofs.Telling.{text_more, wants, tried_longer, operands_step, operands_text, operands_over}
use Rattle.bit_dump.proofs.pieces.tell_operands.Goals as goal

pub operands-init : goal.operands-init
operands-init g c = record { told = λ before all h. (all, h, refl); faults = refl; walker = refl }

pub returns-in-None-clause-told : goal.returns-in-None-clause-told
returns-in-None-clause-told g c = λ before all h. (
    let x = c.operands.invariant.told before all h in
    operands_over before (g.S.Sink.taken c.operands.sink) x.0 _ c.operands.outline c.operands.walker.operands c.in-None.ensures.0 x.2 x.1)

pub returns-in-None-clause-walker : goal.returns-in-None-clause-walker
returns-in-None-clause-walker g c = c.in-None.ensures.1 ∙ (c.operands.invariant.walker ∙ ap (λ (l : List ℕ). record c.args.walker.now { operands = l }) c.in-None.ensures.0)

pub returns-in_err-operand-in-Some-clause-told : goal.returns-in_err-operand-in-Some-clause-told
returns-in_err-operand-in-Some-clause-told g c =
    let p = err_from_is_err_and c.from_residual.result c.from_residual.ensures.1 in
    rw (p.1, p.2) (λ before all h. (
    let x = c.operands.invariant.told before all h in
    let more = operands_text x.0 (after_operands all c.args.walker.now.operands) c.operands.walker.operands x.2 in
    wants before (g.S.Sink.taken c.operands.sink) x.0 c.operands.outline more.0 (after_operands all c.args.walker.now.operands).text more.1 x.1))

pub returns-in_err-spill-in-Some-clause-told : goal.returns-in_err-spill-in-Some-clause-told
returns-in_err-spill-in-Some-clause-told g c =
    let p = err_from_is_err_and c.from_residual-in_err-spill-in-Some.result c.from_residual-in_err-spill-in-Some.ensures.1 in
    rw (p.1, p.2) (λ before all h. (
    let x = c.operands.invariant.told before all h in
    let step = operands_step x.0 (after_operands all c.args.walker.now.operands) c.in-Some.operand c.operands.walker.operands c.next_operand.new.self.operands c.in-Some.ensures.0 x.2 in
    let more = operands_text (after_operand x.0 c.in-Some.operand) (after_operands all c.args.walker.now.operands) c.next_operand.new.self.operands step in
    let told = text_more before (g.S.Sink.taken c.operands.sink) x.0 c.operands.outline c.operand.new.self (operand_text c.in-Some.operand) c.in_ok-operand-in-Some.ensures x.1 in
    tried_longer before (g.S.Sink.taken c.spill.new.sink) (after_operand x.0 c.in-Some.operand) (after_operands all c.args.walker.now.operands) c.spill.new.outline c.spill.new.outline c.in_err-spill-in-Some.field-0.0 more.0 more.1 (c.in_err-spill-in-Some.ensures.told before (after_operand x.0 c.in-Some.operand) told)))

pub operands-preserved : goal.operands-preserved
operands-preserved g c = record {
  told = λ before all h. (
      let x = c.operands.invariant.told before all h in
      let step = operands_step x.0 (after_operands all c.args.walker.now.operands) c.in-Some.operand c.operands.walker.operands c.next_operand.new.self.operands c.in-Some.ensures.0 x.2 in
      let told = text_more before (g.S.Sink.taken c.operands.sink) x.0 c.operands.outline c.operand.new.self (operand_text c.in-Some.operand) c.in_ok-operand-in-Some.ensures x.1 in
      (after_operand x.0 c.in-Some.operand, c.in_ok-spill-in-Some.ensures.told before (after_operand x.0 c.in-Some.operand) told, step));
  faults = c.in_ok-spill-in-Some.ensures.counted ∙ c.operands.invariant.faults;
  walker = c.in-Some.ensures.1 ∙ ap (λ (w : Walker). record w { operands = c.next_operand.new.self.operands }) c.operands.invariant.walker;
}
