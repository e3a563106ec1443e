use Rattle.std.proofs.Common.{refl, sym, subst}
use Rattle.std.specs.Prelude.{nat_eq}
use Rattle.std.proofs.lemmas.Bool.{eqb-true, false_from_ne_true}
use Rattle.record_table.specs.Faults.{body_id}
use Rattle.record_read.specs.Fields.{texts_of}
use Rattle.bitcode_read.specs.Ahead.Bodies.{AddsWhereBody}
use Rattle.bitcode_read.proofs.ahead.bodies.gather_block.Goals as goal

pub returns-then-id-eq-BODY_BLOCK-clause-gathers : goal.returns-then-id-eq-BODY_BLOCK-clause-gathers
returns-then-id-eq-BODY_BLOCK-clause-gathers c = λ held others before.
    let one = c.in_ok-gather_due.ensures.gathers held others before in
    (subst (λ n. AddsWhereBody (nat_eq n body_id) (texts_of c.args.texts.now) c.args.voids.now c.args.due.now held c.args.bodies.now.items c.gather_due.new.bodies.items) (sym c.if-id-eq-BODY_BLOCK.true) one.0, one.1)

pub returns-clause-unspent : goal.returns-clause-unspent
returns-clause-unspent c = c.in_ok-pass_block.ensures.0

pub returns-clause-gathers : goal.returns-clause-gathers
returns-clause-gathers c = λ held others before. (
  subst (λ b. AddsWhereBody b (texts_of c.args.texts.now) c.args.voids.now c.args.due.now held c.args.bodies.now.items c.args.bodies.now.items)
      (sym (false_from_ne_true (nat_eq c.args.id body_id) (λ e. c.if-id-eq-BODY_BLOCK.false (eqb-true c.args.id 12 e)))) refl,
  c.in_ok-pass_block.ensures.3 held others before,
)
