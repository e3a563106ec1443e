use Rattle.std.proofs.Common.{refl, sym, subst}
use Rattle.std.specs.Prelude.{nat_eq}
use Rattle.std.proofs.lemmas.Bool.{eqb-true, false_from_ne_true}
use Rattle.record_table.specs.Layout.{judged}
use Rattle.record_read.specs.Fields.{texts_of}
use Rattle.bitcode_read.specs.Head.Fronts.{function_front}
use Rattle.bitcode_read.specs.Ahead.Bodies.{AddsWhere}
use Rattle.bitcode_read.proofs.ahead.bodies.gather_record.Goals as goal

pub returns-then-code-eq-FUNCTION-clause-gathers : goal.returns-then-code-eq-FUNCTION-clause-gathers
returns-then-code-eq-FUNCTION-clause-gathers c = λ operands at.
    subst (λ n. AddsWhere (nat_eq n 6) (judged (function_front (texts_of c.args.texts.now) c.args.types) operands) c.args.due.now.items c.gather_function.new.due.items) (sym c.if-code-eq-FUNCTION.true) (c.in_ok-gather_function.ensures.gathers operands at)

pub returns-clause-gathers : goal.returns-clause-gathers
returns-clause-gathers c = λ operands at.
    subst (λ b. AddsWhere b (judged (function_front (texts_of c.args.texts.now) c.args.types) operands) c.args.due.now.items c.args.due.now.items)
    (sym (false_from_ne_true (nat_eq c.args.code 6) (λ e. c.if-code-eq-FUNCTION.false (eqb-true c.args.code 6 e)))) refl
