use Rattle.ir_eval.proofs.Compared.{unlike_signs, like_signs, not_samesign}
use Rattle.ir_eval.proofs.comparison.comparison.Goals as goal
use Rattle.ir_eval.proofs.comparison.comparison.Goals.{else-samesign-via-then-samesign+else-has_sign, else-samesign-via-else-samesign}

pub returns-then-has_sign : goal.returns-then-has_sign
returns-then-has_sign c = unlike_signs c.args.predicate c.args.samesign c.args.width c.args.a c.args.b _ _ c.if-samesign.true c.has_sign.ensures c.has_sign-then-samesign.ensures c.if-has_sign.true

pub returns : goal.returns
returns c =
    elim c.else-samesign.branch [
      | else-samesign-via-then-samesign+else-has_sign w ↦ like_signs c.args.predicate c.args.samesign c.args.width c.args.a c.args.b _ _ c.from.result c.holds.result w.has_sign.ensures w.has_sign-then-samesign.ensures w.if-has_sign.false c.holds.ensures c.from.ensures
      | else-samesign-via-else-samesign w ↦ not_samesign c.args.predicate c.args.samesign c.args.width c.args.a c.args.b c.from.result c.holds.result w.if-samesign.false c.holds.ensures c.from.ensures
    ]
