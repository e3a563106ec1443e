use Rattle.std.proofs.Common.{◌∙◌}
use Rattle.ir_tables.proofs.IntrinsicNames.{at_word, without_start, without_word, without_dot, without_width, with_other_width, with_width}
use Rattle.ir_tables.proofs.intrinsic.Intrinsic.width_in.Goals as goal

pub returns-in_err-stem : goal.returns-in_err-stem
returns-in_err-stem c = without_start c.args.self _ _ c.from_residual.ensures c.in_err-stem.ensures

pub returns-in_err-suffix : goal.returns-in_err-suffix
returns-in_err-suffix c =
    let word = at_word _ _ _ _ (c.as_bytes.ensures.value ∙ c.word.ensures) c.in_err-suffix.ensures in
    without_word c.args.self _ _ _ c.from_residual-in_err-suffix.ensures c.in_ok-stem.ensures word

pub returns-in_err-behind : goal.returns-in_err-behind
returns-in_err-behind c =
    let word = at_word _ _ _ _ (c.as_bytes.ensures.value ∙ c.word.ensures) c.in_ok-suffix.ensures in
    without_dot c.args.self _ _ _ _ c.from_residual-in_err-behind.ensures c.in_ok-stem.ensures word c.in_err-behind.ensures

pub returns-in_err-width : goal.returns-in_err-width
returns-in_err-width c =
    let word = at_word _ _ _ _ (c.as_bytes.ensures.value ∙ c.word.ensures) c.in_ok-suffix.ensures in
    without_width c.args.self _ _ _ _ _ c.from_residual-in_err-width.ensures c.in_ok-stem.ensures word c.in_ok-behind.ensures c.in_err-width.ensures

pub returns-then-has_width : goal.returns-then-has_width
returns-then-has_width c =
    let word = at_word _ _ _ _ (c.as_bytes.ensures.value ∙ c.word.ensures) c.in_ok-suffix.ensures in
    with_width c.args.self _ _ _ _ _ _ c.in_ok-stem.ensures word c.in_ok-behind.ensures c.in_ok-width.ensures c.has_width.ensures c.if-has_width.true

pub returns-else-has_width : goal.returns-else-has_width
returns-else-has_width c =
    let word = at_word _ _ _ _ (c.as_bytes.ensures.value ∙ c.word.ensures) c.in_ok-suffix.ensures in
    with_other_width c.args.self _ _ _ _ _ _ c.in_ok-stem.ensures word c.in_ok-behind.ensures c.in_ok-width.ensures c.has_width.ensures c.if-has_width.false
