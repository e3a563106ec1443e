use Rattle.std.proofs.Common.{arith, sym, ◌∙◌}
use Rattle.command_line.proofs.Numbers.{passed, from_nothing}
use Rattle.command_line.proofs.number.number_of.Goals as goal

pub returns-then-number-gt-LARGEST_NUMBER : goal.returns-then-number-gt-LARGEST_NUMBER
returns-then-number-gt-LARGEST_NUMBER c =
    let i = c.loop-digit.invariant in
    passed c.args.digits.now c.loop-digit.number c.loop-digit.digit-index (omega arith) (sym c.is_ascii_digit.ensures.value ∙ c.if-not-is_ascii_digit.false) (omega (arith, c.from.ensures)) i.rest ∙ sym (from_nothing c.args.digits.now i.some i.plain)
