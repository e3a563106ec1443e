use Rattle.std.proofs.Common.{◌∷◌, [], ◌∙◌, ◌/◌, ◌%◌, ◌^◌, ap, ◌++◌, List, ℕ}
use Rattle.record_write.proofs.OnOperands.Chain.{last2, reworded}
use Rattle.record_write.proofs.OnOperands.Numbers.{short_integer, wide_integer}
use Rattle.record_write.proofs.operands.constants.put_integer.Goals as goal

pub returns-then-wide : goal.returns-then-wide
returns-then-wide c = λ t is room.
    let n = c.args.number in
    reworded _ _ _ _ _ (last2 _ _ (n % 2 ^ 64 ∷ []) (n / 2 ^ 64 ∷ []) _ _ c.in_ok-put_number.ensures c.put_number-then-wide.ensures) (wide_integer t n (is ∙ c.if-wide.true))

pub returns : goal.returns
returns c = λ t is room. c.in_ok-put_number.ensures ∙ ap (λ (l : List ℕ). c.args.operands.now.items ++ l) (short_integer t c.args.number (is ∙ c.if-wide.false) room)
