use Rattle.std.proofs.Common.{sym, ap, ◌∙◌}
use Rattle.bitcode_read.specs.Sofar.{with_number}
use Rattle.bitcode_read.proofs.records.add_defined.Goals as goal

pub returns-then-is_defined : goal.returns-then-is_defined
returns-then-is_defined c = c.in_ok-push.ensures.items ∙ ap (λ b. with_number b c.args.number c.args.numbers.now.items) (sym c.if-is_defined.true)

pub returns : goal.returns
returns c = ap (λ b. with_number b c.args.number c.args.numbers.now.items) (sym c.if-is_defined.false)
