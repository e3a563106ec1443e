use Rattle.std.proofs.Common.{is_some, sym, ap, ◌∙◌}
use Rattle.std.specs.Prelude.{option_to_list}
use Rattle.record_read.specs.Reader.{Reader}
use Rattle.bitcode_read.proofs.OnAhead.Due.{broken_adds, counted_adds}
use Rattle.bitcode_read.proofs.ahead.bodies.gather_function.Goals as goal

pub returns-then-is_refused-clause-spent : goal.returns-then-is_refused-clause-spent
returns-then-is_refused-clause-spent c = c.told.ensures.spent ∙ ap (λ (r : Reader). r.spent) c.in_ok-front.ensures.reader

pub returns-then-is_refused-clause-left : goal.returns-then-is_refused-clause-left
returns-then-is_refused-clause-left c = c.told.ensures.left ∙ ap (λ (r : Reader). r.left) c.in_ok-front.ensures.reader

pub returns-then-is_refused-clause-gathers : goal.returns-then-is_refused-clause-gathers
returns-then-is_refused-clause-gathers c = λ operands at.
    broken_adds _ c.args.types _ _ c.in_ok-front.front operands c.in_ok-front.ensures at c.args.due.now.items (sym (ap is_some c.told.ensures.told) ∙ (sym c.is_some-is_refused.ensures ∙ c.if-is_refused.true))

pub returns-clause-spent : goal.returns-clause-spent
returns-clause-spent c = c.told.ensures.spent ∙ ap (λ (r : Reader). r.spent) c.in_ok-front.ensures.reader

pub returns-clause-left : goal.returns-clause-left
returns-clause-left c = c.told.ensures.left ∙ ap (λ (r : Reader). r.left) c.in_ok-front.ensures.reader

pub returns-clause-gathers : goal.returns-clause-gathers
returns-clause-gathers c = λ operands at.
    counted_adds _ c.args.types _ _ c.in_ok-front.front operands c.in_ok-front.ensures at c.args.due.now.items _ (option_to_list c.in_ok-count.count) c.in_ok-count.ensures c.in_ok-push_known.ensures
