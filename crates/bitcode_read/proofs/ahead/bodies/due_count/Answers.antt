use Rattle.std.proofs.Common.{◌≡◌, [], refl, sym, subst}
use Rattle.std.specs.Prelude.{option_to_list}
use Rattle.bitcode_read.specs.Ahead.Bodies.{count_due}
use Rattle.bitcode_read.proofs.ahead.bodies.due_count.Goals as goal

pub returns-then-is_defined : goal.returns-then-is_defined
returns-then-is_defined c = subst (λ d. option_to_list c.in_ok-count.count ≡ count_due d c.args.front.now.parameters) (sym c.if-is_defined.true) c.in_ok-count.ensures

pub returns : goal.returns
returns c = subst (λ d. [] ≡ count_due d c.args.front.now.parameters) (sym c.if-is_defined.false) refl
