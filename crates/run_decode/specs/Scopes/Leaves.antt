-- For `push_value` and `push_operands`: where leaves are had from, one after another.
use Rattle.std.specs.Prelude.{◌≡◌, List, ◌++◌, map}
use Rattle.run_rules.specs.Action as actions
use Rattle.run_actions.specs.declared.stack.origin.Origin.{Origin}
use Rattle.run_actions.specs.Stack.Origins.{origin_of}

-- a list has gained these at its end
abbrev pub Gains : List Origin → List Origin → List actions.Origin → Type 0
Gains old new gained = map origin_of new ≡ map origin_of old ++ gained
