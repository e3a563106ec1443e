-- For `act_on_values`: which actions it carries out.
use Rattle.std.specs.Prelude.{Bool, true, false}
use Rattle.run_decode.specs.declared.flat.action.Action.{Action}
use Rattle.run_decode.specs.declared.flat.action.Action.TheVariants.{Select, Freeze, Gather}

-- the result may have many leaves
abbrev pub is_value : Action → Bool
is_value (Select to condition arms) = true
is_value (Freeze to parts) = true
is_value (Gather to value) = true
is_value _ = false
