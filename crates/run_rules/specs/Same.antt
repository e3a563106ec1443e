-- For `equal_look_ups_give_equal_runs`: when parts run as other parts do.
use Rattle.std.specs.Prelude.{◌≡◌, ℕ, List}
use Rattle.module_arena.specs.Module.{Module}
use Rattle.run_rules.specs.Look.{look, table}
use Rattle.run_rules.specs.Plan.{plan}
use Rattle.run_rules.specs.Side.{Side}

-- at each place stands the same action, each address has the same, and opening finds the same
pub record LookAlike (ps qs : List Module) : Type 0 where
  pub same_actions : (function block position : ℕ) → look ps function block position ≡ look qs function block position
  pub same_callees : (address : ℕ) → table ps address ≡ table qs address
  pub same_plan : plan ps ≡ plan qs

-- every run of the one is one of the others
abbrev pub RunAlike : List Module → List Module → Type 0
RunAlike ps qs = (arguments : List (List ℕ)) (input : List ℕ) (bound : ℕ) → Side ps arguments input bound ≡ Side qs arguments input bound

-- where look-up, table and opening find the same, states are equal step by step, and so outputs and ends are
abbrev pub EqualLookUpsGiveEqualRuns : Type 0
EqualLookUpsGiveEqualRuns = (ps qs : List Module) → LookAlike ps qs → RunAlike ps qs
