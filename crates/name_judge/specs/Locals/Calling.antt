-- Says how the code reads: what a function has called so far, as it is judged.
use Rattle.std.specs.Prelude.{◌≡◌, ℕ, ◌==◌, Bool, true, false, List, Option, Some, None, OnOk, Result}
use Rattle.ir_terminals.specs.declared.values.Local.{Local}
use Rattle.ir_terminals.specs.declared.values.Local.TheVariants as locals
use Rattle.module_arena.specs.Module.{Bytes}
use Rattle.type_table.specs.Names.Entries.{value_of}
use Rattle.name_rules.specs.declared.fault.ResolveFault.{ResolveFault}
use Rattle.name_rules.specs.Demand.{Demand, place_of_name}
use Rattle.name_rules.specs.FunctionDemands.{Called}
use Rattle.type_judge.specs.Judging.{IsJudged}
use Rattle.name_judge.specs.declared.locals.called.CalledNames.{CalledNames}

-- the table has what was called before
pub record IsCalled (table : CalledNames) (before : Called) : Type 0 where
  pub next : table.next ≡ before.next
  pub names : (name : Bytes) → value_of table.names name ≡ place_of_name before.names name

-- no name is written, or the next number
abbrev pub is_in_turn : ℕ → Option Local → Bool
is_in_turn next None = true
is_in_turn next (Some (locals.Named written)) = false
is_in_turn next (Some (locals.Numbered number place)) = number == next

-- the answer is that to these demands behind what was called before, and where it is Ok the table has what is called then
pub record Goes (old new : CalledNames) (demands : Called → List Demand) (then_ : Called → Called) (answer : Result (Unit {0}) ResolveFault) : Type 0 where
  pub judged : (before : Called) → IsCalled old before → IsJudged (demands before) answer
  pub calls : OnOk answer ((before : Called) → IsCalled old before → IsCalled new (then_ before))
