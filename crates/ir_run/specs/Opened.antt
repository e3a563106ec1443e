-- For `open` of `Machine`: what it gives.
use Rattle.std.specs.Prelude.{◌≡◌, ℕ, List, Ok, Err}
use Rattle.module_arena.specs.Module.{Module}
use Rattle.run_rules.specs.Machine.{opened_machine}
use Rattle.ir_run.specs.Seen.{machine_seen}
use Rattle.ir_run.specs.declared.opening.OpenedMachine.{OpenedMachine}
use Rattle.ir_run.specs.declared.opening.OpenedMachine.TheVariants.{Ready, Ended}

-- what opening gives of a module with these words
abbrev pub IsOpened : OpenedMachine → Module → List (List ℕ) → Type 0
IsOpened (Ready machine) m words = opened_machine m words ≡ Ok (machine_seen machine)
IsOpened (Ended end) m words = opened_machine m words ≡ Err end
