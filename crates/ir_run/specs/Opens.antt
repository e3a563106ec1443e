-- For `open_run`: what its answer means.
use Rattle.std.specs.Prelude.{◌≡◌, [], Result, Ok, Err}
use Rattle.run_rules.specs.declared.end.End.{End}
use Rattle.run_rules.specs.State.{Core}
use Rattle.ir_run.specs.declared.beginning.OpenRun.{OpenRun}

-- what a run begins with: no function is under way
abbrev pub core_opened : OpenRun → Core
core_opened o = record { frames = []; due = o.due; memory = o.memory }

-- the same, or how the run ends
abbrev pub Opens : Result OpenRun End → Result Core End → Type 0
Opens (Ok o) expected = expected ≡ Ok (core_opened o)
Opens (Err end) expected = expected ≡ Err end
