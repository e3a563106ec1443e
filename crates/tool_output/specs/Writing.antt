-- For `write_module`: what is answered, by what outputs then have, and which counts of faults rise.
use Rattle.std.specs.Prelude.{◌≡◌, ℕ, ◌≤◌, List, Result, Ok, Err}
use Rattle.ir_base.specs.Outside.{Rose}
use Rattle.command_line.specs.declared.command.OutputName.{OutputName}
use Rattle.command_line.specs.declared.command.OutputName.TheVariants.{Standard, File}
use Rattle.tool_output.specs.declared.fault.OutputFault.{OutputFault}
use Rattle.tool_output.specs.declared.fault.OutputFault.TheVariants.{CannotWrite, Memory}
use Rattle.tool_output.specs.Outputs.{Outputs, told_name, IsPut, IsPartlyPut}

-- The bytes were put; or a write failed, the output is told, and a front of them is there at most; or memory ran out, and nothing
-- changed.
abbrev pub Puts : OutputName → List ℕ → Outputs → Outputs → Result (Unit {0}) OutputFault → Type 0
Puts output bytes before now (Ok done) = IsPut output bytes before now
Puts output bytes before now (Err (CannotWrite name)) = (name ≡ told_name output) × IsPartlyPut output bytes before now
Puts output bytes before now (Err Memory) = now ≡ before

-- the count of faults of standard output rose where a write failed, and nowhere else
abbrev pub CountsSink : ℕ → ℕ → Result (Unit {0}) OutputFault → Type 0
CountsSink before now (Ok done) = now ≡ before
CountsSink before now (Err (CannotWrite name)) = Rose before now
CountsSink before now (Err Memory) = now ≡ before

-- the same of writes of files; this count has not fallen
abbrev pub CountsFiles : ℕ → ℕ → Result (Unit {0}) OutputFault → Type 0
CountsFiles before now (Ok done) = now ≡ before
CountsFiles before now (Err (CannotWrite name)) = Rose before now × (before ≤ now)
CountsFiles before now (Err Memory) = now ≡ before

-- the count of what is written to rose where a write failed, and no other count, and none elsewhere
abbrev pub Counts : OutputName → ℕ → ℕ → ℕ → ℕ → Result (Unit {0}) OutputFault → Type 0
Counts Standard sink_before sink_now files_before files_now result = CountsSink sink_before sink_now result × (files_now ≡ files_before)
Counts (File name) sink_before sink_now files_before files_now result = (sink_now ≡ sink_before) × CountsFiles files_before files_now result
