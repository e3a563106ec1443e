-- For `run_tool` and `inputs_are_readable`: what `llvm-link` comes to where its inputs stand for parts.
use Rattle.std.specs.Prelude.{◌≡◌, ◌⊎◌, ◌↔◌, ◌<◌, ◌/◌, ℕ, Bool, List, [], ◌∷◌, length, Option, Some, None, Ok}
use Rattle.ir_base.specs.Files.{Named}
use Rattle.bit_stream.specs.declared.item.TheConstants.{WORDS_LIMIT}
use Rattle.command_line.specs.declared.command.Command.TheVariants.{Link}
use Rattle.command_line.specs.declared.command.OutputName.{OutputName}
use Rattle.command_line.specs.Commands.{IsReadAs}
use Rattle.linkage_rules.specs.Conflicts.{FoundConflict, first_conflict}
use Rattle.module_arena.specs.Functions.{first_too_large}
use Rattle.module_arena.specs.Module.{Module}
use Rattle.module_arena.specs.Valid.{IsValid}
use Rattle.module_arena.specs.WellFormed.{IsWellFormed}
use Rattle.link_rules.specs.Counts.{Count, too_many}
use Rattle.run_rules.specs.Same.{RunAlike}
use Rattle.tool_output.specs.declared.ends.ended.Ended.{Ended}
use Rattle.tool_output.specs.declared.ends.ended.Ended.TheVariants.{Conflict, TooMany}
use Rattle.tool_output.specs.declared.ends.ended.Ended.TheVariants as ends
use Rattle.tool_output.specs.Outputs.{Outputs, IsPut}
use Rattle.tool_output.specs.Written.{written}
use Rattle.tool_output.specs.declared.format.OutputFormat.{OutputFormat}
use Rattle.tool_output.specs.declared.format.OutputFormat.TheVariants.{CanonicalText, Bitcode}
use Rattle.tool_cli.specs.Causes.{IsStopped}
use Rattle.tool_cli.specs.Inputs.{texts_read, TellsRun}
use Rattle.tool_cli.specs.Made.{AreParts, RunsLike, StandsFor, format_of}
use Rattle.tool_cli.specs.Told.{clash_told}
use Rattle.tool_cli.specs.World.{World, outputs_of}

-- bytes written in that format are no more than can be read: bitcode where it has no more words of 32 bits than a block may have, as every input does
abbrev pub AreReadable : OutputFormat → List ℕ → Type 0
AreReadable CanonicalText bytes = Unit {0}
AreReadable Bitcode bytes = length bytes / 4 < WORDS_LIMIT

-- these bytes, in that format, stand as an input for this module and for no other
abbrev pub StandForOne : OutputFormat → List ℕ → Module → Type 0
StandForOne format bytes m = AreReadable format bytes → (n : Module) → StandsFor bytes n ↔ (n ≡ m)

-- Bytes were put that stand for one module. It is well formed and valid, no function of it is too large, and for all arguments, inputs and bounds on
-- steps it prints the same bytes as these parts, never merged, side by side, and ends the same way. So these bytes, given to `lli`, run as they do (`RunsModule`).
pub record RunsAsParts (parts : List Module) (output : OutputName) (format : OutputFormat) (before now : Outputs) : Type 0 where
  pub whole : Module
  pub well_formed : IsWellFormed whole
  pub valid : IsValid whole
  pub sized : first_too_large whole ≡ None
  pub runs : RunAlike (whole ∷ []) parts
  pub bytes : List ℕ
  pub spelled : bytes ≡ written format whole
  pub stand : StandForOne format bytes whole
  pub again : AreReadable format bytes → RunsLike bytes parts
  pub put : IsPut output bytes before now

-- the words link the inputs of these names, which hold these texts
pub record Links (words : List (List ℕ)) (files : Named) (stdin : List ℕ) (inputs texts : List (List ℕ)) (output : OutputName) (text : Bool) : Type 0 where
  pub read : IsReadAs words (Link inputs output text)
  pub given : texts_read files stdin 0 inputs ≡ Ok texts

-- The end over parts of these names, and what is put: their first conflict is told, or else the first count past its limit, and nothing is put; or else
-- what is put runs as they do.
abbrev pub ComesTo : List (List ℕ) → List Module → OutputName → OutputFormat → Option FoundConflict → Option Count → Outputs → Outputs → Ended → Type 0
ComesTo names parts output format (Some conflict) count before now ended = (ended ≡ Conflict (clash_told names conflict)) × (now ≡ before)
ComesTo names parts output format None (Some count) before now ended = (ended ≡ TooMany None count.kind count.number) × (now ≡ before)
ComesTo names parts output format None None before now ended = (ended ≡ ends.Ok) × RunsAsParts parts output format before now

-- Where the words link inputs that stand for parts: a conflict is told exactly where the linkage rules name one, and else a count past its limit exactly
-- where there is one; otherwise what is put runs as the parts do. Unless the run stopped for what is outside of it.
abbrev pub RunsLinked : List (List ℕ) → Named → List ℕ → Outputs → Outputs → Ended → Type 0 → Type 0
RunsLinked words files stdin before now ended stopped =
    (inputs texts : List (List ℕ)) (output : OutputName) (text : Bool) → Links words files stdin inputs texts output text
    → (parts : List Module) → AreParts texts parts
    → ComesTo inputs parts output (format_of text) (first_conflict parts) (too_many parts) before now ended ⊎ stopped

-- The same of a run of these words, whatever it is that the outside tells of its inputs.
abbrev pub LinkedRunsAsParts : {I O F : Type 0} → List (List ℕ) → World I O F → World I O F → Ended → Type 0
LinkedRunsAsParts words before now ended =
    (held : Named) (stdin : List ℕ) → TellsRun words before.contents before.left held stdin
    → RunsLinked words held stdin (outputs_of before) (outputs_of now) ended (IsStopped words before now ended)
