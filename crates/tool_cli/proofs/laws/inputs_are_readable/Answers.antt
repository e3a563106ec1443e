use Rattle.std.proofs.Common.{◌≤◌, ℕ, List, length, arith}
use Rattle.tool_output.specs.declared.format.OutputFormat.{OutputFormat}
use Rattle.tool_output.specs.declared.format.OutputFormat.TheVariants.{CanonicalText, Bitcode}
use Rattle.tool_cli.specs.Headline.{AreReadable}
use Rattle.tool_cli.specs.declared.inputs.TheConstants.{LARGEST}
use Rattle.tool_cli.proofs.laws.inputs_are_readable.Goals as goal

readable : (format : OutputFormat) (bytes : List ℕ) → length bytes ≤ LARGEST → AreReadable format bytes
readable CanonicalText bytes short = tt
readable Bitcode bytes short = omega arith

pub returns : goal.returns
returns c = readable
