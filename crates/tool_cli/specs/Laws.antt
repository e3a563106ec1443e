-- For `accepted_is_not_refused`, `one_end` and `inputs_are_readable`: what is accepted is refused by no tool, words have
-- one end, and what was written can be read as an input.
use Rattle.std.specs.Prelude.{◌≡◌, ℕ, List}
use Rattle.ir_base.specs.Files.{Named}
use Rattle.module_arena.specs.Module.{Module}
use Rattle.tool_output.specs.declared.ends.ended.Ended.{Ended}
use Rattle.tool_output.specs.declared.ends.ended.Ended.TheVariants.{Memory}
use Rattle.tool_output.specs.declared.ends.ended.Ended.TheVariants as ends
use Rattle.tool_output.specs.declared.format.OutputFormat.{OutputFormat}
use Rattle.tool_cli.specs.Headline.{AreReadable}
use Rattle.tool_cli.specs.Judged.{IsBitcodeOf, IsBitcodeRefused, IsPartRefused, IsShort, IsTextRefused}
use Rattle.tool_cli.specs.Made.{AssemblesTo, IsPart}
use Rattle.tool_cli.specs.Told.{HasResult, IsTold}

-- no end tells that a text is refused which reads to a module that is accepted, nor bitcode that spells one, nor an input that stands for one
pub record AcceptedIsNotRefused : Type 0 where
  pub texts : (name text : List ℕ) (m : Module) (ended : Ended) → AssemblesTo text m → IsTextRefused name text ended → ⊥
  pub bitcode : (name bytes : List ℕ) (m : Module) (ended : Ended) → IsBitcodeOf bytes m → IsBitcodeRefused name bytes ended → ⊥
  pub parts : (name bytes : List ℕ) (m : Module) (ended : Ended) → IsPart bytes m → IsPartRefused name bytes ended → ⊥

-- Over these files and these bytes of standard input the words have no two ends. Want of memory is none of them; `Ok` is
-- one where the command has a result.
pub record OneEnd : Type 0 where
  pub one : (words : List (List ℕ)) (files : Named) (stdin : List ℕ) (end other : Ended)
      → IsTold words files stdin end → IsTold words files stdin other → end ≡ other
  pub memory : (words : List (List ℕ)) (files : Named) (stdin : List ℕ) → IsTold words files stdin Memory → ⊥
  pub result : (words : List (List ℕ)) (files : Named) (stdin : List ℕ)
      → HasResult words files stdin → IsTold words files stdin ends.Ok

-- bytes that were written in either format, and are no more than an input may have, are readable
abbrev pub InputsAreReadable : Type 0
InputsAreReadable = (format : OutputFormat) (bytes : List ℕ) → IsShort bytes → AreReadable format bytes
