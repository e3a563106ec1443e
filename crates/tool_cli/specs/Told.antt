-- For `run_tool`: the whole meaning of a run: which end it has, where it is told what its inputs hold and what its
-- program reads.
use Rattle.std.specs.Prelude.{◌≡◌, ◌⊎◌, ℕ, Bool, true, slice_index_or, List, [], ◌∷◌, codes, Option, Some, None, Result, Ok, Err}
use Rattle.ir_base.specs.Files.{Named}
use Rattle.module_arena.specs.Module.{Module}
use Rattle.name_rules.specs.Spelled.{spelled_global}
use Rattle.linkage_rules.specs.Conflicts.{FoundConflict, first_conflict}
use Rattle.link_rules.specs.Counts.{Count, too_many}
use Rattle.extract_rules.specs.Selected.{no_such_symbol}
use Rattle.command_line.specs.declared.command.Command.{Command}
use Rattle.command_line.specs.declared.command.Command.TheVariants.{Assemble, Disassemble, Link, Extract, Lli, Analyze}
use Rattle.command_line.specs.declared.command.SelectionWords.{SelectionWords}
use Rattle.command_line.specs.declared.command.UsageKind.{UsageKind}
use Rattle.command_line.specs.Faults.{IsFirstFault}
use Rattle.command_line.specs.Commands.{IsReadAs}
use Rattle.tool_output.specs.declared.ends.clash.Clash.{Clash}
use Rattle.tool_output.specs.declared.ends.clash.PartName.{PartName}
use Rattle.tool_output.specs.declared.ends.ended.Ended.{Ended}
use Rattle.tool_output.specs.declared.ends.ended.Ended.TheVariants.{Usage, CannotRead, CannotWrite, InputTooLarge, TooMany, Conflict, NoSuchSymbol, Memory}
use Rattle.tool_output.specs.declared.ends.ended.Ended.TheVariants as ends
use Rattle.tool_cli.specs.Inputs.{inputs_of, texts_read}
use Rattle.tool_cli.specs.Analyzed.{IsAnalysis}
use Rattle.tool_cli.specs.Judged.{IsBitcodeOf, IsBitcodeRefused, IsTextRefused, IsPartRefused, IsFirstRefusal, AreAccepted}
use Rattle.tool_cli.specs.Made.{AreParts, AssemblesTo, IsPart, IsResult, selection_of}
use Rattle.tool_cli.specs.Running.{end_of}

-- The end of `lli` over the input of this name: it is refused; or that of the program of the module that it stands for, which has these words, may make so
-- many steps, and reads these bytes of standard input.
abbrev pub IsRun : List ℕ → ℕ → List (List ℕ) → List ℕ → List ℕ → Ended → Type 0
IsRun name bound words stdin bytes ended =
    IsPartRefused name bytes ended ⊎ ((m : Module) × IsPart bytes m × (ended ≡ end_of name bound words stdin m))

-- an input by its number among those of these names
abbrev pub part_named : List (List ℕ) → ℕ → PartName
part_named names number = record { number = number; name = slice_index_or names number [] }

-- the conflict of inputs with these names, as it is told
abbrev pub clash_told : List (List ℕ) → FoundConflict → Clash
clash_told names c = record { kind = c.kind; symbol = spelled_global c.name; one = part_named names c.one; other = part_named names c.other }

-- the end over parts with these names: their first conflict, or else the first count that is past its limit, or else there is a linked module
abbrev pub link_end : List (List ℕ) → Option FoundConflict → Option Count → Ended
link_end names (Some conflict) count = Conflict (clash_told names conflict)
link_end names None (Some count) = TooMany None count.kind count.number
link_end names None None = ends.Ok

-- the inputs of these names stand for parts, over which this is the end
pub record EndsByParts (names texts : List (List ℕ)) (ended : Ended) : Type 0 where
  pub parts : List Module
  pub are_parts : AreParts texts parts
  pub told : ended ≡ link_end names (first_conflict parts) (too_many parts)

-- the end of `llvm-link` over inputs of these names: the first that is refused, in their order; or else that over their parts
abbrev pub IsLinking : List (List ℕ) → List (List ℕ) → Ended → Type 0
IsLinking names texts ended = IsFirstRefusal names texts ended ⊎ (AreAccepted texts × EndsByParts names texts ended)

-- The end of `llvm-as` over the text of the input of this name: it is refused, or the text of a module. Bytes that begin as bitcode does are a
-- text like any other.
abbrev pub IsAssembling : List ℕ → List ℕ → Ended → Type 0
IsAssembling name text ended = IsTextRefused name text ended ⊎ ((m : Module) × AssemblesTo text m × (ended ≡ ends.Ok))

-- The end of `llvm-dis` over the bytes of the input of this name: they are refused, or spell a module. Bytes that do not begin as bitcode does spell none.
abbrev pub IsDisassembling : List ℕ → List ℕ → Ended → Type 0
IsDisassembling name bytes ended = IsBitcodeRefused name bytes ended ⊎ ((m : Module) × IsBitcodeOf bytes m × (ended ≡ ends.Ok))

-- the end over a module: the first selected name that is not there is told, as canonical text spells it, and else there is a part
abbrev pub part_end : Option (List ℕ) → Ended
part_end None = ends.Ok
part_end (Some name) = NoSuchSymbol (spelled_global name)

-- the end of `llvm-extract` over the input of this name: it is refused, or that over the module that it stands for
abbrev pub IsExtraction : List ℕ → SelectionWords → List ℕ → Ended → Type 0
IsExtraction name selection bytes ended =
    IsPartRefused name bytes ended ⊎ ((m : Module) × IsPart bytes m × (ended ≡ part_end (no_such_symbol m (selection_of selection))))

-- the end of a command that runs no program, whose inputs are these texts
abbrev pub IsWork : Command → List (List ℕ) → Ended → Type 0
IsWork (Lli input max_steps arguments) texts ended = ⊥
IsWork (Disassemble input output) (bytes ∷ []) ended = IsDisassembling input bytes ended
IsWork (Disassemble input output) texts ended = ⊥
IsWork (Assemble input output) (text ∷ []) ended = IsAssembling input text ended
IsWork (Assemble input output) texts ended = ⊥
IsWork (Analyze input dump) (bytes ∷ []) ended = IsAnalysis input bytes ended
IsWork (Analyze input dump) texts ended = ⊥
IsWork (Extract input output text selection) (bytes ∷ []) ended = IsExtraction input selection bytes ended
IsWork (Extract input output text selection) texts ended = ⊥
IsWork (Link inputs output text) texts ended = IsLinking inputs texts ended

-- the end of any command over these bytes of standard input
abbrev pub IsEndOf : Command → List ℕ → List (List ℕ) → Ended → Type 0
IsEndOf (Lli input max_steps arguments) stdin (bytes ∷ []) ended = IsRun input max_steps arguments stdin bytes ended
IsEndOf (Lli input max_steps arguments) stdin texts ended = ⊥
IsEndOf command stdin texts ended = IsWork command texts ended

-- the end of a command whose inputs give this
abbrev pub IsOutcome : Command → List ℕ → Result (List (List ℕ)) Ended → Ended → Type 0
IsOutcome command stdin (Ok texts) ended = IsEndOf command stdin texts ended
IsOutcome command stdin (Err refusal) ended = ended ≡ refusal

-- the end that words have: by their first fault, or by the command that they are and what its inputs hold
abbrev pub IsTold : List (List ℕ) → Named → List ℕ → Ended → Type 0
IsTold words files stdin ended =
    ((kind : UsageKind) × ((k : ℕ) × IsFirstFault words kind k × (ended ≡ Usage kind k)))
    ⊎ ((command : Command) × IsReadAs words command × IsOutcome command stdin (texts_read files stdin 0 (inputs_of command)) ended)

-- the words are a command that runs no program, and these bytes are its result over what its inputs hold
pub record HasResult (words : List (List ℕ)) (files : Named) (stdin : List ℕ) : Type 0 where
  pub command : Command
  pub read : IsReadAs words command
  pub texts : List (List ℕ)
  pub given : texts_read files stdin 0 (inputs_of command) ≡ Ok texts
  pub bytes : List ℕ
  pub is : IsResult command texts bytes

-- an end that the work of a tool may have that runs no program
abbrev pub IsOfWork : Ended → Type 0
IsOfWork (Usage kind k) = ⊥
IsOfWork (CannotRead name) = ⊥
IsOfWork (InputTooLarge name limit) = ⊥
IsOfWork ended = Unit {0}

-- the same where it may run a program which has standard input for its own: that may not be read
abbrev pub IsOfRun : Ended → Bool → Type 0
IsOfRun (CannotRead name) hears = (hears ≡ true) × (name ≡ codes "-")
IsOfRun ended hears = IsOfWork ended

-- an end that work may have which writes nothing
abbrev pub IsOfTexts : Ended → Type 0
IsOfTexts ends.Ok = ⊥
IsOfTexts (CannotWrite name) = ⊥
IsOfTexts ended = IsOfWork ended

-- an end after all inputs were read
abbrev pub IsAfterReading : Ended → Type 0
IsAfterReading Memory = ⊥
IsAfterReading ended = IsOfWork ended
