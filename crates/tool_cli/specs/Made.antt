-- For `run_tool` and `accepted_is_not_refused`: the result of a command over its inputs, which is what it writes.
use Rattle.std.specs.Prelude.{◌≡◌, ℕ, Bool, true, false, List, [], ◌∷◌, None}
use Rattle.std.specs.Bool.{MatchBool}
use Rattle.bit_tree.specs.Stream.{StreamTree, Stream}
use Rattle.bit_dump.specs.Text.{dump_text}
use Rattle.command_line.specs.declared.command.Command.{Command}
use Rattle.command_line.specs.declared.command.Command.TheVariants.{Assemble, Disassemble, Link, Extract, Analyze}
use Rattle.command_line.specs.declared.command.SelectionWords as words
use Rattle.linkage_rules.specs.Conflicts.{first_conflict}
use Rattle.link_rules.specs.Counts.{too_many}
use Rattle.link_rules.specs.Linked.{link_result}
use Rattle.run_rules.specs.Same.{RunAlike}
use Rattle.extract_rules.specs.Extracted.{Extracted}
use Rattle.extract_rules.specs.Selected.{no_such_symbol}
use Rattle.extract_rules.specs.declared.selection.Selection.{Selection}
use Rattle.tool_output.specs.Written.{written}
use Rattle.tool_output.specs.declared.format.OutputFormat.{OutputFormat}
use Rattle.tool_output.specs.declared.format.OutputFormat.TheVariants.{CanonicalText, Bitcode}
use Rattle.module_arena.specs.Functions.{first_too_large}
use Rattle.module_arena.specs.Module.{Module}
use Rattle.module_arena.specs.Valid.{IsValid}
use Rattle.module_arena.specs.WellFormed.{IsWellFormed}
use Rattle.name_rules.specs.Reads.{Reads}
use Rattle.record_table.specs.Records.{Spells}
use Rattle.tool_cli.specs.Judged.{is_bitcode, IsBitcodeOf}

-- the module that an input stands for: where it begins as bitcode does the one that it spells, and else the one that its text reads to
abbrev pub StandsFor : List ℕ → Module → Type 0
StandsFor bytes m = MatchBool (is_bitcode bytes) (Spells bytes m) (Reads bytes m)

-- an input stands for this module, of which no function is too large and which is valid
pub record IsPart (bytes : List ℕ) (m : Module) : Type 0 where
  pub stands : StandsFor bytes m
  pub sized : first_too_large m ≡ None
  pub valid : IsValid m

-- An input stands for a module that runs as these parts do, never merged, side by side: for all arguments, inputs and bounds on steps it prints the same
-- bytes and ends the same way.
pub record RunsLike (bytes : List ℕ) (parts : List Module) : Type 0 where
  pub meant : Module
  pub is_part : IsPart bytes meant
  pub runs : RunAlike (meant ∷ []) parts

-- each input stands for its module
abbrev pub AreParts : List (List ℕ) → List Module → Type 0
AreParts [] [] = Unit {0}
AreParts (bytes ∷ texts) (m ∷ ms) = IsPart bytes m × AreParts texts ms
AreParts texts ms = ⊥

-- The module that parts are linked to: they have no conflict, and no count is past its limit. It is well formed and valid, no function of it is too
-- large, and it runs as they do side by side: for all arguments, inputs and bounds on steps it prints the same bytes and ends the same way.
pub record IsLinked (parts : List Module) (m : Module) : Type 0 where
  pub agree : first_conflict parts ≡ None
  pub few : too_many parts ≡ None
  pub made : m ≡ link_result parts
  pub well_formed : IsWellFormed m
  pub valid : IsValid m
  pub sized : first_too_large m ≡ None
  pub runs : RunAlike (m ∷ []) parts

-- the inputs stand for parts that are linked to this module
pub record LinksTo (texts : List (List ℕ)) (m : Module) : Type 0 where
  pub parts : List Module
  pub are_parts : AreParts texts parts
  pub linked : IsLinked parts m

-- a text reads to this module, of which no function is too large and which is valid
pub record AssemblesTo (text : List ℕ) (m : Module) : Type 0 where
  pub reads : Reads text m
  pub sized : first_too_large m ≡ None
  pub valid : IsValid m

-- what the words of `llvm-extract` select, as it is taken of a module
abbrev pub selection_of : words.SelectionWords → Selection
selection_of s = record { functions = s.functions; variables = s.variables; aliases = s.aliases; delete = s.delete; recursive = s.recursive }

-- an input stands for a module in which all that the words select is there, and this is the part of it that they keep
pub record ExtractsTo (bytes : List ℕ) (selection : words.SelectionWords) (part : Module) : Type 0 where
  pub whole : Module
  pub is_part : IsPart bytes whole
  pub there : no_such_symbol whole (selection_of selection) ≡ None
  pub extracted : part ≡ Extracted whole (selection_of selection)

-- what a module is written as that was linked or extracted: with `-S` its canonical text, else bitcode
abbrev pub format_of : Bool → OutputFormat
format_of true = CanonicalText
format_of false = Bitcode

-- The result of a command whose inputs are these: of `llvm-as` the bitcode of the module that its text reads to; of `llvm-dis` the canonical text of the
-- module that its input spells; of `llvm-link` the bitcode, with `-S` the canonical text, of the module that they are linked to; of `llvm-extract` the same of
-- the part that its words select of its input; of `llvm-bcanalyzer` the text of the tree that its input is the stream of. What a program prints is no result.
abbrev pub IsResult : Command → List (List ℕ) → List ℕ → Type 0
IsResult (Assemble input output) (text ∷ []) bytes = (m : Module) × AssemblesTo text m × (bytes ≡ written Bitcode m)
IsResult (Disassemble input output) (bytes ∷ []) text = (m : Module) × IsBitcodeOf bytes m × (text ≡ written CanonicalText m)
IsResult (Link inputs output text) texts bytes = (m : Module) × LinksTo texts m × (bytes ≡ written (format_of text) m)
IsResult (Extract input output text selection) (stream ∷ []) bytes = (m : Module) × ExtractsTo stream selection m × (bytes ≡ written (format_of text) m)
IsResult (Analyze input dump) (stream ∷ []) bytes = (tree : StreamTree) × Stream stream tree × (bytes ≡ dump_text tree dump)
IsResult command texts bytes = ⊥
