-- For `run_tool`: what telling the stream of an input comes to: the end, and what standard output took.
use Rattle.std.specs.Prelude.{◌≡◌, ◌⊎◌, ◌&&◌, ℕ, Bool, true, false, List, drop, Option, Some, None}
use Rattle.ir_base.specs.Outside.{Added}
use Rattle.bit_stream.specs.declared.bits.fault.BitFault.{BitFault as TheFault}
use Rattle.bit_tree.specs.Stream.{StreamTree, Stream, stream_fault}
use Rattle.bit_dump.specs.Dumped.{WroteFront}
use Rattle.bit_dump.specs.Text.{dump_text}
use Rattle.command_line.specs.declared.command.Command.{Command}
use Rattle.command_line.specs.declared.command.Command.TheVariants.{Analyze}
use Rattle.command_line.specs.Tools.{tool_of}
use Rattle.command_line.specs.Options.{is_dash}
use Rattle.command_line.specs.Commands.{command_behind}
use Rattle.tool_output.specs.declared.ends.ended.Ended.{Ended}
use Rattle.tool_output.specs.declared.ends.ended.Ended.TheVariants.{Usage, CannotRead, CannotWrite, InputTooLarge, BitFault, Memory}
use Rattle.tool_output.specs.declared.ends.ended.Ended.TheVariants as ends

-- the command tells a stream
abbrev pub is_analysis : Command → Bool
is_analysis (Analyze input dump) = true
is_analysis command = false

-- the end over the bytes of the input of this name: they are the stream of a tree, or a field of them is the first that
-- is refused
abbrev pub IsAnalysis : List ℕ → List ℕ → Ended → Type 0
IsAnalysis name bytes ended =
    ((tree : StreamTree) × Stream bytes tree × (ended ≡ ends.Ok))
    ⊎ ((fault : TheFault) × (stream_fault bytes ≡ Some fault) × (ended ≡ BitFault name fault))

-- What standard output then took: the text of the tree; nothing where a field is refused; a front of the text where a
-- write failed or memory ran out, which may also be before anything was written.
abbrev pub IsDumped : List ℕ → Bool → Option (List ℕ) → Option (List ℕ) → Ended → Type 0
IsDumped bytes whole before now ends.Ok = (tree : StreamTree) × Stream bytes tree × Added before now (dump_text tree whole)
IsDumped bytes whole before now (CannotWrite name) = WroteFront bytes whole before now
IsDumped bytes whole before now Memory = (now ≡ before) ⊎ WroteFront bytes whole before now
IsDumped bytes whole before now ended = now ≡ before

-- the command, where there is one, tells the stream of an input
abbrev pub is_analysis_behind : Option Command → Bool
is_analysis_behind None = false
is_analysis_behind (Some command) = is_analysis command

-- the command that the words are read as tells a stream
unfoldable pub analyzes : List (List ℕ) → Bool
analyzes words = is_analysis_behind (command_behind (tool_of words) (drop 1 words))

-- An end before the tool did any work. Where a program reads standard input, that this could not be read is none.
abbrev pub IsBeforeWork : Bool → Ended → Type 0
IsBeforeWork hears (Usage kind k) = Unit {0}
IsBeforeWork hears (CannotRead name) = (hears && is_dash name) ≡ false
IsBeforeWork hears (InputTooLarge name limit) = Unit {0}
IsBeforeWork hears ended = ⊥
