-- For `read_words` and `UsageKind::words`: the kinds of faults in words, and their order.
use Rattle.std.specs.Prelude.{ℕ, List, codes}
use Rattle.command_line.specs.declared.command.UsageKind.{UsageKind}
use Rattle.command_line.specs.declared.command.UsageKind.TheVariants.{NoTool, UnknownOption, MissingValue, BadNumber, Repeated, TooManyFiles, NoFile}

-- the kind in words
abbrev pub kind_words : UsageKind → List ℕ
kind_words NoTool = codes "no tool"
kind_words UnknownOption = codes "unknown option"
kind_words MissingValue = codes "missing value"
kind_words BadNumber = codes "bad number"
kind_words Repeated = codes "repeated"
kind_words TooManyFiles = codes "too many files"
kind_words NoFile = codes "no file"

-- the place of a kind in the order in which the faults of one word are told
abbrev pub rank : UsageKind → ℕ
rank NoTool = 0
rank UnknownOption = 1
rank MissingValue = 2
rank BadNumber = 3
rank Repeated = 4
rank TooManyFiles = 5
rank NoFile = 6
