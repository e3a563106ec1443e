-- For `status_of`, `tell`, `end_without_words` and `run_tool`: the status of an end, and the line that tells it.
use Rattle.std.specs.Prelude.{ℕ, List, [], ◌∷◌, ◌++◌, codes, Some, None}
use Rattle.std.specs.Fmt.{decimal}
use Rattle.ir_base.specs.declared.place.Place.{Place}
use Rattle.module_arena.specs.declared.fault.CountKind.{CountKind}
use Rattle.module_arena.specs.declared.fault.CountKind.TheVariants.{Structs, Variables, Functions, Aliases, AppendedBytes}
use Rattle.bit_stream.specs.declared.bits.fault.BitFaultKind.{BitFaultKind}
use Rattle.bit_stream.specs.declared.bits.fault.BitFaultKind.TheVariants.{BadMagic, Truncated, BadAbbreviation, VbrTooLong, BadBlockLength, NestedTooDeep}
use Rattle.command_line.specs.Kinds.{kind_words}
use Rattle.command_line.specs.Tools.{line_name}
use Rattle.ir_tables.specs.UndefinedKind.{undefined_word}
use Rattle.linkage_rules.specs.declared.conflict.ConflictKind.{ConflictKind}
use Rattle.linkage_rules.specs.declared.conflict.ConflictKind.TheVariants.{TwoStrong, FunctionAndVariable, AppendingAndPlain, ElementShape, Constness}
use Rattle.tool_output.specs.declared.ends.clash.Clash.{Clash}
use Rattle.tool_output.specs.declared.ends.ended.Ended.{Ended}
use Rattle.tool_output.specs.declared.ends.ended.Ended.TheVariants.{Exit, StepsUsed, Undefined, StackLimit, MemoryLimit, Unresolved, NoMain, Usage, CannotRead, CannotWrite, InputTooLarge, BadByte, NoItemHere, LeftOutWord, UnknownName, Duplicate, WrongNumber, ConstantRange, TooDeep, TooLarge, SelfContaining, TooMany, Conflict, FunctionTooLarge, Invalid, BitFault, ForeignProducer, BadVersion, UnknownRecord, BadRecord, NoSuchSymbol, Memory}
use Rattle.tool_output.specs.declared.ends.ended.Ended.TheVariants as ends

-- 0 where a tool did its work; a program's own status; 1 where a tool refuses; 120 where memory ran out; and of a program that has no end of its own 121 where
-- its frames weigh too much, 122 where its memory has too many bytes, 123 where it lacks a name or main, 124 where its steps are used up, 125 where it is undefined
abbrev pub status_of : Ended → ℕ
status_of ends.Ok = 0
status_of (Exit status) = status
status_of StepsUsed = 124
status_of (Undefined kind) = 125
status_of StackLimit = 121
status_of MemoryLimit = 122
status_of (Unresolved name) = 123
status_of NoMain = 123
status_of (Usage kind k) = 1
status_of (CannotRead name) = 1
status_of (CannotWrite name) = 1
status_of (InputTooLarge name limit) = 1
status_of (BadByte name place) = 1
status_of (NoItemHere name place) = 1
status_of (LeftOutWord name place word) = 1
status_of (UnknownName name place spelled) = 1
status_of (Duplicate name place first) = 1
status_of (WrongNumber name place next found) = 1
status_of (ConstantRange name place) = 1
status_of (TooDeep name place) = 1
status_of (TooLarge name place) = 1
status_of (SelfContaining name place) = 1
status_of (TooMany name kind count) = 1
status_of (Conflict clash) = 1
status_of (FunctionTooLarge name function size) = 1
status_of (Invalid name rule entity) = 1
status_of (BitFault name fault) = 1
status_of (ForeignProducer name) = 1
status_of (BadVersion name version) = 1
status_of (UnknownRecord name block code) = 1
status_of (BadRecord name block index rule) = 1
status_of (NoSuchSymbol symbol) = 1
status_of Memory = 120

-- the tool's name, or `ir-tools` where the words name none, a colon and a space, the text, and a line feed
abbrev pub error_line : List (List ℕ) → List ℕ → List ℕ
error_line words text = line_name words ++ (codes ": " ++ (text ++ 10 ∷ []))

-- a text about this line and column of the input of this name, which stand before it
abbrev pub located_by : List ℕ → List ℕ → List ℕ → List ℕ → List ℕ
located_by name line column text = name ++ (codes ":" ++ (line ++ (codes ":" ++ (column ++ (codes ": " ++ text)))))

-- a text about a place in the input of this name
abbrev pub located : List ℕ → Place → List ℕ → List ℕ
located name place text = located_by name (decimal place.line) (decimal place.column) text

-- the kind of a refused field, in words
abbrev pub fault_words : BitFaultKind → List ℕ
fault_words BadMagic = codes "bad magic"
fault_words Truncated = codes "truncated"
fault_words BadAbbreviation = codes "bad abbreviation"
fault_words VbrTooLong = codes "vbr too long"
fault_words BadBlockLength = codes "bad block length"
fault_words NestedTooDeep = codes "nested too deep"

-- what there are too many of, in words
abbrev pub count_words : CountKind → List ℕ
count_words Structs = codes "structs"
count_words Variables = codes "variables"
count_words Functions = codes "functions"
count_words Aliases = codes "aliases"
count_words AppendedBytes = codes "appended bytes"

-- what is wrong with two entries of one name, in words
abbrev pub conflict_words : ConflictKind → List ℕ
conflict_words TwoStrong = codes "two strong"
conflict_words FunctionAndVariable = codes "function and variable"
conflict_words AppendingAndPlain = codes "appending and plain"
conflict_words ElementShape = codes "element shape"
conflict_words Constness = codes "constness"

-- two entries that do not go together, in words: what is wrong, their name, and the names of the inputs
abbrev pub clash_words : Clash → List ℕ
clash_words clash =
    codes "conflict: "
    ++ (conflict_words clash.kind
    ++ (codes ": " ++ (clash.symbol ++ (codes " in " ++ (clash.one.name ++ (codes " and " ++ clash.other.name))))))

-- line and column
abbrev pub place_words : Place → List ℕ
place_words place = decimal place.line ++ (codes ":" ++ decimal place.column)

-- what standard error is told of an end about a name or a number at a place of an input; of another end nothing
abbrev pub name_line : List (List ℕ) → Ended → List ℕ
name_line words (UnknownName name place spelled) = error_line words (located name place (codes "unknown name " ++ spelled))
name_line words (Duplicate name place first) = error_line words (located name place (codes "duplicate, first at " ++ place_words first))
name_line words (WrongNumber name place next found) = error_line words (located name place (codes "number " ++ (decimal next ++ (codes " expected, " ++ (found ++ codes " found")))))
name_line words ended = []

-- what standard error is told of an end at a place of an input; of another end nothing
abbrev pub placed_line : List (List ℕ) → Ended → List ℕ
placed_line words (BadByte name place) = error_line words (located name place (codes "bad byte"))
placed_line words (NoItemHere name place) = error_line words (located name place (codes "no item here"))
placed_line words (LeftOutWord name place word) = error_line words (located name place (codes "left out: " ++ word))
placed_line words (UnknownName name place spelled) = name_line words (UnknownName name place spelled)
placed_line words (Duplicate name place first) = name_line words (Duplicate name place first)
placed_line words (WrongNumber name place next found) = name_line words (WrongNumber name place next found)
placed_line words (ConstantRange name place) = error_line words (located name place (codes "constant out of range"))
placed_line words (TooDeep name place) = error_line words (located name place (codes "too deep"))
placed_line words (TooLarge name place) = error_line words (located name place (codes "too large"))
placed_line words (SelfContaining name place) = error_line words (located name place (codes "contains itself"))
placed_line words ended = []

-- what standard error is told of an end about the records of an input; of another end nothing
abbrev pub line_of_record : List (List ℕ) → Ended → List ℕ
line_of_record words (ForeignProducer name) = error_line words (name ++ codes ": foreign producer")
line_of_record words (BadVersion name version) = error_line words (name ++ (codes ": version " ++ decimal version))
line_of_record words (UnknownRecord name block code) = error_line words (name ++ (codes ": unknown record " ++ (decimal code ++ (codes " in block " ++ decimal block))))
line_of_record words (BadRecord name block index rule) =
    error_line words (name ++ (codes ": bad record " ++ (decimal index ++ (codes " in block " ++ (decimal block ++ (codes ", rule " ++ decimal rule))))))
line_of_record words ended = []

-- what standard error is told of a program that has no end of its own; of another end nothing
abbrev pub program_line : List (List ℕ) → Ended → List ℕ
program_line words StepsUsed = error_line words (codes "steps used up")
program_line words (Undefined kind) = error_line words (codes "undefined: " ++ undefined_word kind)
program_line words StackLimit = error_line words (codes "stack limit")
program_line words MemoryLimit = error_line words (codes "memory limit")
program_line words (Unresolved name) = error_line words (codes "unresolved " ++ name)
program_line words NoMain = error_line words (codes "no main")
program_line words ended = []

-- what standard error is told of an end that one number tells; of another end nothing
abbrev pub number_line : List (List ℕ) → Ended → List ℕ
number_line words (Usage kind k) = error_line words (codes "usage: " ++ (kind_words kind ++ (codes " at word " ++ decimal k)))
number_line words (InputTooLarge name limit) = error_line words (name ++ (codes ": over " ++ (decimal limit ++ codes " bytes")))
number_line words (TooMany None kind count) = error_line words (codes "too many " ++ (count_words kind ++ (codes ": " ++ decimal count)))
number_line words (TooMany (Some name) kind count) = error_line words (name ++ (codes ": too many " ++ (count_words kind ++ (codes ": " ++ decimal count))))
number_line words (BitFault name fault) = error_line words (name ++ (codes ": bit " ++ (decimal fault.bit ++ (codes ": " ++ fault_words fault.kind))))
number_line words ended = []

-- what standard error is told of a module that is refused; of another end nothing
abbrev pub verdict_line : List (List ℕ) → Ended → List ℕ
verdict_line words (FunctionTooLarge name function size) = error_line words (name ++ (codes ": function too large: " ++ (function ++ (codes ", " ++ decimal size))))
verdict_line words (Invalid name rule entity) = error_line words (name ++ (codes ": invalid V" ++ (decimal rule ++ (codes " at " ++ entity))))
verdict_line words ended = []

-- what standard error is told: one line, or nothing of a tool that did its work and of a program that ended
abbrev pub line_of : List (List ℕ) → Ended → List ℕ
line_of words ends.Ok = []
line_of words (Exit status) = []
line_of words StepsUsed = program_line words StepsUsed
line_of words (Undefined kind) = program_line words (Undefined kind)
line_of words StackLimit = program_line words StackLimit
line_of words MemoryLimit = program_line words MemoryLimit
line_of words (Unresolved name) = program_line words (Unresolved name)
line_of words NoMain = program_line words NoMain
line_of words (Usage kind k) = number_line words (Usage kind k)
line_of words (CannotRead name) = error_line words (codes "cannot read " ++ name)
line_of words (CannotWrite name) = error_line words (codes "cannot write " ++ name)
line_of words (InputTooLarge name limit) = number_line words (InputTooLarge name limit)
line_of words (TooMany input kind count) = number_line words (TooMany input kind count)
line_of words (Conflict clash) = error_line words (clash_words clash)
line_of words (FunctionTooLarge name function size) = verdict_line words (FunctionTooLarge name function size)
line_of words (Invalid name rule entity) = verdict_line words (Invalid name rule entity)
line_of words (BitFault name fault) = number_line words (BitFault name fault)
line_of words (ForeignProducer name) = line_of_record words (ForeignProducer name)
line_of words (BadVersion name version) = line_of_record words (BadVersion name version)
line_of words (UnknownRecord name block code) = line_of_record words (UnknownRecord name block code)
line_of words (BadRecord name block index rule) = line_of_record words (BadRecord name block index rule)
line_of words (NoSuchSymbol symbol) = error_line words (codes "no symbol " ++ symbol)
line_of words Memory = error_line words (codes "out of memory")
line_of words ended = placed_line words ended
