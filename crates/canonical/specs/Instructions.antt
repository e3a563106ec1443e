-- For `print`, `put_instruction` and `put_ending`: instructions and blocks in canonical text.
use Rattle.std.specs.Prelude.{List, map, codes, Option, Some, None}
use Rattle.ir_lexer.specs.Pieces.{Space, Line, Indented}
use Rattle.ir_tables.specs.declared.opcode.Opcode.TheVariants as op
use Rattle.module_arena.specs.Module.{LocalName, Instruction, Case, Ending, ReturnVoid, Return, Jump, Branch, Switch, Unreachable, Block}
use Rattle.canonical.specs.Phrase.{Phrase, word, mark, comma, ◌␣◌, ◌⌢◌, ◌⨾◌, ended, each}
use Rattle.canonical.specs.Names.{local, label}
use Rattle.canonical.specs.Constants.{opcode, typed_constant, operand}
use Rattle.canonical.specs.Operations.{operation_phrase}

-- LOCAL =, where the instruction has a result
abbrev pub assigned : Option LocalName → Phrase → Phrase
assigned None p = p
assigned (Some name) p = local name ␣ mark (codes "=") ␣ p

-- an instruction, behind its result where it has one
abbrev pub instruction_phrase : Instruction → Phrase
instruction_phrase i = assigned i.result (operation_phrase i.operation)

-- label LOCAL
abbrev pub target : LocalName → Phrase
target name = word (codes "label") ␣ local name

-- TYPE CONST, label LOCAL
abbrev pub case_phrase : Case → Phrase
case_phrase c = typed_constant c.ty c.value ⌢ comma ␣ target c.target

-- the end of a block
abbrev pub ending_phrase : Ending → Phrase
ending_phrase ReturnVoid = opcode op.Ret ␣ word (codes "void")
ending_phrase (Return value) = opcode op.Ret ␣ operand value
ending_phrase (Jump to) = opcode op.Br ␣ target to
ending_phrase (Branch condition then_to else_to) = opcode op.Br ␣ operand condition ⌢ comma ␣ target then_to ⌢ comma ␣ target else_to
ending_phrase (Switch value otherwise cases) =
    opcode op.Switch ␣ operand value ⌢ comma ␣ target otherwise ␣ mark (codes "[") ␣ each Space (map case_phrase cases) ␣ mark (codes "]")
ending_phrase Unreachable = opcode op.Unreachable

-- a line of its name, and a line after two spaces for each instruction and for the end
abbrev pub block_phrase : Block → Phrase
block_phrase b = ended Indented (label b.name) ⨾ each Indented (map instruction_phrase b.instructions) ⨾ ending_phrase b.ending

-- the blocks, each of whose lines ends
abbrev pub blocks_phrase : List Block → Phrase
blocks_phrase bs = each Line (map block_phrase bs)
