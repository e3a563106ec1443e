-- For `print` and `put_instruction`: what instructions do, in canonical text.
use Rattle.std.specs.Prelude.{ℕ, Bool, true, false, List, [], ◌∷◌, ◌++◌, map, codes, Option, Some, None}
use Rattle.ir_tables.specs.Predicate.{predicate_word}
use Rattle.ir_tables.specs.declared.opcode.Opcode.TheVariants as op
use Rattle.type_table.specs.Tree.{Tree, ptr}
use Rattle.module_arena.specs.Module.{Operand, Incoming, Signature, Operation, BinaryOperation, Compare, Convert, Select, Freeze, Phi, Load, Store, Alloca, GetElementPtr, Call, ExtractValue, InsertValue}
use Rattle.canonical.specs.Phrase.{Phrase, none, word, mark, comma, ◌␣◌, ◌⌢◌, listed, with_more, in_parentheses}
use Rattle.canonical.specs.Names.{local, natural}
use Rattle.canonical.specs.Types.{type_phrase}
use Rattle.canonical.specs.Constants.{opcode, flags_phrase, address_flags_phrase, value_phrase, operand}

-- , align INT, where there is an alignment
abbrev pub aligned : Phrase → Option ℕ → Phrase
aligned p None = p
aligned p (Some n) = p ⌢ comma ␣ word (codes "align") ␣ natural n

-- [ VALUE, LOCAL ]
abbrev pub incoming_phrase : Tree → Incoming → Phrase
incoming_phrase ty i = mark (codes "[") ␣ value_phrase ty i.value ⌢ comma ␣ local i.block ␣ mark (codes "]")

-- the types, and `...` behind them where there may be more
abbrev pub dotted : List Phrase → Bool → List Phrase
dotted ps false = ps
dotted ps true = ps ++ mark (codes "...") ∷ []

-- the parameters that a call writes behind its return type, where it is variadic
abbrev pub signature_phrase : Signature → Bool → Phrase
signature_phrase s false = none
signature_phrase s true = in_parentheses (listed (dotted (map type_phrase s.parameters) true))

-- , TYPE VALUE, where there is a count, and the alignment
abbrev pub counted : Phrase → Option Operand → Option ℕ → Phrase
counted p None alignment = aligned p alignment
counted p (Some count) alignment = p ⌢ comma ␣ aligned (operand count) alignment

-- what an instruction does
abbrev pub operation_phrase : Operation → Phrase
operation_phrase (BinaryOperation code set left right) = opcode code ␣ flags_phrase set ␣ operand left ⌢ comma ␣ value_phrase left.ty right
operation_phrase (Compare set predicate left right) =
    opcode op.ICmp
    ␣ flags_phrase set
    ␣ word (predicate_word predicate)
    ␣ operand left
    ⌢ comma
    ␣ value_phrase left.ty right
operation_phrase (Convert code set value to) = opcode code ␣ flags_phrase set ␣ operand value ␣ word (codes "to") ␣ type_phrase to
operation_phrase (Select condition first second) = opcode op.Select ␣ operand condition ⌢ comma ␣ operand first ⌢ comma ␣ operand second
operation_phrase (Freeze value) = opcode op.Freeze ␣ operand value
operation_phrase (Phi ty incoming) = opcode op.Phi ␣ type_phrase ty ␣ listed (map (incoming_phrase ty) incoming)
operation_phrase (Load set ty address alignment) = opcode op.Load ␣ flags_phrase set ␣ type_phrase ty ⌢ comma ␣ aligned (operand address) alignment
operation_phrase (Store set value address alignment) = opcode op.Store ␣ flags_phrase set ␣ operand value ⌢ comma ␣ aligned (operand address) alignment
operation_phrase (Alloca ty count alignment) = opcode op.Alloca ␣ counted (type_phrase ty) count alignment
operation_phrase (GetElementPtr set source base indices) =
    opcode op.GetElementPtr
    ␣ address_flags_phrase set
    ␣ type_phrase source
    ⌢ comma
    ␣ with_more (operand base) (map operand indices)
operation_phrase (Call signature callee arguments) =
    opcode op.Call
    ␣ type_phrase signature.returns
    ␣ signature_phrase signature signature.variadic
    ␣ value_phrase ptr callee
    ⌢ in_parentheses (listed (map operand arguments))
operation_phrase (ExtractValue aggregate indices) = opcode op.ExtractValue ␣ with_more (operand aggregate) (map natural indices)
operation_phrase (InsertValue aggregate part indices) = opcode op.InsertValue ␣ operand aggregate ⌢ comma ␣ with_more (operand part) (map natural indices)
