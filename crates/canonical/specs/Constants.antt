-- For `print` and `put_constant`: constants, values and flags in canonical text.
use Rattle.std.specs.Prelude.{ℕ, ◌==◌, Bool, true, false, List, [], ◌∷◌, codes, if◌then◌else◌}
use Rattle.ir_lexer.specs.Pieces.{Space}
use Rattle.ir_tables.specs.Flag.{flags, flag_word}
use Rattle.ir_tables.specs.Flags.{has_flag}
use Rattle.ir_tables.specs.Opcode.{opcode_word}
use Rattle.ir_tables.specs.declared.flag.Flag.{Flag}
use Rattle.ir_tables.specs.declared.flag.Flag.TheVariants.{Inbounds, Nusw, Nuw}
use Rattle.ir_tables.specs.declared.opcode.Opcode.{Opcode}
use Rattle.ir_tables.specs.declared.opcode.Opcode.TheVariants as op
use Rattle.ir_tables.specs.declared.width.TheConstants.{WIDEST}
use Rattle.type_table.specs.Tree.{Tree, int}
use Rattle.module_arena.specs.Module.{Constant, Integer, Truth, Null, Undef, Poison, ZeroInitializer, Address, ByteString, Aggregate, ElementAddress, Cast, Binary, Constants, no_constants, more_constants, Brackets, Square, Braces, Packed, Value, Local, Known, Operand}
use Rattle.canonical.specs.Phrase.{Phrase, none, word, number, comma, ◌␣◌, ◌⌢◌, each, listed, enclosed, in_parentheses}
use Rattle.canonical.specs.Names.{global, local, byte_string, signed_spelling}
use Rattle.canonical.specs.Types.{type_phrase, in_braces}

-- the flags that are there, of these, in this order
abbrev pub flag_words : ℕ → List Flag → List Phrase
flag_words set [] = []
flag_words set (f ∷ fs) = (if has_flag set f then word (flag_word f) else none) ∷ flag_words set fs

-- the flags of a getelementptr, in the order in which they are written
abbrev pub address_flags : List Flag
address_flags = Inbounds ∷ Nusw ∷ Nuw ∷ []

-- the flags of an instruction, in the order of the table, each with a space behind it
abbrev pub flags_phrase : ℕ → Phrase
flags_phrase set = each Space (flag_words set flags)

-- the flags of a getelementptr, each with a space behind it
abbrev pub address_flags_phrase : ℕ → Phrase
address_flags_phrase set = each Space (flag_words set address_flags)

-- the word of an opcode
abbrev pub opcode : Opcode → Phrase
opcode code = word (opcode_word code)

-- `true` or `false`
abbrev pub truth : Bool → Phrase
truth true = word (codes "true")
truth false = word (codes "false")

-- an integer at a type: signed decimal, and at i1 `true` or `false`
abbrev pub integer_phrase : Tree → ℕ → Phrase
integer_phrase (int width) n = if width == 1 then truth (n == 1) else number (signed_spelling width n)
integer_phrase _ n = number (signed_spelling WIDEST n)

-- constants in their brackets
abbrev pub in_brackets : Brackets → List Phrase → Phrase
in_brackets Square ps = enclosed (codes "[") (listed ps) (codes "]")
in_brackets Braces ps = in_braces false ps
in_brackets Packed ps = in_braces true ps

abbrev mutual
  -- a constant at this type
  pub constant_phrase : Tree → Constant → Phrase
  constant_phrase ty (Integer n) = integer_phrase ty n
  constant_phrase ty (Truth b) = truth b
  constant_phrase ty Null = word (codes "null")
  constant_phrase ty Undef = word (codes "undef")
  constant_phrase ty Poison = word (codes "poison")
  constant_phrase ty ZeroInitializer = word (codes "zeroinitializer")
  constant_phrase ty (Address name) = global name
  constant_phrase ty (ByteString bytes) = byte_string bytes
  constant_phrase ty (Aggregate brackets elements) = in_brackets brackets (constant_phrases elements)
  constant_phrase ty (ElementAddress set source operands) =
      opcode op.GetElementPtr ␣ address_flags_phrase set ␣ in_parentheses (type_phrase source ⌢ comma ␣ listed (constant_phrases operands))
  constant_phrase ty (Cast code from value to) =
      opcode code ␣ in_parentheses (type_phrase from ␣ constant_phrase from value ␣ word (codes "to") ␣ type_phrase to)
  constant_phrase ty (Binary code set left_type left right_type right) =
      opcode code ␣ flags_phrase set
      ␣ in_parentheses (type_phrase left_type ␣ constant_phrase left_type left ⌢ comma ␣ type_phrase right_type ␣ constant_phrase right_type right)

  -- each with its type
  pub constant_phrases : Constants → List Phrase
  constant_phrases no_constants = []
  constant_phrases (more_constants ty c cs) = (type_phrase ty ␣ constant_phrase ty c) ∷ constant_phrases cs

-- a constant with its type
abbrev pub typed_constant : Tree → Constant → Phrase
typed_constant ty c = type_phrase ty ␣ constant_phrase ty c

-- a value at this type
abbrev pub value_phrase : Tree → Value → Phrase
value_phrase ty (Local name) = local name
value_phrase ty (Known c) = constant_phrase ty c

-- a value with its type
abbrev pub operand : Operand → Phrase
operand o = type_phrase o.ty ␣ value_phrase o.ty o.value
