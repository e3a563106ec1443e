-- For `put_typed`, and how the code reads: the parts of constants in canonical text, as the arena has them.
use Rattle.std.specs.Prelude.{ℕ, ◌<◌, true, false, List, codes, length, if◌then◌else◌}
use Rattle.ir_lexer.specs.Pieces.{TextPiece, Separator, Nothing, Space}
use Rattle.ir_tables.specs.Flag.{flag_word}
use Rattle.ir_tables.specs.Flags.{has_flag}
use Rattle.ir_tables.specs.declared.flag.Flag.{Flag}
use Rattle.ir_tables.specs.declared.opcode.Opcode.{Opcode}
use Rattle.type_table.specs.Types.{trees, tree}
use Rattle.module_arena.specs.declared.constant.ConstAddress.{ConstAddress}
use Rattle.module_arena.specs.declared.constant.ConstPair.{ConstPair}
use Rattle.module_arena.specs.declared.constant.TypedConst.{TypedConst}
use Rattle.module_arena.specs.Lists.{Lists}
use Rattle.module_arena.specs.Module.{Brackets, Square, Braces, Packed}
use Rattle.module_arena.specs.Module as m
use Rattle.module_arena.specs.View.{constants_of, constant_at, constants_at}
use Rattle.canonical.specs.Phrase.{Phrase, none, word, mark}
use Rattle.canonical.specs.Constants.{constant_phrase}
use Rattle.ir_printer.specs.Phrases.Printing.{opening, closing}

-- a flag with a space behind it, where the set has it
abbrev pub flag_pieces : ℕ → Flag → List TextPiece
flag_pieces set f = (if has_flag set f then word (flag_word f) else none) Space

-- the bracket before so many constants
abbrev pub bracket_opening : Brackets → ℕ → List TextPiece
bracket_opening Square count = mark (codes "[") Nothing
bracket_opening Braces count = opening false count
bracket_opening Packed count = opening true count

-- the bracket behind them
abbrev pub bracket_closing : Brackets → Separator → List TextPiece
bracket_closing Square behind = mark (codes "]") behind
bracket_closing Braces behind = closing false behind
bracket_closing Packed behind = closing true behind

-- what stands behind the last of them
abbrev pub last_in : Brackets → Separator
last_in Square = Nothing
last_in Braces = Space
last_in Packed = Space

-- a type and a constant of the arena
pub record IsPart (a : Lists) (part : TypedConst) : Type 0 where
  pub ty : part.ty < length a.table.types
  pub value : part.value < length a.constants

module _ (a : Lists) where
  -- a getelementptr; where a constant of its own stands at no type, any type serves
  abbrev pub element_address : ℕ → ConstAddress → Phrase
  element_address flags address =
      constant_phrase (tree a.table address.source)
      (m.ElementAddress flags (tree a.table address.source)
      (constants_at (trees a.table) (constants_of a) address.operands))

  -- a cast
  abbrev pub cast : Opcode → TypedConst → ℕ → Phrase
  cast opcode operand to =
      constant_phrase (tree a.table to) (m.Cast opcode (tree a.table operand.ty) (constant_at (constants_of a) operand.value) (tree a.table to))

  -- a sum, a difference or an exclusive or
  abbrev pub binary : Opcode → ℕ → ConstPair → Phrase
  binary opcode flags pair =
      constant_phrase (tree a.table pair.left.ty)
      (m.Binary opcode flags (tree a.table pair.left.ty)
      (constant_at (constants_of a) pair.left.value)
      (tree a.table pair.right.ty)
      (constant_at (constants_of a) pair.right.value))
