-- For `equal_look_ups_give_equal_runs`: the host function `printf` (C, "The fprintf function"), whose pattern and arguments are read
-- from memory.
use Rattle.std.specs.Prelude.{ℕ, zero, suc, ◌+◌, ◌%◌, ◌^◌, List, [], ◌∷◌, ◌++◌, length, slice_range, Option, Some, None, Result, Ok, Err, if◌then◌else◌}
use Rattle.ir_tables.specs.declared.undefined_kind.UndefinedKind.{UndefinedKind}
use Rattle.ir_tables.specs.declared.undefined_kind.UndefinedKind.TheVariants as kinds
use Rattle.ir_eval.specs.declared.value.Pointer.{Pointer}
use Rattle.ir_eval.specs.declared.value.Scalar.{Scalar}
use Rattle.ir_eval.specs.declared.value.Scalar.TheVariants.{Int, Ptr, Poison}
use Rattle.ir_memory.specs.declared.leaf.Leaf.TheVariants as leaf
use Rattle.ir_memory.specs.Memory.{Blocks, loaded}
use Rattle.ir_printf.specs.declared.conversion.Conversion.{Conversion}
use Rattle.ir_printf.specs.declared.conversion.ConversionKind.{ConversionKind}
use Rattle.ir_printf.specs.declared.conversion.ConversionKind.TheVariants as kind
use Rattle.ir_printf.specs.declared.conversion.Length.{Length}
use Rattle.ir_printf.specs.declared.conversion.Length.TheVariants as size
use Rattle.ir_printf.specs.declared.pattern.BadFormat.{BadFormat}
use Rattle.ir_printf.specs.declared.pattern.PatternPiece.{PatternPiece}
use Rattle.ir_printf.specs.declared.pattern.PatternPiece.TheVariants as piece
use Rattle.ir_printf.specs.Pattern.{piece_at}
use Rattle.ir_printf.specs.Printed.{is_number, printed_number, printed_bytes}
use Rattle.linkage_rules.specs.SameShape.{same_shape}
use Rattle.type_table.specs.Shape.{Shape, int_leaf, ptr_leaf}
use Rattle.run_rules.specs.Access.{and_then, behind, string_from, string_at}
use Rattle.run_rules.specs.Answer.{Answer, Gives, undefined}

-- the shape of the argument that a conversion takes
abbrev pub shape_for : ConversionKind → Length → Shape
shape_for kind.Bytes span = ptr_leaf
shape_for kind.Char span = int_leaf 32
shape_for _ size.Long = int_leaf 64
shape_for _ span = int_leaf 32

-- the bytes before the first zero, no more than so many; behind those no byte is read
unfoldable pub string_up_to : Blocks → ℕ → Pointer → Result (List ℕ) UndefinedKind
string_up_to m zero p = Ok []
string_up_to m (suc most) p = and_then (loaded m (Ptr p) (leaf.Int 8) 1) (λ byte. string_from byte (string_up_to m most (behind p 1)))

-- the string that `s` writes: with a precision no further byte is read
abbrev pub string_for : Blocks → Option ℕ → Pointer → Result (List ℕ) UndefinedKind
string_for m None p = string_at m p
string_for m (Some most) p = string_up_to m most p

-- what a conversion writes of the leaf that it takes
abbrev pub converted : Blocks → Conversion → Scalar → Result (List ℕ) UndefinedKind
converted m c (Int n) = Ok (if is_number c.kind then printed_number c n else printed_bytes c (n % 256 ∷ []))
converted m c (Ptr p) = and_then (string_for m c.precision p) (λ bytes. Ok (printed_bytes c bytes))
converted m c Poison = Err kinds.PoisonArgument

-- one behind the other; the first that is undefined is told
abbrev pub then_bytes : Result (List ℕ) UndefinedKind → Result (List ℕ) UndefinedKind → Result (List ℕ) UndefinedKind
then_bytes (Err e) rest = Err e
then_bytes (Ok xs) (Err e) = Err e
then_bytes (Ok xs) (Ok ys) = Ok (xs ++ ys)

-- what is written from a place of the pattern on, of the arguments that no conversion has taken yet
abbrev pub Rest : Type 0
Rest = ℕ → List Shape → List Scalar → Result (List ℕ) UndefinedKind

-- Any conversion but `%%` takes the next argument, which has its type. Where its type is another, that is told, and not that it is
-- poison
abbrev pub written_conversion : Blocks → Rest → Conversion → ConversionKind → ℕ → Rest
written_conversion m rest c kind.Percent to at shapes leaves = then_bytes (Ok (37 ∷ [])) (rest to shapes leaves)
written_conversion m rest c _ to at (s ∷ ss) (v ∷ vs) =
    if same_shape s (shape_for c.kind c.length) then then_bytes (converted m c v) (rest to ss vs) else Err kinds.BadFormat
written_conversion m rest c _ to at _ _ = Err kinds.BadFormat

-- a piece of the pattern that begins at a place, and what is behind it
abbrev pub written_piece : Blocks → List ℕ → Rest → Result PatternPiece BadFormat → Rest
written_piece m pattern rest (Err bad) at shapes leaves = Err kinds.BadFormat
written_piece m pattern rest (Ok piece.End) at shapes leaves = Ok []
written_piece m pattern rest (Ok (piece.Literal from to)) at shapes leaves = then_bytes (Ok (slice_range pattern from to)) (rest to shapes leaves)
written_piece m pattern rest (Ok (piece.Convert c to)) at shapes leaves = written_conversion m rest c c.kind to at shapes leaves

-- each piece takes a byte of the pattern, so one more than it has bytes is enough
unfoldable pub written_from : Blocks → List ℕ → ℕ → Rest
written_from m pattern zero at shapes leaves = Ok []
written_from m pattern (suc room) at shapes leaves = written_piece m pattern (written_from m pattern room) (piece_at pattern at) at shapes leaves

-- nothing is written where anything is undefined; the result is the count of bytes
abbrev pub printed : Blocks → Result (List ℕ) UndefinedKind → Answer
printed m (Ok bytes) = Gives (Int (length bytes % 2 ^ 32) ∷ []) m bytes
printed m (Err kind) = undefined kind

-- The pattern is read whole, before any conversion is judged. Arguments that no conversion takes are passed over, poison ones too
abbrev pub prints : List Shape → List Scalar → Blocks → Answer
prints (s ∷ shapes) (Ptr p ∷ leaves) m = printed m (and_then (string_at m p) (λ pattern. written_from m pattern (length pattern + 1) 0 shapes leaves))
prints _ _ m = undefined kinds.PoisonArgument
