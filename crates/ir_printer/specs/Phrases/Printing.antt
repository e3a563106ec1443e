-- For `put_type`, `put_global` and the other calls that put phrases: what it is to put pieces of canonical text, and the pieces that
-- stand round the parts of a list.
use Rattle.std.specs.Prelude.{List, [], ◌++◌, ℕ, zero, suc, Bool, true, false, codes}
use Rattle.ir_printer.specs.Gathered.Told.{GatherState, Tells}
use Rattle.ir_lexer.specs.Pieces.{TextPiece, Separator, Nothing, Space, Line, Indented, pieces_text}
use Rattle.canonical.specs.Phrase.{mark, comma}
use Rattle.ir_printer.specs.declared.phrases.separator.Separator as the_separator
use Rattle.ir_printer.specs.declared.phrases.separator.Separator.TheVariants as separator

-- the separator that is meant
abbrev pub separator_of : the_separator.Separator → Separator
separator_of separator.Nothing = Nothing
separator_of separator.Space = Space
separator_of separator.Line = Line
separator_of separator.Indented = Indented

-- the bytes of these pieces were put
abbrev pub Prints : GatherState → GatherState → List TextPiece → Type 0
Prints before now pieces = Tells before now (pieces_text pieces)

-- what stands behind a part of a list before so many others: nothing, for a comma comes next
abbrev pub separator_before : ℕ → Separator → Separator
separator_before zero behind = behind
separator_before (suc others) behind = Nothing

-- the comma before so many others
abbrev pub comma_before : ℕ → List TextPiece
comma_before zero = []
comma_before (suc others) = comma Space

-- the brace before so many fields of a struct
abbrev pub brace : ℕ → List TextPiece
brace zero = mark (codes "{") Nothing
brace (suc count) = mark (codes "{") Space

-- what stands before so many fields of a struct, packed or not
abbrev pub opening : Bool → ℕ → List TextPiece
opening false count = brace count
opening true count = mark (codes "<") Nothing ++ brace count

-- what stands behind them
abbrev pub closing : Bool → Separator → List TextPiece
closing false behind = mark (codes "}") behind
closing true behind = mark (codes "}") Nothing ++ mark (codes ">") behind
