-- What it is that a phrase prints the value of a row.
use Rattle.std.specs.Prelude.{◌≡◌, true, false, Bool, List, ◌++◌}
use Rattle.ir_base.specs.declared.place.Place.{Place}
use Rattle.ir_lexer.specs.Ahead.{Located, tokens_in}
use Rattle.ir_lexer.specs.Class.{starts_with}
use Rattle.ir_lexer.specs.Pieces.{TextPiece, Separator, Nothing, Space, Line, Indented, AreSound, pieces_text, tokens_of}
use Rattle.ir_lexer.specs.declared.class.Class.{Class}
use Rattle.ir_lexer.specs.declared.class.Class.TheVariants.{Mark}
use Rattle.ir_terminals.specs.PhraseRows.Row.{Row}
use Rattle.canonical.specs.Phrase.{Phrase}
use Rattle.canonical.specs.Items.Unplaced.{nowhere}

-- what ends any token before it: one of `, ( ) [ ] { } < > =`
abbrev pub is_mark : Class → Bool
is_mark Mark = true
is_mark _ = false

-- a separator ends the token before it; so does a mark that stands directly behind
abbrev pub Fits : Separator → List TextPiece → Type 0
Fits Nothing rest = starts_with is_mark (pieces_text rest) ≡ true
Fits Space rest = Unit {0}
Fits Line rest = Unit {0}
Fits Indented rest = Unit {0}

-- the phrase's pieces are sound before whatever fits
pub record IsSpaced (p : Phrase) : Type 0 where
  pub sound : (behind : Separator) (rest : List TextPiece) → Fits behind rest → AreSound rest → AreSound (p behind ++ rest)

-- what is left of a place
abbrev pub no_place : Place → Place
no_place place = nowhere

-- The pieces are sound, and their tokens, wherever they stand, are whole by the row, with a value that is x but for the
-- places in it.
pub record IsPrinted {A X : Type 0} (r : Row Located A) (unplaced : A → X) (x : X) (p : Phrase) : Type 0 where
  pub spaced : IsSpaced p
  pub whole : (behind : Separator) (ts : List Located) → tokens_in ts ≡ tokens_of (p behind) → (a : A) × r.whole ts a × (unplaced a ≡ x)

-- a phrase in two parts
pub record Joins (p q both : Phrase) : Type 0 where
  pub between : Separator → Separator
  pub parts : (behind : Separator) → both behind ≡ p (between behind) ++ q behind
  pub spaced : IsSpaced p → IsSpaced q → IsSpaced both

-- the phrase begins with a mark, whatever follows it
pub record Starts (p : Phrase) : Type 0 where
  pub starts : (behind : Separator) (rest : List TextPiece) → starts_with is_mark (pieces_text (p behind ++ rest)) ≡ true
