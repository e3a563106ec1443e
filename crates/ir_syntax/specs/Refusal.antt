-- For `read_items`: the kinds of a refusal, at the first bad place.
use Rattle.std.specs.Prelude.{◌≡◌, ◌⊎◌, ℕ, suc, ◌+◌, true, false, List, length, take, slice_get, Some}
use Rattle.ir_lexer.specs.Ahead.{Located}
use Rattle.ir_terminals.specs.LeftOut.{is_left_out_as}
use Rattle.ir_terminals.specs.Position.{text_tokens, is_cut_off, end_place, is_behind_less}
use Rattle.ir_terminals.specs.declared.limits.Limits.{Limits}
use Rattle.ir_syntax.specs.Answers.{FirstBad}
use Rattle.ir_syntax.specs.Items.{IsViable}
use Rattle.ir_syntax.specs.declared.read.SyntaxFault.{SyntaxFault}
use Rattle.ir_syntax.specs.declared.read.SyntaxFault.TheVariants as faults
use Rattle.type_table.specs.declared.measure.TheConstants.{NESTING_LIMIT}

-- the language with one nest more
abbrev pub deeper : Limits
deeper = record { nesting = NESTING_LIMIT + 1; with_left_out = false }

-- the language in which unnamed locals name structs, and `...` ends the parameters of a definition
abbrev pub wider : Limits
wider = record { nesting = NESTING_LIMIT; with_left_out = true }

-- the tokens up to and with this one
abbrev pub through : List ℕ → ℕ → List Located
through text i = take (suc i) (text_tokens text)

-- the token opens a type or a constant one nest too deep: with one nest more it might stand there
abbrev pub IsTooDeep : List ℕ → ℕ → Type 0
IsTooDeep text i = IsViable deeper (through text i)

-- the token is of the list of what is left out, or might stand there if that were not left out
abbrev pub IsLeftOut : List ℕ → ℕ → Located → Type 0
IsLeftOut text i t = (is_left_out_as t.token.kind t.token.spelling (is_behind_less text i) ≡ true) ⊎ IsViable wider (through text i)

-- the first bad token, by its number
pub record BadToken (text : List ℕ) (i : ℕ) (t : Located) : Type 0 where
  pub first_bad : FirstBad text i
  pub token : slice_get (text_tokens text) i ≡ Some t

-- all tokens are viable, but the text is no list of items: its end, or the byte behind them, is the first bad place
abbrev pub BadEnd : List ℕ → Type 0
BadEnd text = FirstBad text (length (text_tokens text))

-- The refusal of a text that is no list of items: by the first bad place, and there the first of these that applies.
abbrev pub IsRefused : List ℕ → SyntaxFault → Type 0
IsRefused text (faults.BadByte place) = BadEnd text × (is_cut_off text ≡ true) × (place ≡ end_place text)
IsRefused text (faults.TooDeep place) = (i : ℕ) × (t : Located) × BadToken text i t × IsTooDeep text i × (place ≡ t.place)
IsRefused text (faults.LeftOutWord place word) =
    (i : ℕ) × (t : Located) × BadToken text i t × (IsTooDeep text i → ⊥) × IsLeftOut text i t × (place ≡ t.place) × (word ≡ t.token.spelling)
IsRefused text (faults.NoItemHere place) =
    (BadEnd text × (is_cut_off text ≡ false) × (place ≡ end_place text))
    ⊎ ((i : ℕ) × (t : Located) × BadToken text i t × (IsTooDeep text i → ⊥) × (IsLeftOut text i t → ⊥) × (place ≡ t.place))
IsRefused text faults.Memory = ⊥
