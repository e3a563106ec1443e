-- For `read_items`: what reading all of a text comes to, with given limits.
use Rattle.std.specs.Prelude.{◌≡◌, ℕ, ◌-◌, List, [], ◌∷◌, length, Bool, false, not, Result, Ok, Err}
use Rattle.ir_terminals.specs.PhraseRows.Answer.{answer, IsFirstBad}
use Rattle.ir_lexer.specs.Tokens.{Tokens}
use Rattle.ir_lexer.specs.Ahead.{Located, tokens_in}
use Rattle.ir_terminals.specs.Position.{Position, tokens_left, text_tokens, is_cut_off}
use Rattle.ir_terminals.specs.declared.fault.Fault.{Fault}
use Rattle.ir_terminals.specs.declared.fault.Fault.TheVariants as faults
use Rattle.ir_terminals.specs.declared.limits.Limits.{Limits}
use Rattle.ir_syntax.specs.Tree.{ItemTree}
use Rattle.ir_syntax.specs.Items.{Items, items_row, language}

-- the items of all the text's tokens, or the number of the first bad one
abbrev pub text_answer : Limits → List ℕ → Result (List ItemTree) ℕ
text_answer limits text = answer (items_row limits) (not (is_cut_off text)) (text_tokens text)

-- whether nothing is left, and nothing stands behind the tokens
abbrev pub is_end : Position → List Located → Bool
is_end p [] = not (is_cut_off p.text)
is_end p (t ∷ ts) = false

-- how many of the text's tokens stand before those that are left
abbrev pub passed : Position → ℕ
passed p = length (text_tokens p.text) - length (tokens_left p)

-- the call gave the text's answer: the items, or a refusal at the first bad token, at which the cursor then stands
abbrev pub Answers : {X : Type 0} → (X → List ItemTree) → Limits → List ℕ → Result X Fault → Position → Type 0
Answers view limits text (Ok x) new = (text_answer limits text ≡ Ok (view x)) × (new.text ≡ text)
Answers view limits text (Err faults.Memory) new = Unit {0}
Answers view limits text (Err faults.Refused) new = (text_answer limits text ≡ Err (passed new)) × (new.text ≡ text)

-- the text's tokens are these items
pub record HasItems (text : List ℕ) (items : List ItemTree) : Type 0 where
  pub are_tokens : Tokens text (tokens_in (text_tokens text))
  pub are_items : Items (text_tokens text) items

-- The token with this number, or what stands behind the tokens, is the first with which the text is no list of items
-- and none that is cut. A byte where no token begins stands behind the tokens before it.
abbrev pub FirstBad : List ℕ → ℕ → Type 0
FirstBad text i = IsFirstBad (items_row language) (not (is_cut_off text)) (text_tokens text) i
