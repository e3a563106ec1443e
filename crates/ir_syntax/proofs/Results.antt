-- What the answer for a text says of it.
use Rattle.std.proofs.Common.{◌≡◌, ℕ, ◌≤◌, ◌<◌, List, [], ◌∷◌, length, Bool, true, false, not, refl, sym, ap, subst, ◌∙◌, arith, length-drop, ◌&&◌, nat_lt, Option, Result, Ok, Err}
use Rattle.std.specs.Option.{is_none}
use Rattle.std.specs.Bool.{MatchBool}
use Rattle.std.proofs.lemmas.Bool.{ltb-true, ltb-false, not-true}
use Rattle.ir_terminals.specs.PhraseRows.Row.{Done, Bad}
use Rattle.ir_terminals.proofs.OnPhraseRows.Answer.{IsAnswer, answered, answered_whole, first_bad_once, viable_through, viable_in_whole, not_viable_from}
use Rattle.ir_terminals.proofs.OnPhraseRows.Values.{one_value}
use Rattle.ir_lexer.specs.Ahead.{Located, tokens_in}
use Rattle.ir_lexer.specs.Tokens.{Tokens}
use Rattle.ir_lexer.proofs.TokenLists.{list_or_bad_not_both}
use Rattle.ir_terminals.specs.Position.{Position, tokens_left, text_tokens, is_cut_off, first_terminal, is_bad_next}
use Rattle.ir_terminals.specs.declared.terminal.Terminal.{Terminal}
use Rattle.ir_terminals.specs.Role.{class}
use Rattle.ir_terminals.specs.declared.limits.Limits.{Limits}
use Rattle.ir_terminals.specs.Follows.{Moves}
use Rattle.ir_terminals.specs.declared.fault.Fault.{Fault}
use Rattle.ir_terminals.specs.declared.fault.Fault.TheVariants as faults
use Rattle.ir_terminals.proofs.Fronts.{whole_text}
use Rattle.ir_syntax.specs.Tree.{ItemTree}
use Rattle.ir_syntax.specs.Items.{IsViable, items_row, language}
use Rattle.ir_syntax.specs.Answers.{text_answer, Answers, passed, is_end, HasItems, FirstBad}
use Rattle.ir_syntax.specs.Refusal.{through}
use Rattle.ir_syntax.proofs.Grammar.{reads_items}

is_answer : (limits : Limits) (text : List ℕ) (x : Result (List ItemTree) ℕ) → text_answer limits text ≡ x → IsAnswer (items_row limits) (not (is_cut_off text)) (text_tokens text) x
is_answer limits text x e =
    subst (λ (y : Result (List ItemTree) ℕ). IsAnswer (items_row limits) (not (is_cut_off text)) (text_tokens text) y) e
    (answered class (items_row limits) (items_row limits).shape (reads_items limits) (not (is_cut_off text)) (text_tokens text))

-- the answer's items are the text's
pub answer_items : (text : List ℕ) (items : List ItemTree) → text_answer language text ≡ Ok items → HasItems text items
answer_items text items e =
    let a = is_answer language text (Ok items) e in
    record { are_tokens = (whole_text text).0 (not-true (is_cut_off text) a.0); are_items = a.1 }

not_cut : (text : List ℕ) (b : Bool) → is_cut_off text ≡ b → Tokens text (tokens_in (text_tokens text)) → b ≡ false
not_cut text false e h = refl
not_cut text true e h = absurd (list_or_bad_not_both text _ _ h ((whole_text text).1 e))

-- the text's items are its answer
pub items_answer : (text : List ℕ) (items : List ItemTree) → HasItems text items → text_answer language text ≡ Ok items
items_answer text items h =
    let e = not_cut text (is_cut_off text) refl h.are_tokens in
    rw e (answered_whole class (items_row language) (items_row language).shape (reads_items language) (text_tokens text) items h.are_items)

-- a text has no two lists of items
pub one_items : (text : List ℕ) (items others : List ItemTree) → HasItems text items → HasItems text others → others ≡ items
one_items text items others h g = one_value (reads_items language) (text_tokens text) others items g.are_items h.are_items

-- the answer's place is the first bad one
pub answer_bad : (text : List ℕ) (i : ℕ) → text_answer language text ≡ Err i → FirstBad text i
answer_bad text i e = is_answer language text (Err i) e

-- the first bad place is the answer's
pub bad_answer : (text : List ℕ) (i : ℕ) → FirstBad text i → text_answer language text ≡ Err i
bad_answer text i b = first_bad_once class (items_row language) (items_row language).shape (reads_items language) (not (is_cut_off text)) (text_tokens text) i b

pub err_once : (x : Result (List ItemTree) ℕ) (i j : ℕ) → x ≡ Err i → x ≡ Err j → i ≡ j
err_once x i j e f = cc

-- there is one first bad place
pub one_first_bad : (text : List ℕ) (i j : ℕ) → FirstBad text i → FirstBad text j → i ≡ j
one_first_bad text i j b c = err_once (text_answer language text) i j (bad_answer text i b) (bad_answer text j c)

-- a text with items has none
pub items_not_bad : (text : List ℕ) (items : List ItemTree) (i : ℕ) → HasItems text items → FirstBad text i → ⊥
items_not_bad text items i h b = let e = items_answer text items h in let f = bad_answer text i b in absurd cc

-- a reading of all tokens gets past each
pub viable_whole : (limits : Limits) (text : List ℕ) (i : ℕ) (items : List ItemTree) → text_answer limits text ≡ Ok items → i < length (text_tokens text) → IsViable limits (through text i)
viable_whole limits text i items e lt = viable_in_whole class (items_row limits) (items_row limits).shape (reads_items limits) (not (is_cut_off text)) (text_tokens text) i items e lt

-- a reading that stops behind a token gets past it
pub viable_before : (limits : Limits) (text : List ℕ) (i j : ℕ) → text_answer limits text ≡ Err j → i < j → IsViable limits (through text i)
viable_before limits text i j e lt = viable_through class (items_row limits) (items_row limits).shape (reads_items limits) (not (is_cut_off text)) (text_tokens text) i j e lt

-- another does not
pub not_viable_behind : (limits : Limits) (text : List ℕ) (i j : ℕ) → text_answer limits text ≡ Err j → j ≤ i → i < length (text_tokens text) → IsViable limits (through text i) → ⊥
not_viable_behind limits text i j e le lt f = not_viable_from class (items_row limits) (items_row limits).shape (reads_items limits) (not (is_cut_off text)) (text_tokens text) i j e le lt f

-- the tokens that were taken stand before those that are left
pub passed_taken : (p : Position) → p.taken ≤ length (text_tokens p.text) → passed p ≡ p.taken
unfolding tokens_left
passed_taken p le = omega (arith, length-drop p.taken (text_tokens p.text), le)

-- at the first token all are left
pub left_start : (p : Position) → p.taken ≡ 0 → tokens_left p ≡ text_tokens p.text
unfolding tokens_left
left_start p e = rw e refl

-- whether the text ends there, as a cursor tells it
pub end_told : (p : Position) (ts : List Located) (terminal : Option Terminal) (bad : Bool) → terminal ≡ first_terminal ts → bad ≡ is_bad_next p ts → (is_none terminal && not bad) ≡ is_end p ts
end_told p [] terminal bad e f = rw (e, f) refl
end_told p (t ∷ ts) terminal bad e f = rw e refl

-- items up to the end are the answer
pub end_answer : (limits : Limits) (p : Position) (items : List ItemTree) → (items_row limits).run (text_tokens p.text) ≡ Done items (tokens_left p) → is_end p (tokens_left p) ≡ true → text_answer limits p.text ≡ Ok items
end_answer limits p items e end = by_left (tokens_left p) e end
  where
    by_left : (ts : List Located) → (items_row limits).run (text_tokens p.text) ≡ Done items ts → is_end p ts ≡ true → text_answer limits p.text ≡ Ok items
    by_left [] e end = rw (e, end) refl
    by_left (t ∷ ts) e end = absurd cc

-- items that end before it leave the first bad place
pub rest_answer : (limits : Limits) (p : Position) (items : List ItemTree) → (items_row limits).run (text_tokens p.text) ≡ Done items (tokens_left p) → is_end p (tokens_left p) ≡ false → text_answer limits p.text ≡ Err (passed p)
rest_answer limits p items e end = by_left (tokens_left p) refl e end
  where
    by_left : (ts : List Located) → tokens_left p ≡ ts → (items_row limits).run (text_tokens p.text) ≡ Done items ts → is_end p ts ≡ false → text_answer limits p.text ≡ Err (passed p)
    by_left [] l e end = rw (e, end, l) (ap Err (omega arith))
    by_left (t ∷ ts) l e end = rw (e, l) refl

-- a token at which no item goes on is the first bad one
pub bad_items : (limits : Limits) (p : Position) → (items_row limits).run (text_tokens p.text) ≡ Bad (tokens_left p) → text_answer limits p.text ≡ Err (passed p)
bad_items limits p e = rw e refl

run_start : (limits : Limits) (p q : Position) → p.taken ≡ 0 → q.text ≡ p.text → (items_row limits).run (text_tokens q.text) ≡ (items_row limits).run (tokens_left p)
run_start limits p q z same = ap (items_row limits).run (ap text_tokens same ∙ sym (left_start p z))

-- a reading of all items from the first token on, up to the end
pub whole_told : (p q : Position) (items : List ItemTree) → p.taken ≡ 0 → q.text ≡ p.text → (items_row p.limits).run (tokens_left p) ≡ Done items (tokens_left q) → is_end q (tokens_left q) ≡ true → text_answer p.limits p.text ≡ Ok items
whole_told p q items z same e end =
    subst (λ (text : List ℕ). text_answer p.limits text ≡ Ok items) same (end_answer p.limits q items (run_start p.limits p q z same ∙ e) end)

-- or up to another place
pub rest_told : (p q : Position) (items : List ItemTree) → p.taken ≡ 0 → q.text ≡ p.text → (items_row p.limits).run (tokens_left p) ≡ Done items (tokens_left q) → is_end q (tokens_left q) ≡ false → text_answer p.limits p.text ≡ Err (passed q)
rest_told p q items z same e end =
    subst (λ (text : List ℕ). text_answer p.limits text ≡ Err (passed q)) same (rest_answer p.limits q items (run_start p.limits p q z same ∙ e) end)

-- or to a bad token
bad_told : (p q : Position) → p.taken ≡ 0 → q.text ≡ p.text → (items_row p.limits).run (tokens_left p) ≡ Bad (tokens_left q) → text_answer p.limits p.text ≡ Err (passed q)
bad_told p q z same e =
    subst (λ (text : List ℕ). text_answer p.limits text ≡ Err (passed q)) same (bad_items p.limits q (run_start p.limits p q z same ∙ e))

-- a refusal by the items is one of the text
pub refused_told : {X : Type 0} (view : X → List ItemTree) (p q : Position) (fault : Fault) → p.taken ≡ 0 → Moves view p (Err fault) q ((items_row p.limits).run (tokens_left p)) → Answers view p.limits p.text (Err fault) q
refused_told view p q faults.Memory z m = tt
refused_told view p q faults.Refused z m = (bad_told p q z m.2 m.0, m.2)

module _ {X : Type 0} (view : X → List ItemTree) (limits : Limits) (text : List ℕ) (i : ℕ) (lt : i < length (text_tokens text)) where
  -- what a reading of the text tells of a token of it
  pub viable_told : (x : X) (q : Position) → Answers view limits text (Ok x) q → IsViable limits (through text i)
  viable_told x q a = viable_whole limits text i (view x) a.0 lt

  passed_in : (q : Position) (n : ℕ) → q.text ≡ text → n ≡ q.taken → q.taken ≤ length (text_tokens q.text) → passed q ≡ n
  passed_in q n same e le = passed_taken q le ∙ sym e

  pub viable_before_told : (q : Position) (n : ℕ) → Answers view limits text (Err faults.Refused) q → n ≡ q.taken → q.taken ≤ length (text_tokens q.text) → MatchBool (nat_lt i n) (IsViable limits (through text i)) (IsViable limits (through text i) → ⊥)
  viable_before_told q n a e le = by_order (nat_lt i n) refl
    where
      answered_at : text_answer limits text ≡ Err n
      answered_at = a.0 ∙ ap Err (passed_in q n a.1 e le)

      by_order : (b : Bool) → nat_lt i n ≡ b → MatchBool b (IsViable limits (through text i)) (IsViable limits (through text i) → ⊥)
      by_order true h = viable_before limits text i n answered_at (ltb-true i n h)
      by_order false h = not_viable_behind limits text i n answered_at (ltb-false i n h) lt
