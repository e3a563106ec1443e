-- Where a wider language does not get over the first bad token, so that the text need not be read in it.
use Rattle.std.proofs.Common.{◌≡◌, ℕ, ◌<◌, List, [], ◌∷◌, ◌++◌, length, drop, slice_get, Bool, true, false, not, inl, inr, refl, sym, ap, subst, ◌∙◌, arith, length-append, ◌-◌, Some, Err}
use Rattle.std.specs.Bool.{MatchBool}
use Rattle.ir_terminals.specs.PhraseRows.Row.{Bad}
use Rattle.ir_terminals.specs.PhraseRows.Answer.{ended}
use Rattle.ir_terminals.proofs.OnPhraseRows.Values.{takes_at}
use Rattle.ir_lexer.specs.Ahead.{Located}
use Rattle.ir_terminals.specs.declared.limits.Limits.{Limits}
use Rattle.ir_terminals.specs.LeftOut.{is_left_out}
use Rattle.ir_terminals.specs.Position.{Position, tokens_left, text_tokens, is_cut_off}
use Rattle.ir_syntax.specs.Items.{IsViable, items_row, language}
use Rattle.ir_syntax.specs.Answers.{text_answer, passed, FirstBad}
use Rattle.ir_syntax.specs.Refusal.{deeper, wider, through, IsTooDeep, IsLeftOut}
use Rattle.ir_syntax.specs.Widths.{opens_nest, is_of_wider, is_first}
use Rattle.ir_syntax.proofs.Grammar.{reads_items}
use Rattle.ir_syntax.proofs.Results.{bad_answer, not_viable_behind, passed_taken, err_once}
use Rattle.ir_syntax.proofs.Refusals.{left_out_told}
use Rattle.ir_syntax.proofs.Widened.{IsWidened}
use Rattle.ir_syntax.proofs.WidenedLanguages.{deeper_items, wider_items}

drop_over : {T : Type 0} (us vs : List T) → drop (length us) (us ++ vs) ≡ vs
drop_over [] vs = refl
drop_over (u ∷ us) vs = drop_over us vs

-- the token at which the language is refused is the next one
bad_is_next : (p : Position) (t : Located) (rest : List Located) → (items_row language).run (text_tokens p.text) ≡ Bad (t ∷ rest) → text_answer language p.text ≡ Err p.taken → tokens_left p ≡ t ∷ rest
unfolding tokens_left
bad_is_next p t rest e a = by_parts (takes_at (reads_items language) (text_tokens p.text) (Bad (t ∷ rest)) e)
  where
    told : text_answer language p.text ≡ Err (length (text_tokens p.text) - length (t ∷ rest))
    told = ap (ended (not (is_cut_off p.text)) (length (text_tokens p.text))) e

    by_parts : (us : List Located) × (text_tokens p.text ≡ us ++ (t ∷ rest)) × (items_row language).cut us → drop p.taken (text_tokens p.text) ≡ t ∷ rest
    by_parts (us, d, c) =
        let k = err_once (text_answer language p.text) p.taken (length (text_tokens p.text) - length (t ∷ rest)) a told in
        let n : p.taken ≡ length us = omega (arith, k, ap length d, length-append us (t ∷ rest)) in
        ap (λ (m : ℕ). drop m (text_tokens p.text)) n ∙ (ap (λ (ts : List Located). drop (length us) ts) d ∙ drop_over us (t ∷ rest))

module _ {may : Located → Bool} (limits : Limits) (w : IsWidened may (items_row language) (items_row limits)) where
  not_over : (p : Position) → p.taken < length (text_tokens p.text) → FirstBad p.text (passed p) → is_first may (tokens_left p) ≡ false → IsViable limits (through p.text p.taken) → ⊥
  not_over p lt b other v = elim (w.kept (text_tokens p.text)) [
    | inl same ↦ not_viable_behind limits p.text p.taken p.taken (ap (ended (not (is_cut_off p.text)) (length (text_tokens p.text))) same ∙ answer) (omega arith) lt v
    | inr (t, rest, e, m) ↦ absurd (let next = bad_is_next p t rest e answer in let k : is_first may (tokens_left p) ≡ true = ap (is_first may) next ∙ m in cc)
  ]
    where
      answer : text_answer language p.text ≡ Err p.taken
      answer = bad_answer p.text (passed p) b ∙ ap Err (passed_taken p (omega arith))

  not_over_in : (p : Position) (text : List ℕ) → p.text ≡ text → p.taken < length (text_tokens text) → FirstBad text (passed p) → is_first may (tokens_left p) ≡ false → IsViable limits (through text p.taken) → ⊥
  not_over_in p text same =
      subst (λ (ts : List ℕ). p.taken < length (text_tokens ts) → FirstBad ts (passed p) → is_first may (tokens_left p) ≡ false → IsViable limits (through ts p.taken) → ⊥) same (not_over p)

module _ (p : Position) (text : List ℕ) (same : p.text ≡ text) (lt : p.taken < length (text_tokens text)) (b : FirstBad text (passed p)) where
  -- what opens no nest is not too deep
  pub not_too_deep : is_first opens_nest (tokens_left p) ≡ false → IsTooDeep text p.taken → ⊥
  not_too_deep shut = not_over_in deeper deeper_items p text same lt b shut

  -- what the wider language has in no further place is left out only by itself
  pub left_out_by_itself : is_first is_of_wider (tokens_left p) ≡ false → (out : Bool) → out ≡ is_left_out p → (t : Located) → slice_get (text_tokens text) p.taken ≡ Some t → MatchBool out (IsLeftOut text p.taken t) (IsLeftOut text p.taken t → ⊥)
  left_out_by_itself narrow true e t at = inl (sym (left_out_told p text same t at) ∙ sym e)
  left_out_by_itself narrow false e t at = λ l. elim l [
    | inl a ↦ absurd (let k = e ∙ (left_out_told p text same t at ∙ a) in cc)
    | inr v ↦ not_over_in wider wider_items p text same lt b narrow v
  ]
