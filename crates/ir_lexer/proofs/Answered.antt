-- What a lexer answers where the token behind the gap is known.
use Rattle.std.proofs.Common.{◌≡◌, ℕ, ◌+◌, ◌≤◌, List, [], ◌∷◌, length, take, drop, true, false, refl, sym, subst, ap, ◌∙◌, arith, length-drop, Some, Ok}
use Rattle.ir_base.specs.declared.place.Place.{Place}
use Rattle.ir_lexer.specs.Class.{in_line}
use Rattle.ir_lexer.specs.Form.{each}
use Rattle.ir_lexer.specs.Front.{next_token}
use Rattle.ir_lexer.specs.Gap.{gap_length}
use Rattle.ir_lexer.specs.Lexer.{Lexing, rest, Says, IsPlaced, IsAnswered, token_at, advanced, skipped, answer_at, answer, after}
use Rattle.ir_lexer.specs.Lines.{further_in_line}
use Rattle.ir_lexer.specs.Place.{place_after, place_of}
use Rattle.ir_lexer.specs.declared.token.Token.{Token}
use Rattle.ir_lexer.specs.declared.token.TokenKind.{TokenKind}
use Rattle.ir_lexer.proofs.Answering.{answers_are_right, rest_skipped}
use Rattle.ir_lexer.proofs.Lines.{front_in_line}
use Rattle.ir_lexer.proofs.Placing.{place_further, place_on, placed}

answer_some : (l : Lexing) (r : List ℕ) (kind : TokenKind) (n : ℕ) → next_token r ≡ Some (kind, n) → answer_at l r ≡ Ok (Some (token_at l kind n))
unfolding next_token
answer_some l [] kind n h = absurd cc
answer_some l (b ∷ bs) kind n h = rw h refl

is_answered : (l next : Lexing) (t : Token) → l.at ≤ length l.text → answer l ≡ Ok (Some t) → next ≡ after l → IsAnswered l t next
is_answered l next t h a e = record {
  answer = a;
  after = e;
  says = subst (λ o. Says l o next) a (rw e (answers_are_right l));
  placed = subst (λ o. IsPlaced l o next) a (rw e (placed l h));
}

answer_is : (l : Lexing) (kind : TokenKind) (n : ℕ) → next_token (rest (skipped l)) ≡ Some (kind, n) → answer l ≡ Ok (Some (token_at (skipped l) kind n))
unfolding answer
answer_is l kind n h = answer_some (skipped l) (rest (skipped l)) kind n h

after_is : (l : Lexing) (kind : TokenKind) (n : ℕ) → next_token (rest (skipped l)) ≡ Some (kind, n) → advanced (skipped l) n ≡ after l
unfolding after
after_is l kind n h = rw h refl

-- behind the gap and the token
pub plain_answered : (l : Lexing) (gap n : ℕ) (kind : TokenKind) (place : Place) → l.at ≤ length l.text → gap ≡ gap_length false (rest l) → place ≡ place_after (place_of l.text l.at) (take gap (rest l)) → Some (kind, n) ≡ next_token (drop gap (rest l)) → IsAnswered l (record { kind = kind; place = place; start = l.at + gap; «end» = l.at + gap + n }) (advanced l (gap + n))
unfolding skipped
plain_answered l gap n kind place h e p found =
    let token : next_token (rest (skipped l)) ≡ Some (kind, n) = rw (rest_skipped l, ← e) (sym found) in
    let k = is_answered l (advanced (skipped l) n) (token_at (skipped l) kind n) h (answer_is l kind n token) (after_is l kind n token) in
    let there : place ≡ place_of l.text (l.at + gap) = p ∙ sym (place_on l.at gap l.text) in
    let sum : l.at + (gap + n) ≡ l.at + gap + n = omega arith in
    rw (there, sum, e) k

-- the place behind the gap and a token that stands in one line
pub plain_behind : (p place next : Place) (s : List ℕ) (gap n : ℕ) → gap + n ≤ length s → place ≡ place_after p (take gap s) → each in_line (take n (drop gap s)) ≡ true → next ≡ further_in_line place n → next ≡ place_after p (take (gap + n) s)
plain_behind p place next s gap n fits e line is =
    let there = front_in_line place next (drop gap s) n (omega (arith, length-drop gap s, fits)) line is in
    there ∙ ap (λ (q : Place). place_after q (take n (drop gap s))) e ∙ sym (place_further p gap n s)
