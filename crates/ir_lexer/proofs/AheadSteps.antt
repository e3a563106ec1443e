-- What is ahead of a lexer, one answer after another.
use Rattle.std.proofs.Common.{◌≡◌, ℕ, zero, suc, ◌<◌, length, refl, ap, arith, Option, Some, None, Result, Ok, Err}
use Rattle.ir_lexer.specs.Ahead.{AheadIs, before_all, answered, ahead_within, ahead}
use Rattle.ir_lexer.specs.Laws.{WhatIsAhead}
use Rattle.ir_lexer.specs.Lexer.{Lexing, rest, token_spelling, Says, answer, after, skipped}
use Rattle.ir_lexer.specs.declared.token.Token.{Token}
use Rattle.ir_lexer.specs.declared.token.BadByte.{BadByte}
use Rattle.ir_lexer.proofs.Answering.{answers_are_right, skipped_again}
use Rattle.ir_lexer.proofs.TokenLists.{begins_less}

-- a token leaves less
less : (l : Lexing) (t : Token) → answer l ≡ Ok (Some t) → length (rest (after l)) < length (rest l)
less l t e =
    let h : Says l (answer l) (after l) = answers_are_right l in
    let s : Says l (Ok (Some t)) (after l) = rw e at h in
    begins_less (rest l) (token_spelling l.text t) (rest (after l)) s

enough : (n m : ℕ) (l : Lexing) → length (rest l) < n → length (rest l) < m → ahead_within n l ≡ ahead_within m l
unfolding ahead_within
enough zero m l p q = absurd (omega arith)
enough (suc n) zero l p q = absurd (omega arith)
enough (suc n) (suc m) l p q = go (answer l) refl (λ a b. enough n m (after l) a b)
  where
    go : (r : Result (Option Token) BadByte) → answer l ≡ r → (length (rest (after l)) < n → length (rest (after l)) < m → ahead_within n (after l) ≡ ahead_within m (after l)) → answered l r (ahead_within n (after l)) ≡ answered l r (ahead_within m (after l))
    go (Ok None) e again = refl
    go (Err b) e again = refl
    go (Ok (Some t)) e again =
        let d = less l t e in
        ap (before_all (record { token = token_spelling l.text t; place = t.place })) (again (omega arith) (omega arith))

-- One answer, and what is ahead behind it.
pub ahead_step : (l : Lexing) → ahead l ≡ answered l (answer l) (ahead (after l))
unfolding ahead ahead_within
ahead_step l = go (answer l) refl
  where
    go : (r : Result (Option Token) BadByte) → answer l ≡ r → answered l r (ahead_within (length (rest l)) (after l)) ≡ answered l r (ahead_within (suc (length (rest (after l)))) (after l))
    go (Ok None) e = refl
    go (Err b) e = refl
    go (Ok (Some t)) e =
        let d = less l t e in
        ap (before_all (record { token = token_spelling l.text t; place = t.place })) (enough (length (rest l)) (suc (length (rest (after l)))) (after l) d (omega arith))

-- What is ahead of a gap is ahead behind it.
answer_behind : (l : Lexing) → answer (skipped l) ≡ answer l
unfolding answer
answer_behind l = rw (skipped_again l) refl

after_behind : (l : Lexing) → after (skipped l) ≡ after l
unfolding after
after_behind l = rw (skipped_again l) refl

pub text_behind : (l : Lexing) → (skipped l).text ≡ l.text
unfolding skipped
text_behind l = refl

pub ahead_skipped : (l : Lexing) → ahead (skipped l) ≡ ahead l
ahead_skipped l = rw (ahead_step (skipped l), ahead_step l, answer_behind l, after_behind l) (go (answer l))
  where
    go : (r : Result (Option Token) BadByte) → answered (skipped l) r (ahead (after l)) ≡ answered l r (ahead (after l))
    go (Ok None) = rw (after_behind l, text_behind l) refl
    go (Err b) = refl
    go (Ok (Some t)) = rw (text_behind l) refl

-- What is ahead are the tokens of the rest, or those before its first bad byte.
within_is : (n : ℕ) (l : Lexing) → length (rest l) < n → AheadIs (rest l) (ahead_within n l)
unfolding ahead_within
within_is zero l p = absurd (omega arith)
within_is (suc n) l p = go (answer l) refl (answers_are_right l) (λ q. within_is n (after l) q)
  where
    go : (r : Result (Option Token) BadByte) → answer l ≡ r → Says l r (after l) → (length (rest (after l)) < n → AheadIs (rest (after l)) (ahead_within n (after l))) → AheadIs (rest l) (answered l r (ahead_within n (after l)))
    go (Ok None) e s again = (λ h. s, λ h. absurd cc)
    go (Err b) e s again = (λ h. absurd cc, λ h. (rest l, refl, s.0))
    go (Ok (Some t)) e s again =
        let i = again (let d = less l t e in omega arith) in
        (λ h. (rest (after l), s, i.0 h), λ h. let b = i.1 h in (b.0, (rest (after l), s, b.1), b.2))

pub ahead_is : WhatIsAhead
unfolding ahead
ahead_is l = within_is (suc (length (rest l))) l (omega arith)
