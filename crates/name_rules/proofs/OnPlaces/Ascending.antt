-- Of the tokens of a text, none stands before an earlier one.
use Rattle.std.proofs.Common.{◌≡◌, ℕ, zero, suc, ◌+◌, ◌<◌, ◌≤◌, ◌==◌, if◌then◌else◌, List, [], ◌∷◌, drop, length, take, Bool, true, false, Option, Some, None, ◌⊎◌, inl, inr, refl, sym, ◌∙◌, subst, arith}
use Rattle.ir_base.specs.declared.place.Place.{Place}
use Rattle.ir_lexer.specs.Ahead.{Located, answered, ahead, ahead_within}
use Rattle.ir_lexer.specs.Front.{next_token}
use Rattle.ir_lexer.specs.Gap.{gap_length}
use Rattle.ir_lexer.specs.Lexer.{Lexing, rest, at_start, advanced, skipped, token_found, answer_at, gone, answer, after}
use Rattle.ir_lexer.specs.Place.{next_place, place_after, place_of}
use Rattle.ir_lexer.specs.declared.token.TokenKind.{TokenKind}
use Rattle.ir_lexer.proofs.Placing.{place_on}
use Rattle.ir_terminals.specs.Position.{text_tokens}
use Rattle.ir_phrases.specs.Constants.Forms.{AllAre}

-- the second place is the first, or further on
abbrev pub UpTo : Place → Place → Type 0
UpTo a b = (a.line < b.line) ⊎ ((a.line ≡ b.line) × (a.column ≤ b.column))

pub same : (a : Place) → UpTo a a
same a = inr (refl, omega arith)

further : (a b c : Place) → UpTo a b → UpTo b c → UpTo a c
further a b c (inl h) (inl g) = inl (omega (arith, h, g))
further a b c (inl h) (inr g) = let e = g.0 in inl (omega (arith, h, e))
further a b c (inr h) (inl g) = let e = h.0 in inl (omega (arith, e, g))
further a b c (inr h) (inr g) = let e = h.1 in let f = g.1 in inr (h.0 ∙ g.0, omega (arith, e, f))

one_byte : (p : Place) (b : ℕ) → UpTo p (next_place p b)
one_byte p b = by (b == 10)
  where
    by : (line : Bool) → UpTo p (if line then record { line = p.line + 1; column = 1 } else record { line = p.line; column = p.column + 1 })
    by true = inl (omega arith)
    by false = inr (refl, omega arith)

bytes_on : (p : Place) (s : List ℕ) → UpTo p (place_after p s)
unfolding place_after
bytes_on p [] = same p
bytes_on p (b ∷ s) = further p (next_place p b) (place_after (next_place p b) s) (one_byte p b) (bytes_on (next_place p b) s)

-- a place further on in a text
place_further : (text : List ℕ) (at n : ℕ) → UpTo (place_of text at) (place_of text (at + n))
place_further text at n = subst (UpTo (place_of text at)) (sym (place_on at n text)) (bytes_on (place_of text at) (take n (drop at text)))

-- all of these stand there or further on
abbrev pub AllFrom : Place → List Located → Type 0
AllFrom p ts = AllAre (λ (t : Located). UpTo p t.place) ts

-- each of these stands no further than those behind it
abbrev pub Ascending : List Located → Type 0
Ascending [] = Unit {0}
Ascending (t ∷ ts) = AllFrom t.place ts × Ascending ts

from_further : (a b : Place) (ts : List Located) → UpTo a b → AllFrom b ts → AllFrom a ts
from_further a b [] h all = tt
from_further a b (t ∷ ts) h all = (further a b t.place h all.0, from_further a b ts h all.1)

-- what is ahead of a lexer stands there or further on, and in order
abbrev Ordered : Lexing → List Located → Type 0
Ordered l ts = AllFrom (place_of l.text l.at) ts × Ascending ts

ordered_at : (l : Lexing) (n : ℕ) (r : List ℕ) → ((m : Lexing) → Ordered m (ahead_within n m).tokens) → Ordered l (answered l (answer_at (skipped l) r) (ahead_within n (gone (skipped l) (next_token r)))).tokens
unfolding skipped
ordered_at l n [] again = (tt, tt)
ordered_at l n (b ∷ bs) again = by (next_token (b ∷ bs))
  where
    by : (o : Option (TokenKind × ℕ)) → Ordered l (answered l (token_found (skipped l) o) (ahead_within n (gone (skipped l) o))).tokens
    by None = (tt, tt)
    by (Some (kind, m)) =
        let gap = gap_length false (rest l) in
        let rest_of = again (advanced (skipped l) m) in
        let ts = (ahead_within n (advanced (skipped l) m)).tokens in
        let here = place_further l.text l.at gap in
        let behind = from_further (place_of l.text (l.at + gap)) (place_of l.text (l.at + gap + m)) ts (place_further l.text (l.at + gap) m) rest_of.0 in
        ((here, from_further (place_of l.text l.at) (place_of l.text (l.at + gap)) ts here behind), (behind, rest_of.1))

ordered_within : (n : ℕ) (l : Lexing) → Ordered l (ahead_within n l).tokens
unfolding ahead_within answer after
ordered_within zero l = (tt, tt)
ordered_within (suc n) l = ordered_at l n (rest (skipped l)) (λ m. ordered_within n m)

-- the tokens of a text
pub ascending : (text : List ℕ) → Ascending (text_tokens text)
unfolding ahead
ascending text = (ordered_within (suc (length (rest (at_start text)))) (at_start text)).1
