-- The places of a lexer are those of the bytes of its text.
use Rattle.std.proofs.Common.{◌≡◌, ℕ, ◌+◌, ◌<◌, ◌≤◌, ◌^◌, get_or, drop-cons, List, [], ◌∷◌, ◌++◌, length, take, drop, Bool, true, false, refl, sym, ap, ◌∙◌, arith, Option, Some, None, length-drop, length-append, ◌==◌, if◌then◌else◌}
use Rattle.std.proofs.Math.Seq.{take-add}
use Rattle.std.proofs.lemmas.List.{length-take-le}
use Rattle.ir_base.specs.declared.place.Place.{Place}
use Rattle.ir_lexer.specs.declared.token.TokenKind.{TokenKind}
use Rattle.ir_lexer.specs.Front.{next_token}
use Rattle.ir_lexer.specs.Gap.{gap_length}
use Rattle.ir_lexer.specs.Place.{next_place, place_after, first_place, place_of}
use Rattle.ir_lexer.specs.Lexer.{Lexing, rest, IsPlaced, skipped, answer_at, gone, answer, after}
use Rattle.ir_lexer.proofs.First.{next_is}
use Rattle.ir_lexer.proofs.Gaps.{Ends, at_end, at_byte, ends}

place_append : (p : Place) (a b : List ℕ) → place_after p (a ++ b) ≡ place_after (place_after p a) b
unfolding place_after
place_append p [] b = refl
place_append p (x ∷ a) b = place_append (next_place p x) a b

pub one_on : (p : Place) (text : List ℕ) (at : ℕ) → at < length text → place_after p (take 1 (drop at text)) ≡ next_place p (get_or text at 0)
unfolding place_after
one_on p text at h = rw (drop-cons text at 0) refl

-- further on from a place
pub place_further : (p : Place) (at n : ℕ) (text : List ℕ) → place_after p (take (at + n) text) ≡ place_after (place_after p (take at text)) (take n (drop at text))
place_further p at n text = ap (place_after p) (take-add at n text) ∙ place_append p (take at text) (take n (drop at text))

-- further on
pub place_on : (at n : ℕ) (text : List ℕ) → place_of text (at + n) ≡ place_after (place_of text at) (take n (drop at text))
place_on at n text = place_further first_place at n text

pub place_at_start : (text : List ℕ) → first_place ≡ place_of text 0
unfolding place_after
place_at_start text = refl

pub record IsNear (p q : Place) (n : ℕ) : Type 0 where
  pub line : q.line ≤ p.line + n
  pub column : q.column ≤ p.column + n
  pub first : 1 ≤ q.column

-- behind one byte
pub next_near : (p : Place) (b : ℕ) → 1 ≤ p.column → IsNear p (next_place p b) 1
next_near p b h = go (b == 10)
  where
    go : (line : Bool) → IsNear p (if line then record { line = p.line + 1; column = 1 } else record { line = p.line; column = p.column + 1 }) 1
    go true = record { line = omega arith; column = omega arith; first = omega arith }
    go false = record { line = omega arith; column = omega arith; first = omega arith }

pub near : (p : Place) (s : List ℕ) → 1 ≤ p.column → IsNear p (place_after p s) (length s)
unfolding place_after
near p [] h = record { line = omega arith; column = omega arith; first = h }
near p (b ∷ s) h = go (b == 10) (near (record { line = p.line + 1; column = 1 }) s (omega arith)) (near (record { line = p.line; column = p.column + 1 }) s (omega arith))
  where
    go : (line : Bool) → IsNear (record { line = p.line + 1; column = 1 }) (place_after (record { line = p.line + 1; column = 1 }) s) (length s) → IsNear (record { line = p.line; column = p.column + 1 }) (place_after (record { line = p.line; column = p.column + 1 }) s) (length s) → IsNear p (place_after (if line then record { line = p.line + 1; column = 1 } else record { line = p.line; column = p.column + 1 }) s) (length (b ∷ s))
    go true i j = record { line = omega (arith, i.line); column = omega (arith, i.column); first = i.first }
    go false i j = record { line = omega (arith, j.line); column = omega (arith, j.column); first = j.first }

-- a place is no further than its byte
pub place_near : (text : List ℕ) (at : ℕ) → at ≤ length text → IsNear first_place (place_of text at) at
place_near text at h = let n : length (take at text) ≡ at = length-take-le at text h in rw n at (near first_place (take at text) (omega arith))

-- the place behind the first bytes
pub record IsBehind (p here : Place) (s : List ℕ) (n : ℕ) : Type 0 where
  pub line_in : here.line ≤ p.line + n
  pub column_in : here.column ≤ p.column + n
  pub first : 1 ≤ here.column
  pub place : here ≡ place_after p (take n s)

pub behind_more : (p here next : Place) (s : List ℕ) (n m : ℕ) → 1 ≤ p.column → n + m ≤ length s → here ≡ place_after p (take n s) → next ≡ place_after here (take m (drop n s)) → IsBehind p next s (n + m)
behind_more p here next s n m first fits h e =
    let on : next ≡ place_after p (take (n + m) s) = e ∙ ap (λ (q : Place). place_after q (take m (drop n s))) h ∙ sym (place_further p n m s) in
    let size : length (take (n + m) s) ≡ n + m = length-take-le (n + m) s fits in
    let k = near p (take (n + m) s) first in
    rw on (record { line_in = omega (arith, k.line, size); column_in = omega (arith, k.column, size); first = k.first; place = refl })

-- there is room for the places of the bytes that follow one in a text of at most 16 MiB
pub record HasRoom (p : Place) (n : ℕ) : Type 0 where
  pub line : p.line + n < 2 ^ 32
  pub column : p.column + n < 2 ^ 32
  pub first : 1 ≤ p.column

pub room : (text : List ℕ) (at n : ℕ) (p : Place) → p ≡ place_of text at → at + n ≤ length text → length text ≤ 16777216 → HasRoom p n
room text at n p e h l = let near = place_near text at (omega arith) in rw e (record { line = omega (arith, near.line); column = omega (arith, near.column); first = near.first })

gap_fits : (t : List ℕ) → gap_length false t ≤ length t
gap_fits t = go (ends t false)
  where
    go : Ends t false → gap_length false t ≤ length t
    go (at_end v g l) = omega arith
    go (at_byte gap b r parts l g out) = omega (arith, ap length parts, length-append gap (b ∷ r))

skipped_in : (l : Lexing) → l.at ≤ length l.text → (skipped l).at ≤ length l.text
unfolding skipped
skipped_in l h = omega (arith, gap_fits (rest l), length-drop l.at l.text)

text_same : (l : Lexing) → (skipped l).text ≡ l.text
unfolding skipped
text_same l = refl

placed_at : (l : Lexing) (r : List ℕ) (o : Option (TokenKind × ℕ)) → (skipped l).at ≤ length l.text → rest (skipped l) ≡ r → next_token r ≡ o → IsPlaced l (answer_at (skipped l) r) (gone (skipped l) (next_token r))
unfolding next_token
placed_at l [] o h e n = e
placed_at l (b ∷ bs) None h e n =
    let s = skipped l in
    let size = length-drop s.at s.text in
    rw (n, text_same l) (omega (arith, ap length e, size, ap length (text_same l)), refl)
placed_at l (b ∷ bs) (Some (kind, m)) h e n =
    let s = skipped l in
    let i = next_is (b ∷ bs) kind m n in
    let size = length-drop s.at s.text in
    rw (n, text_same l) (record { order = omega (arith, i.some); within = omega (arith, i.in_text, ap length e, size, ap length (text_same l)) }, refl, refl)

pub placed : (l : Lexing) → l.at ≤ length l.text → IsPlaced l (answer l) (after l)
unfolding answer after
placed l h = placed_at l (rest (skipped l)) (next_token (rest (skipped l))) (skipped_in l h) refl refl

gone_text : (l s : Lexing) (o : Option (TokenKind × ℕ)) → s.text ≡ l.text → (gone s o).text ≡ l.text
gone_text l s None h = h
gone_text l s (Some (kind, n)) h = h

pub text_after : (l : Lexing) → (after l).text ≡ l.text
unfolding after
text_after l = gone_text l (skipped l) (next_token (rest (skipped l))) (text_same l)
