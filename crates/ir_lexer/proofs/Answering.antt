-- The answers of a lexer say what its text begins with.
use Rattle.std.proofs.Common.{◌≡◌, ℕ, ◌+◌, ◌-◌, List, [], ◌∷◌, drop, false, refl, sym, ap, ◌∙◌, arith, Option, Some, None, Ok, Err, add-zero}
use Rattle.std.proofs.lemmas.List.{drop-drop}
use Rattle.std.proofs.Math.Seq.{drop-length, drop-append_seam}
use Rattle.ir_lexer.specs.declared.token.TokenKind.{TokenKind}
use Rattle.ir_lexer.specs.Front.{next_token}
use Rattle.ir_lexer.specs.Gap.{gap_length}
use Rattle.ir_lexer.specs.Place.{place_of}
use Rattle.ir_lexer.specs.Lexer.{Lexing, rest, Says, Stays, advanced, skipped, answer_at, gone, answer, after}
use Rattle.ir_lexer.proofs.Gaps.{took, behind_gap, StepIs, step_is, Ends, at_end, at_byte, ends, gap_ends}

-- the rest behind the gap
pub rest_skipped : (l : Lexing) → rest (skipped l) ≡ drop (gap_length false (rest l)) (rest l)
unfolding skipped
rest_skipped l = sym (drop-drop (gap_length false (rest l)) l.at l.text)

rest_advanced : (l : Lexing) (n : ℕ) → rest (advanced l n) ≡ drop n (rest l)
rest_advanced l n = sym (drop-drop n l.at l.text)

text_skipped : (l : Lexing) → (skipped l).text ≡ l.text
unfolding skipped
text_skipped l = refl

no_bytes : gap_length false [] ≡ 0
unfolding gap_length
no_bytes = refl

-- there is no gap behind a gap
no_gap : (t : List ℕ) → gap_length false (drop (gap_length false t) t) ≡ 0
no_gap t = go (ends t false)
  where
    go : Ends t false → gap_length false (drop (gap_length false t) t) ≡ 0
    go (at_end v g l) = rw (l, drop-length t) no_bytes
    go (at_byte gap b r parts l g out) = rw (l, parts, drop-append_seam gap (b ∷ r)) (gap_ends b r out).0

pub skipped_again : (l : Lexing) → skipped (skipped l) ≡ skipped l
unfolding skipped
skipped_again l =
    let s = skipped l in
    let e : gap_length false (rest s) ≡ 0 = rw (rest_skipped l) (no_gap (rest l)) in
    rw (e, add-zero) refl

at_end_again : (l : Lexing) → rest (skipped l) ≡ [] → (answer (skipped l) ≡ Ok None) × (after (skipped l) ≡ skipped l)
unfolding answer after next_token
at_end_again l e = (rw (skipped_again l) (rw e refl), rw (skipped_again l) (rw e refl))

bad_again : (l : Lexing) (b : ℕ) (bs : List ℕ) → rest (skipped l) ≡ b ∷ bs → next_token (b ∷ bs) ≡ None → (answer (skipped l) ≡ Err (record { place = place_of (skipped l).text (skipped l).at })) × (after (skipped l) ≡ skipped l)
unfolding answer after
bad_again l b bs e n = (rw (skipped_again l) (rw (e, n) refl), rw (skipped_again l) (rw (e, n) refl))

says : (l : Lexing) (r : List ℕ) (o : Option (TokenKind × ℕ)) → rest (skipped l) ≡ r → next_token r ≡ o → StepIs (rest l) (behind_gap r) → Says l (answer_at (skipped l) r) (gone (skipped l) (next_token r))
unfolding skipped
says l [] o e n h = h
says l (b ∷ bs) None e n h =
    let g : StepIs (rest l) (took (b ∷ bs) None) = rw n at h in
    rw n (g.0, e ∙ g.1)
says l (b ∷ bs) (Some (kind, m)) e n h =
    let g : StepIs (rest l) (took (b ∷ bs) (Some (kind, m))) = rw n at h in
    let s = skipped l in
    let behind : rest (advanced s m) ≡ drop m (b ∷ bs) = rest_advanced s m ∙ ap (drop m) e in
    let size : s.at + m - s.at ≡ m = omega arith in
    let bytes : drop s.at l.text ≡ b ∷ bs = rw (← text_skipped l) e in
    rw n (rw (behind, size, bytes) g)

pub answers_are_right : (l : Lexing) → Says l (answer l) (after l)
unfolding answer after
answers_are_right l =
    let e = rest_skipped l in
    let h : StepIs (rest l) (behind_gap (rest (skipped l))) = rw e (step_is (rest l)) in
    says l (rest (skipped l)) (next_token (rest (skipped l))) refl refl h

stays : (l : Lexing) (r : List ℕ) (o : Option (TokenKind × ℕ)) → rest (skipped l) ≡ r → next_token r ≡ o → Stays (answer_at (skipped l) r) (gone (skipped l) (next_token r))
unfolding next_token
stays l [] o e n = at_end_again l e
stays l (b ∷ bs) None e n = rw n (bad_again l b bs e n)
stays l (b ∷ bs) (Some (kind, m)) e n = rw n tt

-- The end and a bad byte are answered again.
pub answers_stay : (l : Lexing) → Stays (answer l) (after l)
unfolding answer after
answers_stay l = stays l (rest (skipped l)) (next_token (rest (skipped l))) refl refl
