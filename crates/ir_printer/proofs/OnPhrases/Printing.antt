-- What was put one behind the other.
use Rattle.std.proofs.Common.{◌≡◌, ◌⊎◌, inl, inr, ℕ, zero, suc, ◌<◌, ◌≤◌, Bool, true, false, length, List, [], ◌∷◌, ◌++◌, codes, refl, sym, ap, ◌∙◌, append-nil, append_assoc, arith}
use Rattle.ir_base.specs.Outside.{Rose}
use Rattle.ir_printer.specs.Gathered.Told.{GatherState, Tells}
use Rattle.ir_lexer.specs.Pieces.{TextPiece, Separator, Nothing, Space, separator_bytes, pieces_text}
use Rattle.ir_lexer.specs.declared.token.TokenKind.{TokenKind}
use Rattle.canonical.specs.Phrase.{Phrase, token, mark, comma, listed}
use Rattle.canonical.specs.Types.{in_braces}
use Rattle.ir_printer.specs.Phrases.Printing.{Prints, separator_before, comma_before, brace, opening, closing}

pub rose_further : (a b c : ℕ) → b ≤ c → Rose a b → Rose a c
rose_further a b c le (inl less) = inl (omega (arith, le, less))
rose_further a b c le (inr most) = inr (omega (arith, le, most))

pub rose_later : (a b c : ℕ) → a ≤ b → Rose b c → Rose a c
rose_later a b c le (inl less) = inl (omega (arith, le, less))
rose_later a b c le (inr most) = inr most

failed_then : (a b c : GatherState) (x y : List ℕ) → Tells a b x → Tells b c y → (b.pending.failed ≡ true) ⊎ Rose b.faults c.faults → (a.pending.failed ≡ true) ⊎ Rose a.faults c.faults
failed_then a b c x y h k (inr rose) = inr (rose_later a.faults b.faults c.faults h.later rose)
failed_then a b c x y h k (inl failed) = by_first (h.cause failed)
  where
    by_first : (a.pending.failed ≡ true) ⊎ Rose a.faults b.faults → (a.pending.failed ≡ true) ⊎ Rose a.faults c.faults
    by_first (inl failed) = inl failed
    by_first (inr rose) = inr (rose_further a.faults b.faults c.faults k.later rose)

-- these bytes, and those behind them
pub tells_then : {a b c : GatherState} {x y : List ℕ} → Tells a b x → Tells b c y → Tells a c (x ++ y)
tells_then {a} {b} {c} {x} {y} h k = record {
  says = λ start text said. rw (sym (append_assoc text x y)) (k.says start (text ++ x) (h.says start text said));
  cause = λ failed. failed_then a b c x y h k (k.cause failed);
  fine = λ fine. let further = k.fine fine in let before = h.fine further.0 in (before.0, further.1 ∙ before.1);
  later = omega (arith, h.later, k.later);
}

-- nothing
pub tells_none : (a : GatherState) → Tells a a []
tells_none a = record {
  says = λ start text said. rw (append-nil text) said;
  cause = λ failed. inl failed;
  fine = λ fine. (fine, refl);
  later = omega arith;
}

-- the same bytes, written otherwise
pub tells_same : {a b : GatherState} {x y : List ℕ} → x ≡ y → Tells a b x → Tells a b y
tells_same e h = rw (sym e) h

text_then : (xs ys : List TextPiece) → pieces_text (xs ++ ys) ≡ pieces_text xs ++ pieces_text ys
text_then [] ys = refl
text_then (p ∷ xs) ys =
    ap (λ (t : List ℕ). p.token.spelling ++ (separator_bytes p.separator ++ t)) (text_then xs ys)
    ∙ ap (λ (t : List ℕ). p.token.spelling ++ t) (sym (append_assoc (separator_bytes p.separator) (pieces_text xs) (pieces_text ys)))
    ∙ sym (append_assoc p.token.spelling (separator_bytes p.separator ++ pieces_text xs) (pieces_text ys))

-- these pieces, and those behind them
pub prints_then : (xs ys : List TextPiece) {a b c : GatherState} → Prints a b xs → Prints b c ys → Prints a c (xs ++ ys)
prints_then xs ys h k = tells_same (sym (text_then xs ys)) (tells_then h k)

-- the same pieces, written otherwise
pub prints_same : {a b : GatherState} {xs ys : List TextPiece} → xs ≡ ys → Prints a b xs → Prints a b ys
prints_same e h = tells_same (ap pieces_text e) h

-- no piece
pub prints_none : (a : GatherState) → Prints a a []
prints_none a = tells_none a

-- a token by its spelling and what stands behind it
pub prints_token : (kind : TokenKind) {a b c : GatherState} {spelling : List ℕ} (behind : Separator) → Tells a b spelling → Tells b c (separator_bytes behind) → Prints a c (token kind spelling behind)
prints_token kind {a} {b} {c} {spelling} behind h k = tells_same (ap (λ (t : List ℕ). spelling ++ t) (sym (append-nil (separator_bytes behind)))) (tells_then h k)

-- a part of a list and what stands before the others, and the others
pub prints_part : (p : Phrase) (ps : List Phrase) (behind : Separator) {a b c d : GatherState} → Prints a b (p (separator_before (length ps) behind)) → Prints b c (comma_before (length ps)) → Prints c d (listed ps behind) → Prints a d (listed (p ∷ ps) behind)
prints_part p [] behind h j k = prints_then (p behind) [] h (prints_then [] [] j k)
prints_part p (q ∷ qs) behind h j k = prints_then (p Nothing) (comma Space ++ listed (q ∷ qs) behind) h (prints_then (comma Space) (listed (q ∷ qs) behind) j k)

-- the fields of a struct in its brackets
pub prints_braces : (packed : Bool) (ps : List Phrase) (behind : Separator) {a b c d : GatherState} → Prints a b (opening packed (length ps)) → Prints b c (listed ps Space) → Prints c d (closing packed behind) → Prints a d (in_braces packed ps behind)
prints_braces false [] behind h j k = prints_then (opening false 0) (closing false behind) h (prints_then [] (closing false behind) j k)
prints_braces false (p ∷ ps) behind h j k = prints_then (opening false 1) (listed (p ∷ ps) Space ++ closing false behind) h (prints_then (listed (p ∷ ps) Space) (closing false behind) j k)
prints_braces true [] behind h j k = prints_then (opening true 0) (closing true behind) h (prints_then [] (closing true behind) j k)
prints_braces true (p ∷ ps) behind h j k = prints_then (opening true 1) (listed (p ∷ ps) Space ++ closing true behind) h (prints_then (listed (p ∷ ps) Space) (closing true behind) j k)

-- the comma before at least one other
pub comma_some : (others : ℕ) → 0 < others → comma_before others ≡ comma Space
comma_some zero h = absurd (omega (arith, h))
comma_some (suc others) h = refl

-- the brace before no field, and before at least one
pub brace_none : (count : ℕ) → count ≡ 0 → brace count ≡ mark (codes "{") Nothing
brace_none zero h = refl
brace_none (suc count) h = absurd (omega (arith, h))

pub brace_some : (count : ℕ) → 0 < count → brace count ≡ mark (codes "{") Space
brace_some zero h = absurd (omega (arith, h))
brace_some (suc count) h = refl
