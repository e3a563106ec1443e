-- Lists of phrases print lists of values.
use Rattle.std.proofs.Common.{◌≡◌, List, [], ◌∷◌, ◌++◌, map, refl, ap, ◌∙◌, append_assoc, append-nil}
use Rattle.ir_lexer.specs.Ahead.{Located, tokens_in}
use Rattle.ir_lexer.specs.Class.{byte_class}
use Rattle.ir_lexer.specs.Pieces.{TextPiece, Separator, Nothing, Space, Line, Indented, tokens_of}
use Rattle.ir_terminals.specs.PhraseRows.Row.{Row, joined_values, keep_second, many, separated}
use Rattle.ir_terminals.specs.Role.{class}
use Rattle.ir_terminals.specs.Tokens.{word}
use Rattle.ir_terminals.specs.declared.terminal.Terminal.TheVariants as terminal
use Rattle.canonical.specs.Phrase.{Phrase, none, ended, ◌⨾◌, each, more, with_more, listed, comma, ◌␣◌}
use Rattle.canonical.proofs.OnLaw.Printed.{Fits, IsPrinted, Joins}
use Rattle.canonical.proofs.OnLaw.Joined.{spaced_none, spaced, parted}
use Rattle.canonical.proofs.OnLaw.Rows.{printed_nothing, printed_left, printed_right, printed_both, printed_second}
use Rattle.canonical.proofs.OnLaw.Words.{printed_comma}

-- each phrase prints its value
abbrev pub EachPrinted : {A X : Type 0} → Row Located A → (A → X) → List X → List Phrase → Type 0
EachPrinted r e [] [] = Unit {0}
EachPrinted r e (x ∷ xs) (p ∷ ps) = IsPrinted r e x p × EachPrinted r e xs ps
EachPrinted r e [] (p ∷ ps) = ⊥
EachPrinted r e (x ∷ xs) [] = ⊥

pub each_printed_append : {A X : Type 0} (r : Row Located A) (e : A → X) (xs ys : List X) (ps qs : List Phrase) → EachPrinted r e xs ps → EachPrinted r e ys qs → EachPrinted r e (xs ++ ys) (ps ++ qs)
each_printed_append r e [] ys [] qs h k = k
each_printed_append r e (x ∷ xs) ys (p ∷ ps) qs h k = (h.0, each_printed_append r e xs ys ps qs h.1 k)
each_printed_append r e [] ys (p ∷ ps) qs h k = absurd h
each_printed_append r e (x ∷ xs) ys [] qs h k = absurd h

pub each_printed_map : {A X Y : Type 0} (r : Row Located A) (e : A → X) (value : Y → X) (phrase : Y → Phrase) → ((y : Y) → IsPrinted r e (value y) (phrase y)) → (ys : List Y) → EachPrinted r e (map value ys) (map phrase ys)
each_printed_map r e value phrase h [] = tt
each_printed_map r e value phrase h (y ∷ ys) = (h y, each_printed_map r e value phrase h ys)

-- a separator that is there
abbrev pub IsThere : Separator → Type 0
IsThere Nothing = ⊥
IsThere Space = Unit {0}
IsThere Line = Unit {0}
IsThere Indented = Unit {0}

there_fits : (s : Separator) (rest : List TextPiece) → IsThere s → Fits s rest
there_fits Nothing rest h = absurd h
there_fits Space rest h = tt
there_fits Line rest h = tt
there_fits Indented rest h = tt

-- what has its separator, and what follows
pub after : {p q : Phrase} (s : Separator) → IsThere s → Joins p q (ended s p ⨾ q)
after {p} {q} s t = record {
  between = λ b. s;
  parts = λ b. refl;
  spaced = λ h k. record { sound = λ b rest f a. rw (append_assoc (p s) (q b) rest) (h.sound s (q b ++ rest) (there_fits s (q b ++ rest) t) (k.sound b rest f a)) };
}

many_none : {A X : Type 0} (r : Row Located A) (e : A → X) → IsPrinted (many class r) (map e) [] none
many_none r e = record { spaced = spaced_none; whole = λ b ts h. ([], no_tokens ts h, refl) }
  where
    no_tokens : (ts : List Located) → tokens_in ts ≡ [] → ts ≡ []
    no_tokens [] h = refl
    no_tokens (t ∷ ts) h = absurd cc

many_more : {A X : Type 0} {r : Row Located A} {e : A → X} {x : X} {xs : List X} {p q both : Phrase} → Joins p q both → IsPrinted r e x p → IsPrinted (many class r) (map e) xs q → IsPrinted (many class r) (map e) (x ∷ xs) both
many_more {A} {X} {r} {e} {x} {xs} {p} {q} {both} j h k = record {
  spaced = j.spaced h.spaced k.spaced;
  whole = λ b ts t. (
      let w = parted (p (j.between b)) (q b) ts (t ∙ ap tokens_of (j.parts b)) in
      let v = h.whole (j.between b) w.0 w.3 in
      let u = k.whole b w.1 w.4 in
      (v.0 ∷ u.0, (w.0, w.1, w.2, v.1, u.1), (λ i. v.2 i ∷ u.2 i)));
}

-- phrases one after the other, each with its separator
pub printed_each : {A X : Type 0} (r : Row Located A) (e : A → X) (s : Separator) (xs : List X) (ps : List Phrase) → IsThere s → EachPrinted r e xs ps → IsPrinted (many class r) (map e) xs (each s ps)
printed_each r e s [] [] t h = many_none r e
printed_each r e s (x ∷ xs) (p ∷ ps) t h = many_more (after s t) h.0 (printed_each r e s xs ps t h.1)
printed_each r e s [] (p ∷ ps) t h = absurd h
printed_each r e s (x ∷ xs) [] t h = absurd h

begins : (q : Phrase) (ps : List Phrase) (b : Separator) (rest : List TextPiece) → Fits Nothing (more (q ∷ ps) b ++ rest)
unfolding byte_class
begins q ps b rest = refl

-- a phrase, and what goes on with commas
pub joins_more : (p : Phrase) (ps : List Phrase) → Joins p (more ps) (with_more p ps)
joins_more p [] = record { between = λ b. b; parts = λ b. refl; spaced = λ h k. record { sound = λ b rest f a. rw (append-nil (p b)) (h.sound b rest f a) } }
joins_more p (q ∷ ps) = record {
  between = λ b. Nothing;
  parts = λ b. refl;
  spaced = λ h k. record { sound = λ b rest f a. rw (append_assoc (p Nothing) (more (q ∷ ps) b) rest) (h.sound Nothing (more (q ∷ ps) b ++ rest) (begins q ps b rest) (k.sound b rest f a)) };
}

-- further phrases, each behind a comma
pub printed_more : {A X : Type 0} (r : Row Located A) (e : A → X) (xs : List X) (ps : List Phrase) → EachPrinted r e xs ps → IsPrinted (many class (keep_second (word terminal.Comma) r)) (map e) xs (more ps)
printed_more r e [] [] h = many_none (keep_second (word terminal.Comma) r) e
printed_more r e (x ∷ xs) (p ∷ ps) h = many_more (joins_comma p ps) (printed_second spaced printed_comma h.0) (printed_more r e xs ps h.1)
  where
    joins_comma : (p : Phrase) (ps : List Phrase) → Joins (comma ␣ p) (more ps) (more (p ∷ ps))
    joins_comma p ps = joins_more (comma ␣ p) ps
printed_more r e [] (p ∷ ps) h = absurd h
printed_more r e (x ∷ xs) [] h = absurd h

-- phrases with commas between them
pub printed_separated : {A X : Type 0} (r : Row Located A) (e : A → X) (xs : List X) (ps : List Phrase) → EachPrinted r e xs ps → IsPrinted (separated class (word terminal.Comma) r) (map e) xs (listed ps)
printed_separated r e [] [] h = printed_right (joined_values (λ a more. a ∷ more) r (many class (keep_second (word terminal.Comma) r))) (printed_nothing (map e) [])
printed_separated r e (x ∷ xs) (p ∷ ps) h = printed_left _ (printed_both (λ a more. a ∷ more) (map e) (λ x xs. x ∷ xs) (λ a more. refl) (joins_more p ps) h.0 (printed_more r e xs ps h.1))
printed_separated r e [] (p ∷ ps) h = absurd h
printed_separated r e (x ∷ xs) [] h = absurd h

each_same : (s : Separator) (ps : List Phrase) (b c : Separator) → each s ps b ≡ each s ps c
each_same s [] b c = refl
each_same s (p ∷ ps) b c = ap (λ qs. p s ++ qs) (each_same s ps b c)

-- phrases that have their separators, and what follows
pub after_each : {q : Phrase} (s : Separator) (ps : List Phrase) → Joins (each s ps) q (each s ps ⨾ q)
after_each {q} s ps = record {
  between = λ b. b;
  parts = λ b. refl;
  spaced = λ h k. record { sound = λ b rest f a. rw (append_assoc (each s ps b) (q b) rest) (rw (each_same s ps b Space) (h.sound Space (q b ++ rest) tt (k.sound b rest f a))) };
}
