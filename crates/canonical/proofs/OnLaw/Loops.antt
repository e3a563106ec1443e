-- Rows that are read step by step are printed.
use Rattle.std.proofs.Common.{◌≡◌, List, [], ◌∷◌, ◌++◌, map, Bool, true, false, cond, refl, sym, ap, subst, ◌∙◌, append_assoc, append-nil}
use Rattle.std.proofs.lemmas.List.{map-append}
use Rattle.ir_lexer.specs.Ahead.{Located, tokens_in}
use Rattle.ir_lexer.specs.Pieces.{tokens_of}
use Rattle.ir_terminals.specs.PhraseRows.Row.{Row, PhraseShape, loop, keep_second, mapped}
use Rattle.ir_terminals.specs.Role.{class}
use Rattle.ir_terminals.specs.Tokens.{word}
use Rattle.ir_terminals.specs.declared.terminal.Terminal.TheVariants as terminals
use Rattle.ir_phrases.specs.Instructions.Dropped.{parameter_attribute_shape, parameter_attribute_row, function_attribute_shape, function_attribute_row, comma_shape, attachment_row, attachments_core, attachments_row, commas_shape, parameter_attributes_core, parameter_attributes_row, parameter_attributes_shape, function_attributes_core, function_attributes_row, function_attributes_shape, convention_row}
use Rattle.ir_phrases.specs.Instructions.Tails.{listed_step, listed_core, listed_row}
use Rattle.canonical.specs.Phrase.{Phrase, none, comma, ◌␣◌, more}
use Rattle.canonical.proofs.OnLaw.Printed.{IsPrinted, Joins}
use Rattle.canonical.proofs.OnLaw.Joined.{spaced, spaced_none, parted}
use Rattle.canonical.proofs.OnLaw.Rows.{some, printed_as, printed_mapped, printed_labelled, printed_right, printed_second, printed_none}
use Rattle.canonical.proofs.OnLaw.Lists.{EachPrinted, joins_more}
use Rattle.canonical.proofs.OnLaw.Words.{printed_comma}

pub loop_none : {S X : Type 0} (shape : PhraseShape) (q : S → Row Located S) (s : S) (e : S → X) → IsPrinted (loop class shape q s) e (e s) none
loop_none shape q s e = record { spaced = spaced_none; whole = λ b ts h. (s, ([], (no_tokens ts h, refl)), refl) }
  where
    no_tokens : (ts : List Located) → tokens_in ts ≡ [] → ts ≡ []
    no_tokens [] h = refl
    no_tokens (t ∷ ts) h = absurd cc

pub loop_more : {S X : Type 0} (shape : PhraseShape) (q : S → Row Located S) {s : S} {e : S → X} {y z : X} {p1 p2 p : Phrase} → Joins p1 p2 p → IsPrinted (q s) e y p1 → ((m : S) → e m ≡ y → IsPrinted (loop class shape q m) e z p2) → IsPrinted (loop class shape q s) e z p
loop_more {S} {X} shape q {s} {e} {y} {z} {p1} {p2} {p} j h k = record {
  spaced = let m = some h in j.spaced h.spaced (k m.0 m.1).spaced;
  whole = λ b ts t. (
      let w = parted (p1 (j.between b)) (p2 b) ts (t ∙ ap tokens_of (j.parts b)) in
      let v = h.whole (j.between b) w.0 w.3 in
      let u = (k v.0 v.2).whole b w.1 w.4 in
      (u.0, (v.0 ∷ u.1.0, (w.0, w.1, w.2, v.1, u.1.1)), u.2));
}

-- parts, and whether a mark has ended them
abbrev pub parts_by : {A X : Type 0} → (A → X) → List A × Bool → List X × Bool
parts_by e s = (map e s.0, s.1)

module _ {A X : Type 0} (shape : PhraseShape) (q : List A × Bool → Row Located (List A × Bool)) (r : Row Located A) (e : A → X) (grows : (s : List A × Bool) (x : X) (p : Phrase) → s.1 ≡ false → IsPrinted r e x p → IsPrinted {X = List X × Bool} (q s) (parts_by e) (map e s.0 ++ x ∷ [], false) (comma ␣ p)) where
  -- parts behind commas, and then what else goes on
  pub printed_growing : (xs : List X) (ps qs : List Phrase) (flag : Bool) → EachPrinted r e xs ps → ((m : List A × Bool) → m.1 ≡ false → IsPrinted {X = List X × Bool} (loop class shape q m) (parts_by e) (map e m.0, flag) (more qs)) → (s : List A × Bool) → s.1 ≡ false → IsPrinted {X = List X × Bool} (loop class shape q s) (parts_by e) (map e s.0 ++ xs, flag) (more (ps ++ qs))
  printed_growing [] [] qs flag h k s f = printed_as (ap (λ ys. (ys, flag)) (sym (append-nil (map e s.0)))) (k s f)
  printed_growing (x ∷ xs) (p ∷ ps) qs flag h k s f =
      loop_more shape q (joins_more (comma ␣ p) (ps ++ qs)) (grows s x p f h.0)
      (λ m is. printed_as (ap (λ ys. (ys, flag)) (ap (λ ys. ys ++ xs) (ap (λ (v : List X × Bool). v.0) is) ∙ append_assoc (map e s.0) (x ∷ []) xs)) (printed_growing xs ps qs flag h.1 k m (ap (λ (v : List X × Bool). v.1) is)))
  printed_growing [] (p ∷ ps) qs flag h k s f = absurd h
  printed_growing (x ∷ xs) [] qs flag h k s f = absurd h

  -- parts behind commas
  pub printed_grown : (xs : List X) (ps : List Phrase) → EachPrinted r e xs ps → (s : List A × Bool) → s.1 ≡ false → IsPrinted {X = List X × Bool} (loop class shape q s) (parts_by e) (map e s.0 ++ xs, false) (more ps)
  printed_grown xs ps h s f =
      subst (λ (ys : List Phrase). IsPrinted {X = List X × Bool} (loop class shape q s) (parts_by e) (map e s.0 ++ xs, false) (more ys)) (append-nil ps)
      (printed_growing xs ps [] false h (λ m g. printed_as (ap (λ b. (map e m.0, b)) g) (loop_none shape q m (parts_by e))) s f)

-- a row by a test that fails
pub printed_otherwise : {A X : Type 0} (b : Bool) (r : Row Located A) {q : Row Located A} {e : A → X} {x : X} {p : Phrase} → b ≡ false → IsPrinted q e x p → IsPrinted (cond b r q) e x p
printed_otherwise true r f h = absurd cc
printed_otherwise false r f h = h

-- a part more
pub printed_part : {A X : Type 0} (s : List A × Bool) {r : Row Located A} (e : A → X) (x : X) (p : Phrase) → IsPrinted r e x p → IsPrinted {X = List X × Bool} (mapped (λ a. (s.0 ++ a ∷ [], false)) r) (parts_by e) (map e s.0 ++ x ∷ [], false) p
printed_part s e x p h = printed_mapped (λ a. (s.0 ++ a ∷ [], false)) (parts_by e) (λ y. (map e s.0 ++ y ∷ [], false)) (λ a. ap (λ ys. (ys, false)) (map-append e s.0 (a ∷ []))) h

-- (, PART)* with no metadata
pub printed_listed : {A X : Type 0} (r : Row Located A) (e : A → X) (parts : List A) (xs : List X) (ps : List Phrase) → EachPrinted r e xs ps → IsPrinted (listed_row r parts) (map e) (map e parts ++ xs) (more ps)
unfolding listed_core
printed_listed r e parts xs ps h =
    printed_labelled commas_shape (printed_mapped (λ s. s.0) (map e) (λ v. v.0) (λ s. refl)
    (printed_grown comma_shape (listed_step r) r e
    (λ s x p f g. printed_second spaced printed_comma (printed_otherwise s.1 (mapped (λ u. s) attachment_row) f (printed_right (mapped (λ u. (s.0, true)) attachment_row) (printed_part s e x p g))))
    xs ps h (parts, false) refl))

abbrev pub nothing_of : Unit {0} → Unit {0}
nothing_of u = u

-- what is dropped is not printed
pub no_attachments : IsPrinted attachments_row nothing_of tt none
unfolding attachments_core
no_attachments = printed_labelled commas_shape (loop_none comma_shape (λ u. keep_second (word terminals.Comma) attachment_row) tt nothing_of)

pub no_parameter_attributes : IsPrinted parameter_attributes_row nothing_of tt none
unfolding parameter_attributes_core
no_parameter_attributes = printed_labelled parameter_attributes_shape (loop_none parameter_attribute_shape (λ u. parameter_attribute_row) tt nothing_of)

pub no_function_attributes : IsPrinted function_attributes_row nothing_of tt none
unfolding function_attributes_core
no_function_attributes = printed_labelled function_attributes_shape (loop_none function_attribute_shape (λ u. function_attribute_row) tt nothing_of)

pub no_convention : IsPrinted convention_row nothing_of tt none
no_convention = printed_mapped (λ a. tt) nothing_of (λ x. tt) (λ a. refl) (printed_none (word terminals.CallingConvention) (λ a. a))
