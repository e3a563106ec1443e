-- Rows that are printed, one lemma for each way to make a row.
use Rattle.std.proofs.Common.{◌≡◌, ℕ, List, [], ◌∷◌, ◌++◌, true, inl, inr, refl, sym, ap, subst, ◌∙◌, Option, Some, None, option_map}
use Rattle.ir_lexer.specs.Ahead.{Located, tokens_in}
use Rattle.ir_lexer.specs.Pieces.{TextPiece, Separator, Space, AreSound, tokens_of}
use Rattle.ir_lexer.specs.Table.{IsToken}
use Rattle.ir_lexer.specs.Tokens.{Spelled}
use Rattle.ir_lexer.specs.declared.token.TokenKind.{TokenKind}
use Rattle.ir_base.specs.declared.place.Place.{Place}
use Rattle.ir_terminals.specs.PhraseRows.Row.{Row, PhraseShape, among, nothing, one, chain, mapped, joined_values, keep_second, keep_first, pair, alt, optional, labelled}
use Rattle.ir_terminals.specs.Role.{class}
use Rattle.canonical.specs.Phrase.{Phrase, none, token}
use Rattle.canonical.proofs.OnLaw.Printed.{IsPrinted, Joins}
use Rattle.canonical.proofs.OnLaw.Joined.{spaced_none, spaced_token, parted, somewhere}

pub printed_nothing : {A X : Type 0} (e : A → X) (a : A) → IsPrinted (nothing a) e (e a) none
printed_nothing e a = record { spaced = spaced_none; whole = λ b ts h. (a, (no_tokens ts h, refl), refl) }
  where
    no_tokens : (ts : List Located) → tokens_in ts ≡ [] → ts ≡ []
    no_tokens [] h = refl
    no_tokens (t ∷ ts) h = absurd cc

pub printed_one : {A X : Type 0} (ks : List ℕ) (f : Located → Option A) (e : A → X) (x : X) (k : TokenKind) (spelling : List ℕ) → IsToken k spelling → among (class (record { token = record { kind = k; spelling = spelling }; place = record { line = 0; column = 0 } })) ks ≡ true → ((place : Place) → (a : A) × (f (record { token = record { kind = k; spelling = spelling }; place = place }) ≡ Some a) × (e a ≡ x)) → IsPrinted (one class ks f) e x (token k spelling)
printed_one {A} {X} ks f e x k spelling t c v = record { spaced = spaced_token k spelling t; whole = λ b ts h. of_one ts h }
  where
    of_one : (ts : List Located) → tokens_in ts ≡ record { kind = k; spelling = spelling } ∷ [] → (a : A) × (one class ks f).whole ts a × (e a ≡ x)
    of_one [] h = absurd cc
    of_one (u ∷ []) h =
        let first : u.token ≡ record { kind = k; spelling = spelling } = cc in
        let is : u ≡ record { token = record { kind = k; spelling = spelling }; place = u.place } = ap (λ (t : Spelled). record { token = t; place = u.place }) first in
        let w = v u.place in
        (w.0, (u, refl, rw is c, rw is w.1), w.2)
    of_one (u ∷ w ∷ ts) h = absurd cc

pub printed_labelled : {A X : Type 0} {r : Row Located A} {e : A → X} {x : X} {p : Phrase} (s : PhraseShape) → IsPrinted r e x p → IsPrinted (labelled s r) e x p
printed_labelled s h = record { spaced = h.spaced; whole = h.whole }

-- some value of the row is x, but for its places
pub some : {A X : Type 0} {r : Row Located A} {e : A → X} {x : X} {p : Phrase} → IsPrinted r e x p → (a : A) × (e a ≡ x)
some {p} h = let w = somewhere (p Space) in let v = h.whole Space w.0 w.1 in (v.0, v.2)

pub printed_mapped : {A B X Y : Type 0} {r : Row Located A} {e : A → X} {x : X} {p : Phrase} (f : A → B) (d : B → Y) (g : X → Y) → ((a : A) → d (f a) ≡ g (e a)) → IsPrinted r e x p → IsPrinted (mapped f r) d (g x) p
printed_mapped f d g same h = record { spaced = h.spaced; whole = λ b ts k. let w = h.whole b ts k in (f w.0, (w.0, w.1, refl), same w.0 ∙ ap g w.2) }

pub printed_chain : {A B X Y : Type 0} {r : Row Located A} {q : A → Row Located B} {e : A → X} {d : B → Y} {x : X} {y : Y} {p1 p2 p : Phrase} (s : PhraseShape) → Joins p1 p2 p → IsPrinted r e x p1 → ((a : A) → e a ≡ x → IsPrinted (q a) d y p2) → IsPrinted (chain r s q) d y p
printed_chain {A} {B} {X} {Y} {r} {q} {e} {d} {x} {y} {p1} {p2} {p} s j h k = record {
  spaced = let a = some h in j.spaced h.spaced (k a.0 a.1).spaced;
  whole = λ b ts t. (
      let w = parted (p1 (j.between b)) (p2 b) ts (t ∙ ap tokens_of (j.parts b)) in
      let v = h.whole (j.between b) w.0 w.3 in
      let u = (k v.0 v.2).whole b w.1 w.4 in
      (u.0, (w.0, w.1, v.0, w.2, v.1, u.1), u.2));
}

pub printed_both : {A B C X Y Z : Type 0} {r : Row Located A} {q : Row Located B} {e : A → X} {d : B → Y} {x : X} {y : Y} {p1 p2 p : Phrase} (f : A → B → C) (c : C → Z) (g : X → Y → Z) → ((a : A) (b : B) → c (f a b) ≡ g (e a) (d b)) → Joins p1 p2 p → IsPrinted r e x p1 → IsPrinted q d y p2 → IsPrinted (joined_values f r q) c (g x y) p
printed_both {q} {d} {x} {y} f c g same j h k =
    printed_chain q.shape j h (λ a is. printed_mapped (f a) c (g x) (λ b. same a b ∙ ap (λ z. g z (d b)) is) k)

pub printed_pair : {A B X Y : Type 0} {r : Row Located A} {q : Row Located B} {e : A → X} {d : B → Y} {x : X} {y : Y} {p1 p2 p : Phrase} → Joins p1 p2 p → IsPrinted r e x p1 → IsPrinted q d y p2 → IsPrinted {X = X × Y} (pair r q) (λ v. (e v.0, d v.1)) (x, y) p
printed_pair j h k = printed_both (λ a b. (a, b)) _ (λ x y. (x, y)) (λ a b. refl) j h k

pub printed_second : {A B X Y : Type 0} {r : Row Located A} {q : Row Located B} {e : A → X} {d : B → Y} {x : X} {y : Y} {p1 p2 p : Phrase} → Joins p1 p2 p → IsPrinted r e x p1 → IsPrinted q d y p2 → IsPrinted (keep_second r q) d y p
printed_second {q} j h k = printed_chain q.shape j h (λ a is. k)

pub printed_before : {A B X Y : Type 0} {r : Row Located A} {q : Row Located B} {e : A → X} {d : B → Y} {x : X} {y : Y} {p1 p2 p : Phrase} → Joins p1 p2 p → IsPrinted r e x p1 → IsPrinted q d y p2 → IsPrinted (keep_first r q) e x p
printed_before {e} j h k = printed_both (λ a b. a) e (λ x y. x) (λ a b. refl) j h k

pub printed_left : {A X : Type 0} {r : Row Located A} (q : Row Located A) {e : A → X} {x : X} {p : Phrase} → IsPrinted r e x p → IsPrinted (alt class r q) e x p
printed_left q h = record { spaced = h.spaced; whole = λ b ts t. let w = h.whole b ts t in (w.0, inl w.1, w.2) }

pub printed_right : {A X : Type 0} (r : Row Located A) {q : Row Located A} {e : A → X} {x : X} {p : Phrase} → IsPrinted q e x p → IsPrinted (alt class r q) e x p
printed_right r h = record { spaced = h.spaced; whole = λ b ts t. let w = h.whole b ts t in (w.0, inr w.1, w.2) }

pub printed_some : {A X : Type 0} {r : Row Located A} {e : A → X} {x : X} {p : Phrase} → IsPrinted r e x p → IsPrinted (optional class r) (option_map e) (Some x) p
printed_some {e} h = printed_left _ (printed_mapped Some (option_map e) Some (λ a. refl) h)

pub printed_none : {A X : Type 0} (r : Row Located A) (e : A → X) → IsPrinted (optional class r) (option_map e) None none
printed_none r e = printed_right (mapped Some r) (printed_nothing (option_map e) None)

-- the same value in other words
pub printed_as : {A X : Type 0} {r : Row Located A} {e : A → X} {x y : X} {p : Phrase} → x ≡ y → IsPrinted r e x p → IsPrinted r e y p
printed_as same h = record { spaced = h.spaced; whole = λ b ts t. let w = h.whole b ts t in (w.0, w.1, w.2 ∙ same) }

-- the same pieces in other words
pub printed_like : {A X : Type 0} {r : Row Located A} {e : A → X} {x : X} {p : Phrase} (q : Phrase) → ((b : Separator) → p b ≡ q b) → IsPrinted r e x p → IsPrinted r e x q
printed_like q same h = record {
  spaced = record { sound = λ b rest f s. subst (λ (ps : List TextPiece). AreSound (ps ++ rest)) (same b) (h.spaced.sound b rest f s) };
  whole = λ b ts t. h.whole b ts (t ∙ ap tokens_of (sym (same b)));
}
