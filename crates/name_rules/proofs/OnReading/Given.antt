-- What the values of whole phrases are like where each token is spelled in bytes.
use Rattle.std.proofs.Common.{◌≡◌, ℕ, List, [], ◌∷◌, ◌++◌, true, Option, Some, None, inl, inr, sym, subst}
use Rattle.ir_terminals.specs.PhraseRows.Row.{Row, PhraseShape, nothing, fail, one, chain, mapped, joined_values, keep_second, keep_first, pair, alt, optional, many, Each, separated, loop, Steps, labelled}
use Rattle.ir_lexer.specs.Ahead.{Located}
use Rattle.ir_lexer.specs.Table.{IsToken}
use Rattle.module_arena.specs.Names.{are_bytes}
use Rattle.ir_phrases.specs.Constants.Forms.{AllAre}
use Rattle.ir_phrases.proofs.OnConstants.Gives.{IfThere}

-- each is below 256
abbrev pub AreBytes : List ℕ → Type 0
AreBytes bytes = are_bytes bytes ≡ true

-- the token is spelled as those of its kind are, in bytes
pub record IsSpelled (t : Located) : Type 0 where
  pub token : IsToken t.token.kind t.token.spelling
  pub bytes : AreBytes t.token.spelling

-- each value of a whole phrase of such tokens is so
pub record Given {A : Type 0} (r : Row Located A) (P : A → Type 0) : Type 0 where
  pub value : (us : List Located) (a : A) → AllAre IsSpelled us → r.whole us a → P a

split : (us vs : List Located) → AllAre IsSpelled (us ++ vs) → AllAre IsSpelled us × AllAre IsSpelled vs
split [] vs h = (tt, h)
split (u ∷ us) vs h = let rest = split us vs h.1 in ((h.0, rest.0), rest.1)

-- the tokens of two phrases one after the other
halves : (ts us vs : List Located) → ts ≡ us ++ vs → AllAre IsSpelled ts → AllAre IsSpelled us × AllAre IsSpelled vs
halves ts us vs e h = split us vs (subst (AllAre IsSpelled) e h)

pub given_any : {A : Type 0} (r : Row Located A) → Given r (λ a. Unit {0})
given_any r = record { value = λ us a q w. tt }

pub given_weaker : {A : Type 0} {r : Row Located A} {P : A → Type 0} (Q : A → Type 0) → Given r P → ((a : A) → P a → Q a) → Given r Q
given_weaker Q h k = record { value = λ us a q w. k a (h.value us a q w) }

-- two things at once
pub given_also : {A : Type 0} {r : Row Located A} {P Q : A → Type 0} → Given r P → Given r Q → Given r (λ a. P a × Q a)
given_also h g = record { value = λ us a q w. (h.value us a q w, g.value us a q w) }

pub given_fail : {A : Type 0} (s : PhraseShape) (P : A → Type 0) → Given (fail s) P
given_fail s P = record { value = λ us a q w. absurd w }

pub given_nothing : {A : Type 0} (a : A) (P : A → Type 0) → P a → Given (nothing a) P
given_nothing a P h = record { value = λ us b q w. subst P (sym w.1) h }

pub given_one : {A : Type 0} (class : Located → ℕ) (ks : List ℕ) (f : Located → Option A) (P : A → Type 0) → ((t : Located) (a : A) → IsSpelled t → f t ≡ Some a → P a) → Given (one class ks f) P
given_one class ks f P h = record { value = λ us a q w. h w.0 a (subst (AllAre IsSpelled) w.1 q).0 w.3 }

pub given_mapped : {A B : Type 0} (f : A → B) {p : Row Located A} {P : A → Type 0} (Q : B → Type 0) → Given p P → ((a : A) → P a → Q (f a)) → Given (mapped f p) Q
given_mapped f Q h k = record { value = λ us b q w. subst Q (sym w.2) (k w.0 (h.value us w.0 q w.1)) }

pub given_chain : {A B : Type 0} {p : Row Located A} (s : PhraseShape) {q : A → Row Located B} {P : A → Type 0} (Q : B → Type 0) → Given p P → ((a : A) → P a → Given (q a) Q) → Given (chain p s q) Q
given_chain s Q h k = record { value = λ ts b all w. (k w.2 (h.value w.0 w.2 (halves ts w.0 w.1 w.3 all).0 w.4)).value w.1 b (halves ts w.0 w.1 w.3 all).1 w.5 }

pub given_both : {A B C : Type 0} (f : A → B → C) {p : Row Located A} {q : Row Located B} {P : A → Type 0} {Q : B → Type 0} (R : C → Type 0) → Given p P → Given q Q → ((a : A) (b : B) → P a → Q b → R (f a b)) → Given (joined_values f p q) R
given_both f R h g k = record {
  value = λ ts c all w. subst R (sym w.5.2) (k w.2 w.5.0 (h.value w.0 w.2 (halves ts w.0 w.1 w.3 all).0 w.4) (g.value w.1 w.5.0 (halves ts w.0 w.1 w.3 all).1 w.5.1));
}

pub given_second : {A B : Type 0} (p : Row Located A) {q : Row Located B} {Q : B → Type 0} → Given q Q → Given (keep_second p q) Q
given_second p h = record { value = λ ts b all w. h.value w.1 b (halves ts w.0 w.1 w.3 all).1 w.5 }

pub given_before : {A B : Type 0} {p : Row Located A} (q : Row Located B) {P : A → Type 0} → Given p P → Given (keep_first p q) P
given_before q {P} h = record { value = λ ts c all w. subst P (sym w.5.2) (h.value w.0 w.2 (halves ts w.0 w.1 w.3 all).0 w.4) }

pub given_pair : {A B : Type 0} {p : Row Located A} {q : Row Located B} {P : A → Type 0} {Q : B → Type 0} → Given p P → Given q Q → Given (pair p q) (λ v. P v.0 × Q v.1)
given_pair {P} {Q} h g = given_both (λ a b. (a, b)) (λ v. P v.0 × Q v.1) h g (λ a b x y. (x, y))

pub given_alt : {A : Type 0} (class : Located → ℕ) {p q : Row Located A} {P : A → Type 0} → Given p P → Given q P → Given (alt class p q) P
given_alt class h g = record { value = λ us a all w. elim w [ inl v ↦ h.value us a all v | inr v ↦ g.value us a all v ] }

pub given_optional : {A : Type 0} (class : Located → ℕ) {p : Row Located A} {P : A → Type 0} → Given p P → Given (optional class p) (IfThere P)
given_optional class {P} h = given_alt class (given_mapped Some (IfThere P) h (λ a x. x)) (given_nothing None (IfThere P) tt)

each_given : {A : Type 0} (p : Row Located A) (P : A → Type 0) → Given p P → (xs : List A) (us : List Located) → AllAre IsSpelled us → Each p.whole us xs → AllAre P xs
each_given p P h [] us all e = tt
each_given p P h (a ∷ xs) us all (vs, ws, e, w, each) =
    let parts = halves us vs ws e all in
    (h.value vs a parts.0 w, each_given p P h xs ws parts.1 each)

pub given_many : {A : Type 0} (class : Located → ℕ) {p : Row Located A} {P : A → Type 0} → Given p P → Given (many class p) (AllAre P)
given_many class {p} {P} h = record { value = λ us xs all each. each_given p P h xs us all each }

pub given_separated : {A S : Type 0} (class : Located → ℕ) (s : Row Located S) {p : Row Located A} {P : A → Type 0} → Given p P → Given (separated class s p) (AllAre P)
given_separated class s {P} h =
    given_alt class (given_both (λ a xs. a ∷ xs) (AllAre P) h (given_many class (given_second s h)) (λ a xs x y. (x, y))) (given_nothing [] (AllAre P) tt)

steps_given : {S : Type 0} (q : S → Row Located S) (I : S → Type 0) → ((s : S) → I s → Given (q s) I) → (ms : List S) (s last : S) (us : List Located) → I s → AllAre IsSpelled us → Steps (λ m. (q m).whole) s us ms last → I last
steps_given q I h [] s last us i all e = subst I (sym e.1) i
steps_given q I h (m ∷ ms) s last us i all (vs, ws, e, w, steps) =
    let parts = halves us vs ws e all in
    steps_given q I h ms m last ws ((h s i).value vs m parts.0 w) parts.1 steps

-- what each step keeps
pub given_loop : {S : Type 0} (class : Located → ℕ) (shape : PhraseShape) {q : S → Row Located S} (I : S → Type 0) → ((s : S) → I s → Given (q s) I) → (s : S) → I s → Given (loop class shape q s) I
given_loop class shape {q} I h s i = record { value = λ us last all w. steps_given q I h w.0 s last us i all w.1 }

pub given_labelled : {A : Type 0} (s : PhraseShape) {r : Row Located A} {P : A → Type 0} → Given r P → Given (labelled s r) P
given_labelled s h = record { value = h.value }
