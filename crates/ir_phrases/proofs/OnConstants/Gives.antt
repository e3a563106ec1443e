-- What the values of whole phrases are like.
use Rattle.std.proofs.Common.{◌≡◌, ℕ, List, [], ◌∷◌, ◌++◌, Option, Some, None, inl, inr, sym, subst}
use Rattle.ir_terminals.specs.PhraseRows.Row.{Row, PhraseShape, nothing, fail, one, chain, mapped, joined_values, keep_second, keep_first, pair, alt, optional, many, Each, separated, loop, Steps, labelled}
use Rattle.ir_phrases.specs.Constants.Forms.{AllAre}

-- each value of a whole phrase is so
pub record Gives {T A : Type 0} (r : Row T A) (P : A → Type 0) : Type 0 where
  pub value : (us : List T) (a : A) → r.whole us a → P a

-- the value is so, if it is there
abbrev pub IfThere : {A : Type 0} → (A → Type 0) → Option A → Type 0
IfThere P (Some a) = P a
IfThere P None = Unit {0}

pub gives_any : {T A : Type 0} (r : Row T A) → Gives r (λ a. Unit {0})
gives_any r = record { value = λ us a w. tt }

pub gives_weaker : {T A : Type 0} {r : Row T A} {P : A → Type 0} (Q : A → Type 0) → Gives r P → ((a : A) → P a → Q a) → Gives r Q
gives_weaker Q h k = record { value = λ us a w. k a (h.value us a w) }

pub gives_fail : {T A : Type 0} (s : PhraseShape) (P : A → Type 0) → Gives {T = T} (fail s) P
gives_fail s P = record { value = λ us a w. absurd w }

pub gives_nothing : {T A : Type 0} (a : A) (P : A → Type 0) → P a → Gives {T = T} (nothing a) P
gives_nothing a P h = record { value = λ us b w. subst P (sym w.1) h }

pub gives_one : {T A : Type 0} (class : T → ℕ) (ks : List ℕ) (f : T → Option A) (P : A → Type 0) → ((t : T) (a : A) → f t ≡ Some a → P a) → Gives (one class ks f) P
gives_one class ks f P h = record { value = λ us a w. h w.0 a w.3 }

pub gives_mapped : {T A B : Type 0} (f : A → B) {p : Row T A} {P : A → Type 0} (Q : B → Type 0) → Gives p P → ((a : A) → P a → Q (f a)) → Gives (mapped f p) Q
gives_mapped f Q h k = record { value = λ us b w. subst Q (sym w.2) (k w.0 (h.value us w.0 w.1)) }

pub gives_chain : {T A B : Type 0} {p : Row T A} (s : PhraseShape) {q : A → Row T B} {P : A → Type 0} (Q : B → Type 0) → Gives p P → ((a : A) → P a → Gives (q a) Q) → Gives (chain p s q) Q
gives_chain s Q h k = record { value = λ ts b w. (k w.2 (h.value w.0 w.2 w.4)).value w.1 b w.5 }

pub gives_both : {T A B C : Type 0} (f : A → B → C) {p : Row T A} {q : Row T B} {P : A → Type 0} {Q : B → Type 0} (R : C → Type 0) → Gives p P → Gives q Q → ((a : A) (b : B) → P a → Q b → R (f a b)) → Gives (joined_values f p q) R
gives_both f R h g k = record { value = λ ts c w. subst R (sym w.5.2) (k w.2 w.5.0 (h.value w.0 w.2 w.4) (g.value w.1 w.5.0 w.5.1)) }

pub gives_second : {T A B : Type 0} (p : Row T A) {q : Row T B} {Q : B → Type 0} → Gives q Q → Gives (keep_second p q) Q
gives_second p h = record { value = λ ts b w. h.value w.1 b w.5 }

pub gives_before : {T A B : Type 0} {p : Row T A} (q : Row T B) {P : A → Type 0} → Gives p P → Gives (keep_first p q) P
gives_before q {P} h = record { value = λ ts c w. subst P (sym w.5.2) (h.value w.0 w.2 w.4) }

pub gives_pair : {T A B : Type 0} {p : Row T A} {q : Row T B} {P : A → Type 0} {Q : B → Type 0} → Gives p P → Gives q Q → Gives (pair p q) (λ v. P v.0 × Q v.1)
gives_pair {P} {Q} h g = gives_both (λ a b. (a, b)) (λ v. P v.0 × Q v.1) h g (λ a b x y. (x, y))

pub gives_alt : {T A : Type 0} (class : T → ℕ) {p q : Row T A} {P : A → Type 0} → Gives p P → Gives q P → Gives (alt class p q) P
gives_alt class h g = record { value = λ us a w. elim w [ inl v ↦ h.value us a v | inr v ↦ g.value us a v ] }

pub gives_optional : {T A : Type 0} (class : T → ℕ) {p : Row T A} {P : A → Type 0} → Gives p P → Gives (optional class p) (IfThere P)
gives_optional class {P} h = gives_alt class (gives_mapped Some (IfThere P) h (λ a x. x)) (gives_nothing None (IfThere P) tt)

each_gives : {T A : Type 0} (p : Row T A) (P : A → Type 0) → Gives p P → (xs : List A) (us : List T) → Each p.whole us xs → AllAre P xs
each_gives p P h [] us e = tt
each_gives p P h (a ∷ xs) us (vs, ws, e, w, each) = (h.value vs a w, each_gives p P h xs ws each)

pub gives_many : {T A : Type 0} (class : T → ℕ) {p : Row T A} {P : A → Type 0} → Gives p P → Gives (many class p) (AllAre P)
gives_many class {p} {P} h = record { value = λ us xs each. each_gives p P h xs us each }

pub gives_separated : {T A S : Type 0} (class : T → ℕ) (s : Row T S) {p : Row T A} {P : A → Type 0} → Gives p P → Gives (separated class s p) (AllAre P)
gives_separated class s {P} h =
    gives_alt class (gives_both (λ a xs. a ∷ xs) (AllAre P) h (gives_many class (gives_second s h)) (λ a xs x y. (x, y))) (gives_nothing [] (AllAre P) tt)

steps_give : {T S : Type 0} (q : S → Row T S) (I : S → Type 0) → ((s : S) → I s → Gives (q s) I) → (ms : List S) (s last : S) (us : List T) → I s → Steps (λ m. (q m).whole) s us ms last → I last
steps_give q I h [] s last us i e = subst I (sym e.1) i
steps_give q I h (m ∷ ms) s last us i (vs, ws, e, w, steps) = steps_give q I h ms m last ws ((h s i).value vs m w) steps

-- what each step keeps
pub gives_loop : {T S : Type 0} (class : T → ℕ) (shape : PhraseShape) {q : S → Row T S} (I : S → Type 0) → ((s : S) → I s → Gives (q s) I) → (s : S) → I s → Gives (loop class shape q s) I
gives_loop class shape {q} I h s i = record { value = λ us last w. steps_give q I h w.0 s last us i w.1 }

pub gives_labelled : {T A : Type 0} (s : PhraseShape) {r : Row T A} {P : A → Type 0} → Gives r P → Gives (labelled s r) P
gives_labelled s h = record { value = h.value }

-- one more at the end of a list
pub all_more : {A : Type 0} (P : A → Type 0) (xs : List A) (a : A) → AllAre P xs → P a → AllAre P (xs ++ (a ∷ []))
all_more P [] a h x = (x, tt)
all_more P (y ∷ ys) a h x = (h.0, all_more P ys a h.1 x)
