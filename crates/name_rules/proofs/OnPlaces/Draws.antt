-- What the values of whole phrases ask for stands at the tokens of the phrases, in their order.
use Rattle.std.proofs.Common.{◌≡◌, ℕ, List, [], ◌∷◌, ◌++◌, Option, Some, None, inl, inr, refl, sym, ap, ◌∙◌, subst, flat_map, append_assoc}
use Rattle.std.proofs.lemmas.List.{append-nil}
use Rattle.ir_terminals.specs.PhraseRows.Row.{Row, PhraseShape, nothing, fail, one, chain, mapped, joined_values, keep_second, keep_first, pair, alt, optional, many, Each, separated, loop, Steps, labelled}
use Rattle.ir_lexer.specs.Ahead.{Located}
use Rattle.name_rules.specs.Demand.{Demand}
use Rattle.name_rules.specs.Places.Places.{InOrder}
use Rattle.name_rules.proofs.OnPlaces.Orders.{followed, preceded, joined, joined_at}

-- the tokens of a whole phrase and its value are so
pub record Spans {A : Type 0} (r : Row Located A) (P : List Located → A → Type 0) : Type 0 where
  pub value : (us : List Located) (a : A) → r.whole us a → P us a

-- what the value of a phrase asks for, wherever it stands, stands at the tokens of the phrase
abbrev pub Drawn : {A X : Type 0} → (X → A → List Demand) → List Located → A → Type 0
Drawn {X} f us a = (x : X) → InOrder us (f x a)

pub record Draws {A X : Type 0} (r : Row Located A) (f : X → A → List Demand) : Type 0 where
  pub value : (us : List Located) (a : A) → r.whole us a → Drawn f us a

pub spans_draws : {A X : Type 0} {r : Row Located A} (f : X → A → List Demand) → Draws r f → Spans r (Drawn f)
spans_draws f h = record { value = h.value }

pub draws_spans : {A X : Type 0} {r : Row Located A} (f : X → A → List Demand) → Spans r (Drawn f) → Draws r f
draws_spans f h = record { value = h.value }

-- what asks for nothing
abbrev pub nothing_asked : {A X : Type 0} → X → A → List Demand
nothing_asked x a = []

pub draws_any : {A : Type 0} (X : Type 0) (r : Row Located A) → Draws r (nothing_asked {A = A} {X = X})
draws_any X r = record { value = λ us a w x. tt }

pub draws_fail : {A X : Type 0} (s : PhraseShape) (f : X → A → List Demand) → Draws (fail s) f
draws_fail s f = record { value = λ us a w. absurd w }

pub draws_nothing : {A X : Type 0} (a : A) (f : X → A → List Demand) → ((x : X) → f x a ≡ []) → Draws (nothing a) f
draws_nothing a f h = record { value = λ us b w x. subst (InOrder us) (sym (subst (λ c. f x c ≡ []) (sym w.1) (h x))) tt }

pub draws_one : {A X : Type 0} (class : Located → ℕ) (ks : List ℕ) (m : Located → Option A) (f : X → A → List Demand) → ((t : Located) (a : A) → m t ≡ Some a → Drawn f (t ∷ []) a) → Draws (one class ks m) f
draws_one class ks m f h = record { value = λ us a w. subst (λ ts. Drawn f ts a) (sym w.1) (h w.0 a w.3) }

pub draws_mapped : {A B X Y : Type 0} (m : A → B) {p : Row Located A} {f : X → A → List Demand} (g : Y → B → List Demand) → Draws p f → ((us : List Located) (a : A) → Drawn f us a → Drawn g us (m a)) → Draws (mapped m p) g
draws_mapped m g h k = record { value = λ us b w. subst (Drawn g us) (sym w.2) (k us w.0 (h.value us w.0 w.1)) }

-- said otherwise
pub draws_so : {A X Y : Type 0} {p : Row Located A} {f : X → A → List Demand} (g : Y → A → List Demand) → Draws p f → ((us : List Located) (a : A) → Drawn f us a → Drawn g us a) → Draws p g
draws_so g h k = record { value = λ us a w. k us a (h.value us a w) }

pub draws_second : {A B X : Type 0} (p : Row Located A) {q : Row Located B} {f : X → B → List Demand} → Draws q f → Draws (keep_second p q) f
draws_second p {f} h = record { value = λ ts b w x. subst (λ all. InOrder all (f x b)) (sym w.3) (preceded w.0 w.1 (f x b) (h.value w.1 b w.5 x)) }

pub draws_before : {A B X : Type 0} {p : Row Located A} (q : Row Located B) {f : X → A → List Demand} → Draws p f → Draws (keep_first p q) f
draws_before q {f} h = record {
  value = λ ts c w x. subst (λ all. InOrder all (f x c)) (sym w.3) (followed w.0 w.1 (f x c) (subst (λ a. InOrder w.0 (f x a)) (sym w.5.2) (h.value w.0 w.2 w.4 x)));
}

-- what both ask for
abbrev pub pair_asked : {A B X Y : Type 0} → (X → A → List Demand) → (Y → B → List Demand) → X × Y → A × B → List Demand
pair_asked f g x v = f x.0 v.0 ++ g x.1 v.1

pub draws_both : {A B C X Y Z : Type 0} (m : A → B → C) {p : Row Located A} {q : Row Located B} {f : X → A → List Demand} {g : Y → B → List Demand} (k : Z → C → List Demand) → Draws p f → Draws q g
    → ((us vs : List Located) (a : A) (b : B) → Drawn f us a → Drawn g vs b → Drawn k (us ++ vs) (m a b)) → Draws (joined_values m p q) k
draws_both m k h g j = record {
  value = λ ts c w x. subst (λ all. InOrder all (k x c)) (sym w.3) (subst (λ d. InOrder (w.0 ++ w.1) (k x d)) (sym w.5.2) (j w.0 w.1 w.2 w.5.0 (h.value w.0 w.2 w.4) (g.value w.1 w.5.0 w.5.1) x));
}

pub draws_pair : {A B X Y : Type 0} {p : Row Located A} {q : Row Located B} {f : X → A → List Demand} {g : Y → B → List Demand} → Draws p f → Draws q g → Draws (pair p q) (pair_asked f g)
draws_pair {f} {g} h i = draws_both (λ a b. (a, b)) (pair_asked f g) h i (λ us vs a b x y z. joined us vs (f z.0 a) (g z.1 b) (x z.0) (y z.1))

-- the first alone
pub draws_left : {A B X : Type 0} {p : Row Located A} (q : Row Located B) {f : X → A → List Demand} → Draws p f → Draws (pair p q) (λ x v. f x v.0)
draws_left q {f} h = draws_both (λ a b. (a, b)) (λ x v. f x v.0) h (draws_any (Unit {0}) q) (λ us vs a b x y z. followed us vs (f z a) (x z))

-- the second alone
pub draws_right : {A B X : Type 0} (p : Row Located A) {q : Row Located B} {f : X → B → List Demand} → Draws q f → Draws (pair p q) (λ x v. f x v.1)
draws_right p {f} h = draws_both (λ a b. (a, b)) (λ x v. f x v.1) (draws_any (Unit {0}) p) h (λ us vs a b x y z. preceded us vs (f z b) (y z))

pub draws_alt : {A X : Type 0} (class : Located → ℕ) {p q : Row Located A} {f : X → A → List Demand} → Draws p f → Draws q f → Draws (alt class p q) f
draws_alt class h g = record { value = λ us a w. elim w [ inl v ↦ h.value us a v | inr v ↦ g.value us a v ] }

-- what is there asks for
abbrev pub if_there : {A X : Type 0} → (X → A → List Demand) → X → Option A → List Demand
if_there f x None = []
if_there f x (Some a) = f x a

pub draws_optional : {A X : Type 0} (class : Located → ℕ) {p : Row Located A} {f : X → A → List Demand} → Draws p f → Draws (optional class p) (if_there f)
draws_optional class {f} h = draws_alt class (draws_mapped Some (if_there f) h (λ us a d. d)) (draws_nothing None (if_there f) (λ x. refl))

-- phrases one after the other, of which each may be asked for more than those before it
pub record Follows {A X Y : Type 0} (f : X → A → List Demand) (g : Y → List A → List Demand) : Type 0 where
  pub first : Y → A → X
  pub next : Y → A → Y
  pub none : (y : Y) → g y [] ≡ []
  pub some : (y : Y) (a : A) (more : List A) → g y (a ∷ more) ≡ f (first y a) a ++ g (next y a) more

each_draws : {A X Y : Type 0} (p : Row Located A) (f : X → A → List Demand) (g : Y → List A → List Demand) → Follows f g → Draws p f → (xs : List A) (us : List Located) → Each p.whole us xs → Drawn g us xs
each_draws p f g s h [] us e y = subst (InOrder us) (sym (s.none y)) tt
each_draws p f g s h (a ∷ xs) us (vs, ws, e, w, each) y =
    subst (InOrder us) (sym (s.some y a xs))
    (joined_at us vs ws (f (s.first y a) a) (g (s.next y a) xs) e (h.value vs a w (s.first y a)) (each_draws p f g s h xs ws each (s.next y a)))

pub draws_many_by : {A X Y : Type 0} (class : Located → ℕ) {p : Row Located A} {f : X → A → List Demand} (g : Y → List A → List Demand) → Follows f g → Draws p f → Draws (many class p) g
draws_many_by class {p} {f} g s h = record { value = λ us xs each. each_draws p f g s h xs us each }

-- one, and more behind it
pub draws_some_by : {A X Y : Type 0} {p : Row Located A} {q : Row Located (List A)} {f : X → A → List Demand} (g : Y → List A → List Demand) → Follows f g → Draws p f → Draws q g → Draws (joined_values (λ a all. a ∷ all) p q) g
draws_some_by {f} g s h i =
    draws_both (λ a all. a ∷ all) g h i
    (λ us vs a all x y z. subst (InOrder (us ++ vs)) (sym (s.some z a all)) (joined us vs (f (s.first z a) a) (g (s.next z a) all) (x (s.first z a)) (y (s.next z a))))

-- each asks for the same
abbrev pub all_asked : {A X : Type 0} → (X → A → List Demand) → X → List A → List Demand
all_asked f x all = flat_map (f x) all

pub draws_many : {A X : Type 0} (class : Located → ℕ) {p : Row Located A} {f : X → A → List Demand} → Draws p f → Draws (many class p) (all_asked f)
draws_many class {f} h = draws_many_by class (all_asked f) (record { first = λ y a. y; next = λ y a. y; none = λ y. refl; some = λ y a more. refl }) h

-- one, and more behind it
pub draws_some : {A X : Type 0} {p : Row Located A} {q : Row Located (List A)} {f : X → A → List Demand} → Draws p f → Draws q (all_asked f) → Draws (joined_values (λ a all. a ∷ all) p q) (all_asked f)
draws_some {f} h g = draws_both (λ a all. a ∷ all) (all_asked f) h g (λ us vs a all x y z. joined us vs (f z a) (flat_map (f z) all) (x z) (y z))

pub draws_separated : {A S X : Type 0} (class : Located → ℕ) (s : Row Located S) {p : Row Located A} {f : X → A → List Demand} → Draws p f → Draws (separated class s p) (all_asked f)
draws_separated class s {f} h = draws_alt class (draws_some h (draws_many class (draws_second s h))) (draws_nothing [] (all_asked f) (λ x. refl))

pub draws_labelled : {A X : Type 0} (s : PhraseShape) {r : Row Located A} {f : X → A → List Demand} → Draws r f → Draws (labelled s r) f
draws_labelled s h = record { value = h.value }

-- ---- what depends on the tokens before it

pub spans_labelled : {A : Type 0} (s : PhraseShape) {r : Row Located A} {P : List Located → A → Type 0} → Spans r P → Spans (labelled s r) P
spans_labelled s h = record { value = h.value }

pub spans_chain : {A B : Type 0} {p : Row Located A} (s : PhraseShape) {q : A → Row Located B} {P : List Located → A → Type 0} (Q : List Located → B → Type 0) → Spans p P → ((us : List Located) (a : A) → P us a → Spans (q a) (λ vs b. Q (us ++ vs) b)) → Spans (chain p s q) Q
spans_chain s Q h k = record { value = λ ts b w. subst (λ all. Q all b) (sym w.3) ((k w.0 w.2 (h.value w.0 w.2 w.4)).value w.1 b w.5) }

-- a choice of what follows, which asks for all that is asked
pub draws_chosen : {A B X : Type 0} (p : Row Located A) (s : PhraseShape) {q : A → Row Located B} (f : X → B → List Demand) → ((a : A) → Draws (q a) f) → Draws (chain p s q) f
draws_chosen p s f h = record { value = λ ts b w x. subst (λ all. InOrder all (f x b)) (sym w.3) (preceded w.0 w.1 (f x b) ((h w.2).value w.1 b w.5 x)) }

steps_span : {S : Type 0} (q : S → Row Located S) (I : List Located → S → Type 0) → ((us : List Located) (s : S) → I us s → Spans (q s) (λ vs m. I (us ++ vs) m)) → (ms : List S) (s last : S) (front us : List Located) → I front s → Steps (λ m. (q m).whole) s us ms last → I (front ++ us) last
steps_span q I h [] s last front us i (none, e) = subst (λ ts. I (front ++ ts) last) (sym none) (subst (λ ts. I ts last) (sym (append-nil front)) (subst (I front) (sym e) i))
steps_span q I h (m ∷ ms) s last front us i (vs, ws, e, w, steps) =
    subst (λ ts. I (front ++ ts) last) (sym e) (subst (λ ts. I ts last) (append_assoc front vs ws) (steps_span q I h ms m last (front ++ vs) ws ((h front s i).value vs m w) steps))

-- what each step keeps
pub spans_loop : {S : Type 0} (class : Located → ℕ) (shape : PhraseShape) {q : S → Row Located S} (I : List Located → S → Type 0) → ((us : List Located) (s : S) → I us s → Spans (q s) (λ vs m. I (us ++ vs) m)) → (front : List Located) (s : S) → I front s → Spans (loop class shape q s) (λ us last. I (front ++ us) last)
spans_loop class shape {q} I h front s i = record { value = λ us last w. steps_span q I h w.0 s last front us i w.1 }

pub spans_any : {A : Type 0} (r : Row Located A) → Spans r (λ us a. Unit {0})
spans_any r = record { value = λ us a w. tt }

pub spans_mapped : {A B : Type 0} (m : A → B) {p : Row Located A} {P : List Located → A → Type 0} (Q : List Located → B → Type 0) → Spans p P → ((us : List Located) (a : A) → P us a → Q us (m a)) → Spans (mapped m p) Q
spans_mapped m Q h k = record { value = λ us b w. subst (Q us) (sym w.2) (k us w.0 (h.value us w.0 w.1)) }

pub spans_second : {A B : Type 0} (p : Row Located A) {q : Row Located B} (Q : List Located → B → Type 0) → ((us vs : List Located) (b : B) → Q vs b → Q (us ++ vs) b) → Spans q Q → Spans (keep_second p q) Q
spans_second p Q further h = record { value = λ ts b w. subst (λ all. Q all b) (sym w.3) (further w.0 w.1 b (h.value w.1 b w.5)) }

pub spans_alt : {A : Type 0} (class : Located → ℕ) {p q : Row Located A} {P : List Located → A → Type 0} → Spans p P → Spans q P → Spans (alt class p q) P
spans_alt class h g = record { value = λ us a w. elim w [ inl v ↦ h.value us a v | inr v ↦ g.value us a v ] }

-- ---- lists that grow at their end

-- what the longer list asks for more than the shorter one stands at these tokens
abbrev pub Adds : {A X : Type 0} → (X → List A → List Demand) → List A → List Located → List A → Type 0
Adds {X} g parts us longer = (x : X) → (more : List Demand) × (g x longer ≡ g x parts ++ more) × InOrder us more

pub adds_further : {A X : Type 0} (g : X → List A → List Demand) (parts longer : List A) (us vs : List Located) → Adds g parts vs longer → Adds g parts (us ++ vs) longer
adds_further g parts longer us vs h x = let more = h x in (more.0, more.1, preceded us vs more.0 more.2)

pub adds_none : {A X : Type 0} (g : X → List A → List Demand) (parts : List A) (us : List Located) → Adds g parts us parts
adds_none g parts us x = ([], sym (append-nil (g x parts)), tt)

pub adds_all : {A X : Type 0} (g : X → List A → List Demand) (parts longer : List A) (us vs : List Located) → Drawn g us parts → Adds g parts vs longer → Drawn g (us ++ vs) longer
adds_all g parts longer us vs h k x = let more = k x in subst (InOrder (us ++ vs)) (sym more.1) (joined us vs (g x parts) more.0 (h x) more.2)

flat_more : {A X : Type 0} (f : X → A → List Demand) (parts : List A) (a : A) (x : X) → flat_map (f x) (parts ++ a ∷ []) ≡ flat_map (f x) parts ++ f x a
flat_more f [] a x = append-nil (f x a)
flat_more f (b ∷ parts) a x = ap (λ all. f x b ++ all) (flat_more f parts a x) ∙ sym (append_assoc (f x b) (flat_map (f x) parts) (f x a))

-- one more that asks for as much as each
pub adds_one : {A X : Type 0} (f : X → A → List Demand) (parts : List A) (us : List Located) (a : A) → Drawn f us a → Adds (all_asked f) parts us (parts ++ a ∷ [])
adds_one f parts us a h x = (f x a, flat_more f parts a x, h x)

-- a step that adds to a list keeps that the list is drawn
pub spans_added : {A X S : Type 0} (list : S → List A) {q : Row Located S} (g : X → List A → List Demand) (parts : List A) (us : List Located) → Drawn g us parts → Spans q (λ vs m. Adds g parts vs (list m)) → Spans q (λ vs m. Drawn g (us ++ vs) (list m))
spans_added list g parts us d h = record { value = λ vs m w. adds_all g parts (list m) us vs d (h.value vs m w) }

-- a list of one
pub alone : {A X : Type 0} (f : X → A → List Demand) (us : List Located) (a : A) → Drawn f us a → Drawn (all_asked f) us (a ∷ [])
alone f us a d x = subst (InOrder us) (sym (append-nil (f x a))) (d x)
