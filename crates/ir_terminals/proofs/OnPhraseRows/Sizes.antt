-- How large the values of rows are, counted in the tokens of their phrases.
use Rattle.std.proofs.Common.{◌≡◌, ℕ, zero, suc, ◌≤◌, ◌+◌, List, [], ◌∷◌, length, true, inl, inr, refl, ap, arith, length-append, Option, Some, None}
use Rattle.std.specs.List.{sum_by}
use Rattle.std.proofs.lemmas.List.Sums.{sum_by-cons}
use Rattle.ir_terminals.specs.PhraseRows.Row.{PhraseShape, Row, among, nothing, fail, one, chain, mapped, joined_values, keep_second, keep_first, pair, alt, optional, many, Each, separated, loop, Steps, TokenMove, On, Ends, Stops, EndsWith, machine, labelled, deep}

-- the value is no larger than the phrase has tokens
pub record IsSized {T A : Type 0} (r : Row T A) (f : A → ℕ) : Type 0 where
  pub size : (us : List T) (a : A) → r.whole us a → f a ≤ length us

-- the value is larger than n by no more than the phrase has tokens
pub record IsSizedFrom {T A : Type 0} (n : ℕ) (r : Row T A) (f : A → ℕ) : Type 0 where
  pub size : (us : List T) (a : A) → r.whole us a → f a ≤ n + length us

pub sized_nothing : {T A : Type 0} (a : A) (f : A → ℕ) → f a ≡ 0 → IsSized {T = T} (nothing a) f
sized_nothing a f e = record { size = λ us b w. rw w.1 (rw e (omega arith)) }

pub sized_fail : {T A : Type 0} (s : PhraseShape) (f : A → ℕ) → IsSized {T = T} (fail s) f
sized_fail s f = record { size = λ us b w. absurd w }

pub sized_one : {T A : Type 0} (class : T → ℕ) (ks : List ℕ) (v : T → Option A) (f : A → ℕ) → ((t : T) (a : A) → among (class t) ks ≡ true → v t ≡ Some a → f a ≤ 1) → IsSized (one class ks v) f
sized_one class ks v f h = record { size = λ us a w. rw w.1 (h w.0 a w.2 w.3) }

pub sized_mapped : {T A B : Type 0} (m : A → B) {p : Row T A} {f : A → ℕ} (g : B → ℕ) → IsSized p f → ((a : A) → g (m a) ≤ f a) → IsSized (mapped m p) g
sized_mapped m g h le = record { size = λ us b w. rw w.2 (let k = h.size us w.0 w.1 in let l = le w.0 in omega (arith, k, l)) }

pub sized_from : {T A : Type 0} {p : Row T A} {f : A → ℕ} (n : ℕ) → IsSized p f → IsSizedFrom n p f
sized_from n h = record { size = λ us a w. (let k = h.size us a w in omega (arith, k)) }

pub sized_at_zero : {T A : Type 0} {p : Row T A} {f : A → ℕ} → IsSizedFrom 0 p f → IsSized p f
sized_at_zero h = record { size = λ us a w. (let k = h.size us a w in omega (arith, k)) }

pub mapped_from : {T A B : Type 0} {n : ℕ} (m : A → B) {p : Row T A} {f : A → ℕ} (g : B → ℕ) → IsSizedFrom n p f → ((a : A) → g (m a) ≤ f a) → IsSizedFrom n (mapped m p) g
mapped_from m g h le = record { size = λ us b w. rw w.2 (let k = h.size us w.0 w.1 in let l = le w.0 in omega (arith, k, l)) }

pub alt_from : {T A : Type 0} (class : T → ℕ) {n : ℕ} {p q : Row T A} {f : A → ℕ} → IsSizedFrom n p f → IsSizedFrom n q f → IsSizedFrom n (alt class p q) f
alt_from class hp hq = record { size = λ us a w. elim w [ inl v ↦ hp.size us a v | inr v ↦ hq.size us a v ] }

pub labelled_from : {T A : Type 0} (s : PhraseShape) {n : ℕ} {r : Row T A} {f : A → ℕ} → IsSizedFrom n r f → IsSizedFrom n (labelled s r) f
labelled_from s h = record { size = h.size }

-- where the row's own phrase adds to n what its value is larger by
pub mapped_onto : {T A B : Type 0} (n : ℕ) (m : A → B) {p : Row T A} {f : A → ℕ} (g : B → ℕ) → IsSized p f → ((a : A) → g (m a) ≤ n + f a) → IsSizedFrom n (mapped m p) g
mapped_onto n m g h le = record { size = λ us b w. rw w.2 (let k = h.size us w.0 w.1 in let l = le w.0 in omega (arith, k, l)) }

pub nothing_from : {T A : Type 0} (n : ℕ) (a : A) (f : A → ℕ) → f a ≤ n → IsSizedFrom {T = T} n (nothing a) f
nothing_from n a f le = record { size = λ us b w. rw w.1 (rw w.0 (let l = le in omega (arith, l))) }

pub fail_from : {T A : Type 0} (n : ℕ) (s : PhraseShape) (f : A → ℕ) → IsSizedFrom {T = T} n (fail s) f
fail_from n s f = record { size = λ us b w. absurd w }

pub one_from : {T A : Type 0} (n : ℕ) (class : T → ℕ) (ks : List ℕ) (v : T → Option A) (f : A → ℕ) → ((t : T) (a : A) → among (class t) ks ≡ true → v t ≡ Some a → f a ≤ n + 1) → IsSizedFrom n (one class ks v) f
one_from n class ks v f h = record { size = λ us a w. rw w.1 (h w.0 a w.2 w.3) }

pub both_from : {T A B C : Type 0} (n : ℕ) (m : A → B → C) {p : Row T A} {q : Row T B} {f : A → ℕ} {g : B → ℕ} (h : C → ℕ) → IsSized p f → IsSized q g → ((a : A) (b : B) → h (m a b) ≤ n + (f a + g b)) → IsSizedFrom n (joined_values m p q) h
both_from n m h hp hq le = record {
  size = λ ts c w.
      rw w.5.2 (
      let k = hp.size w.0 w.2 w.4 in
      let l = hq.size w.1 w.5.0 w.5.1 in
      let d = le w.2 w.5.0 in
      omega (arith, k, l, d, ap length w.3, length-append w.0 w.1));
}

pub second_from : {T A B : Type 0} {n : ℕ} {p : Row T A} {q : Row T B} {f : A → ℕ} {g : B → ℕ} (h : B → ℕ) → IsSized p f → IsSizedFrom n q g → ((a : A) (b : B) → h b ≤ f a + g b) → IsSizedFrom n (keep_second p q) h
second_from h hp hq le = record {
  size = λ ts b w.
      (let k = hp.size w.0 w.2 w.4 in
      let l = hq.size w.1 b w.5 in
      let d = le w.2 b in
      omega (arith, k, l, d, ap length w.3, length-append w.0 w.1));
}

pub chain_from : {T A B : Type 0} {n : ℕ} {p : Row T A} (s : PhraseShape) {q : A → Row T B} {f : A → ℕ} (g : B → ℕ) → IsSizedFrom n p f → ((a : A) → IsSizedFrom (f a) (q a) g) → IsSizedFrom n (chain p s q) g
chain_from s g hp hq = record {
  size = λ ts b w.
      (let k = hp.size w.0 w.2 w.4 in
      let l = (hq w.2).size w.1 b w.5 in
      omega (arith, k, l, ap length w.3, length-append w.0 w.1));
}

pub sized_chain : {T A B : Type 0} {p : Row T A} (s : PhraseShape) {q : A → Row T B} {f : A → ℕ} (g : B → ℕ) → IsSized p f → ((a : A) → IsSizedFrom (f a) (q a) g) → IsSized (chain p s q) g
sized_chain s g hp hq = sized_at_zero (chain_from s g (sized_from 0 hp) hq)

pub sized_both : {T A B C : Type 0} (m : A → B → C) {p : Row T A} {q : Row T B} {f : A → ℕ} {g : B → ℕ} (h : C → ℕ) → IsSized p f → IsSized q g → ((a : A) (b : B) → h (m a b) ≤ f a + g b) → IsSized (joined_values m p q) h
sized_both m h hp hq le = record {
  size = λ ts c w.
      rw w.5.2 (
      let k = hp.size w.0 w.2 w.4 in
      let l = hq.size w.1 w.5.0 w.5.1 in
      let n = le w.2 w.5.0 in
      omega (arith, k, l, n, ap length w.3, length-append w.0 w.1));
}

pub sized_second : {T A B : Type 0} {p : Row T A} {q : Row T B} {f : A → ℕ} {g : B → ℕ} (h : B → ℕ) → IsSized p f → IsSized q g → ((a : A) (b : B) → h b ≤ f a + g b) → IsSized (keep_second p q) h
sized_second h hp hq le = record {
  size = λ ts b w.
      (let k = hp.size w.0 w.2 w.4 in
      let l = hq.size w.1 b w.5 in
      let n = le w.2 b in
      omega (arith, k, l, n, ap length w.3, length-append w.0 w.1));
}

pub sized_before : {T A B : Type 0} {p : Row T A} {q : Row T B} {f : A → ℕ} {g : B → ℕ} (h : A → ℕ) → IsSized p f → IsSized q g → ((a : A) (b : B) → h a ≤ f a + g b) → IsSized (keep_first p q) h
sized_before h hp hq le = sized_both (λ a b. a) h hp hq le

pub sized_pair : {T A B : Type 0} {p : Row T A} {q : Row T B} {f : A → ℕ} {g : B → ℕ} (h : A × B → ℕ) → IsSized p f → IsSized q g → ((a : A) (b : B) → h (a, b) ≤ f a + g b) → IsSized (pair p q) h
sized_pair h hp hq le = sized_both (λ a b. (a, b)) h hp hq le

-- where its value says nothing of its size
pub sized_none : {T A : Type 0} (p : Row T A) → IsSized p (λ a. 0)
sized_none p = record { size = λ us a w. omega arith }

pub sized_alt : {T A : Type 0} (class : T → ℕ) {p q : Row T A} {f : A → ℕ} → IsSized p f → IsSized q f → IsSized (alt class p q) f
sized_alt class hp hq = record { size = λ us a w. elim w [ inl v ↦ hp.size us a v | inr v ↦ hq.size us a v ] }

pub sized_optional : {T A : Type 0} (class : T → ℕ) {p : Row T A} {f : A → ℕ} (g : Option A → ℕ) → IsSized p f → ((a : A) → g (Some a) ≤ f a) → g None ≡ 0 → IsSized (optional class p) g
sized_optional class g h le none = sized_alt class (sized_mapped Some g h le) (sized_nothing None g none)

sized_each : {T A : Type 0} (p : Row T A) (f : A → ℕ) → IsSized p f → (xs : List A) (us : List T) → Each p.whole us xs → sum_by f xs ≤ length us
sized_each p f h [] us e = omega arith
sized_each p f h (a ∷ xs) us (vs, ws, e, w, each) =
    let k = h.size vs a w in
    let l = sized_each p f h xs ws each in
    omega (arith, k, l, sum_by-cons f a xs, ap length e, length-append vs ws)

pub sized_many : {T A : Type 0} (class : T → ℕ) {p : Row T A} {f : A → ℕ} → IsSized p f → IsSized (many class p) (sum_by f)
sized_many class {p} {f} h = record { size = λ us xs each. sized_each p f h xs us each }

pub sized_separated : {T A S : Type 0} (class : T → ℕ) (s : Row T S) {p : Row T A} {f : A → ℕ} → IsSized p f → IsSized (separated class s p) (sum_by f)
sized_separated class s {p} {f} h =
    sized_alt class
    (sized_both (λ a xs. a ∷ xs) (sum_by f) h (sized_many class (sized_second f (sized_none s) h (λ x a. omega arith))) (λ a xs. omega (arith, sum_by-cons f a xs)))
    (sized_nothing [] (sum_by f) refl)

sized_steps : {T S : Type 0} (q : S → Row T S) (f : S → ℕ) → ((s : S) → IsSizedFrom (f s) (q s) f) → (ms : List S) (s last : S) (us : List T) → Steps (λ m. (q m).whole) s us ms last → f last ≤ f s + length us
sized_steps q f h [] s last us e = rw e.1 (omega arith)
sized_steps q f h (m ∷ ms) s last us (vs, ws, e, w, steps) =
    let k = (h s).size vs m w in
    let l = sized_steps q f h ms m last ws steps in
    omega (arith, k, l, ap length e, length-append vs ws)

pub sized_loop : {T S : Type 0} (class : T → ℕ) (shape : PhraseShape) {q : S → Row T S} (f : S → ℕ) → ((s : S) → IsSizedFrom (f s) (q s) f) → (s : S) → IsSizedFrom (f s) (loop class shape q s) f
sized_loop class shape {q} f h s = record { size = λ us last w. sized_steps q f h w.0 s last us w.1 }

module _ {T S A : Type 0} (step : S → T → TokenMove S A) (n : S → ℕ) (f : A → ℕ) (on : (s m : S) (t : T) → step s t ≡ On m → n m ≤ suc (n s)) (ends : (s : S) (t : T) (a : A) → step s t ≡ Ends a → f a ≤ suc (n s)) where
  machine_size_by : (s : S) (t : T) (us : List T) (a : A) (x : TokenMove S A) → step s t ≡ x → elim x as (λ m. Type 0) [ On m ↦ EndsWith step m us a | Ends b ↦ (us ≡ []) × (a ≡ b) | Stops ↦ ⊥ ] → ((m : S) → EndsWith step m us a → f a ≤ n m + length us) → f a ≤ n s + suc (length us)
  machine_size_by s t us a (On m) e w ih = let k = ih m w in let l = on s m t e in omega (arith, k, l)
  machine_size_by s t us a (Ends b) e w ih = rw w.1 (let l = ends s t b e in omega (arith, l))
  machine_size_by s t us a Stops e w ih = absurd w

  machine_size : (us : List T) (s : S) (a : A) → EndsWith step s us a → f a ≤ n s + length us
  machine_size [] s a w = absurd w
  machine_size (t ∷ us) s a w = machine_size_by s t us a (step s t) refl w (λ m v. machine_size us m a v)

-- where each step adds no more than one
pub sized_machine_from : {T S A : Type 0} (first : List ℕ) (step : S → T → TokenMove S A) (n : S → ℕ) (f : A → ℕ) → ((s m : S) (t : T) → step s t ≡ On m → n m ≤ suc (n s)) → ((s : S) (t : T) (a : A) → step s t ≡ Ends a → f a ≤ suc (n s)) → (s : S) → IsSizedFrom (n s) (machine first step s) f
sized_machine_from first step n f on ends s = record { size = λ us a w. machine_size step n f on ends us s a w }

-- where each value is no larger than one
pub sized_machine : {T S A : Type 0} (first : List ℕ) (step : S → T → TokenMove S A) (f : A → ℕ) → ((a : A) → f a ≤ 1) → (s : S) → IsSized (machine first step s) f
sized_machine first step f le s = sized_at_zero (sized_machine_from first step (λ m. 0) f (λ s m t e. omega arith) (λ s t a e. le a) s)

pub sized_labelled : {T A : Type 0} (s : PhraseShape) {r : Row T A} {f : A → ℕ} → IsSized r f → IsSized (labelled s r) f
sized_labelled s h = record { size = h.size }

pub sized_deep : {T A : Type 0} (s : PhraseShape) (m : Row T A → Row T A) (f : A → ℕ) → ((r : Row T A) → IsSized (labelled s r) f → IsSized (m (labelled s r)) f) → (n : ℕ) → IsSized (deep s m n) f
sized_deep s m f h zero = sized_fail s f
sized_deep s m f h (suc n) = h (deep s m n) (sized_labelled s (sized_deep s m f h n))
