-- In a run the output grows at its end, and the input is taken from its front.
use Rattle.std.proofs.Common.{◌≡◌, ℕ, zero, suc, ◌+◌, ◌<◌, ◌≤◌, true, List, [], ◌∷◌, ◌++◌, length, Option, Some, None, ◌⊎◌, inl, inr, refl, sym, ap, ◌∙◌, append_assoc, subst, arith}
use Rattle.std.proofs.lemmas.List.{append-nil}
use Rattle.run_rules.specs.Action.{Action}
use Rattle.run_rules.specs.Calls.{Callee}
use Rattle.run_rules.specs.Clauses.{IsFront, told}
use Rattle.run_rules.specs.Due.{called_due}
use Rattle.run_rules.specs.declared.end.End.{End}
use Rattle.run_rules.specs.declared.end.End.TheVariants.{StepsUsed}
use Rattle.run_rules.specs.State.{Frame, Due, Core, State, Next, Goes, Gets, Stops}
use Rattle.run_rules.specs.Step.{Step, GoesOn, IsOver, carried, took, then_on, called_while_idle, entered, counted, next_of, step, used_up, advanced}
use Rattle.run_rules.specs.Wants.{gets, asks_in, asks}

-- from one state to a later one
pub record Grows (s t : State) : Type 0 where
  pub written : IsFront s.output t.output
  pub taken : length t.input ≤ length s.input

pub grows_none : (s : State) → Grows s s
grows_none s = record { written = ([], sym (append-nil s.output)); taken = omega arith }

pub grows_more : (s t u : State) → Grows s t → Grows t u → Grows s u
grows_more s t u g h =
    record {
      written = (g.written.0 ++ h.written.0, h.written.1 ∙ ap (λ (ys : List ℕ). ys ++ h.written.0) g.written.1 ∙ append_assoc s.output g.written.0 h.written.0);
      taken = omega (arith, g.taken, h.taken);
    }

-- the state after a step, where it goes on
abbrev pub AndGrows : State → Step → Type 0
AndGrows s (GoesOn t) = Grows s t
AndGrows s (IsOver end t) = Unit {0}

took_grows : (s : State) (to : ℕ) (c : Core) (input : List ℕ) → s.input ≡ input → AndGrows s (took s to c input)
took_grows s to c [] h = record { written = ([], sym (append-nil s.output)); taken = omega arith }
took_grows s to c (byte ∷ input) h = record { written = ([], sym (append-nil s.output)); taken = rw h (omega arith) }

carried_grows : (s : State) (n : Next) → AndGrows s (carried s n)
carried_grows s (Goes c written) = record { written = (written, refl); taken = omega arith }
carried_grows s (Gets to c) = took_grows s to c s.input refl
carried_grows s (Stops end) = tt

then_grows : (s : State) (x : Step) (f : State → Step) → AndGrows s x → ((t : State) → AndGrows t (f t)) → AndGrows s (then_on f x)
then_grows s (GoesOn t) f g h = go (f t) (h t)
  where
    go : (x : Step) → AndGrows t x → AndGrows s x
    go (GoesOn u) k = grows_more s t u g k
    go (IsOver end u) k = tt
then_grows s (IsOver end t) f g h = tt

idle_grows : (table : ℕ → Callee) (due : List Due) (frames : List Frame) (s : State) → AndGrows s (called_while_idle table due frames s)
idle_grows table [] frames s = grows_none s
idle_grows table (d ∷ ds) (f ∷ fs) s = grows_none s
idle_grows table (d ∷ ds) [] s =
    then_grows s (carried s (called_due table d (record s.core { due = ds }))) (λ t. called_while_idle table ds t.core.frames t)
    (carried_grows s (called_due table d (record s.core { due = ds }))) (λ t. idle_grows table ds t.core.frames t)

pub entered_grows : (table : ℕ → Callee) (s : State) → AndGrows s (entered table s)
entered_grows table s = idle_grows table s.core.due s.core.frames s

counted_grows : (t : State) (x : Step) → AndGrows (counted t) x → AndGrows t x
counted_grows t (GoesOn u) g = record { written = g.written; taken = g.taken }
counted_grows t (IsOver end u) g = tt

pub step_grows : (look : ℕ → ℕ → ℕ → Action) (table : ℕ → Callee) (s : State) → AndGrows s (step look table s)
step_grows look table s =
    then_grows s (entered table s) (λ t. carried (counted t) (next_of look table t.core)) (entered_grows table s)
    (λ t. counted_grows t (carried (counted t) (next_of look table t.core)) (carried_grows (counted t) (next_of look table t.core)))

pub advanced_grows : (look : ℕ → ℕ → ℕ → Action) (table : ℕ → Callee) (n : ℕ) (s : State) → AndGrows s (advanced look table n s)
unfolding advanced
advanced_grows look table zero s = grows_none s
advanced_grows look table (suc n) s = then_grows s (step look table s) (advanced look table n) (step_grows look table s) (λ t. advanced_grows look table n t)

-- the later of two states of one run
pub later_grows : (look : ℕ → ℕ → ℕ → Action) (table : ℕ → Callee) (n m : ℕ) (s t u : State) → n ≤ m
    → advanced look table n s ≡ GoesOn t → advanced look table m s ≡ GoesOn u → Grows t u
unfolding advanced
later_grows look table zero m s t u l h k = subst (AndGrows t) k (subst (λ x. AndGrows t (advanced look table m x)) (sym (same_state s t h)) (advanced_grows look table m t))
  where
    same_state : (a b : State) → GoesOn a ≡ GoesOn b → a ≡ b
    same_state a b e = cc
later_grows look table (suc n) zero s t u l h k = let none : ⊥ = omega (arith, l) in absurd none
later_grows look table (suc n) (suc m) s t u l h k = go (step look table s) h k (λ v i j. later_grows look table n m v t u (omega (arith, l)) i j)
  where
    go : (x : Step) → then_on (advanced look table n) x ≡ GoesOn t → then_on (advanced look table m) x ≡ GoesOn u
        → ((v : State) → advanced look table n v ≡ GoesOn t → advanced look table m v ≡ GoesOn u → Grows t u) → Grows t u
    go (GoesOn v) i j more = more v i j
    go (IsOver end v) i j more = cc

-- GETCHAR

took_takes : (v : State) (to : ℕ) (c : Core) (input : List ℕ) (t : State) → v.input ≡ input → took v to c input ≡ GoesOn t → (length t.input < length v.input) ⊎ (length t.input ≡ 0)
took_takes v to c [] t h e = inr (ap (λ x. left_by x) (sym e) ∙ ap length h)
  where
    left_by : Step → ℕ
    left_by (GoesOn u) = length u.input
    left_by (IsOver end u) = 0
took_takes v to c (byte ∷ input) t h e = inl (rw h (subst (λ n. n < suc (length input)) (ap (λ x. left_by x) e) (omega arith)))
  where
    left_by : Step → ℕ
    left_by (GoesOn u) = length u.input
    left_by (IsOver end u) = 0

gets_takes : (v : State) (n : Next) (t : State) → gets n ≡ true → carried v n ≡ GoesOn t → (length t.input < length v.input) ⊎ (length t.input ≡ 0)
gets_takes v (Goes c written) t g e = cc
gets_takes v (Gets to c) t g e = took_takes v to c v.input t refl e
gets_takes v (Stops end) t g e = cc

-- a getchar takes a byte, where one is left
pub asked_takes : (look : ℕ → ℕ → ℕ → Action) (table : ℕ → Callee) (s t : State) → asks look table s ≡ true → 0 < length s.input → step look table s ≡ GoesOn t → length t.input < length s.input
asked_takes look table s t a some e = go (entered table s) (entered_grows table s) a e
  where
    less : (v : State) → length v.input ≤ length s.input → (length t.input < length v.input) ⊎ (length t.input ≡ 0) → length t.input < length s.input
    less v g (inl l) = omega (arith, l, g)
    less v g (inr z) = omega (arith, z, some)

    go : (x : Step) → AndGrows s x → asks_in look table x ≡ true → then_on (λ v. carried (counted v) (next_of look table v.core)) x ≡ GoesOn t → length t.input < length s.input
    go (GoesOn v) g b k = less v g.taken (gets_takes (counted v) (next_of look table v.core) t b k)
    go (IsOver end v) g b k = cc

-- STEPS ARE COUNTED

-- so many steps later where the run goes on, and no fewer where it is over
abbrev Counts : ℕ → State → Step → Type 0
Counts n s (GoesOn t) = t.steps ≡ s.steps + n
Counts n s (IsOver end t) = s.steps ≤ t.steps

took_counts : (s : State) (to : ℕ) (c : Core) (input : List ℕ) → Counts 0 s (took s to c input)
took_counts s to c [] = omega arith
took_counts s to c (byte ∷ input) = omega arith

carried_counts : (s : State) (n : Next) → Counts 0 s (carried s n)
carried_counts s (Goes c written) = omega arith
carried_counts s (Gets to c) = took_counts s to c s.input
carried_counts s (Stops end) = omega arith

then_counts : (n : ℕ) (s : State) (x : Step) (f : State → Step) → Counts 0 s x → ((t : State) → Counts n t (f t)) → Counts n s (then_on f x)
then_counts n s (GoesOn t) f g h = go (f t) (h t)
  where
    go : (x : Step) → Counts n t x → Counts n s x
    go (GoesOn u) k = omega (arith, g, k)
    go (IsOver end u) k = omega (arith, g, k)
then_counts n s (IsOver end t) f g h = g

idle_counts : (table : ℕ → Callee) (due : List Due) (frames : List Frame) (s : State) → Counts 0 s (called_while_idle table due frames s)
idle_counts table [] frames s = omega arith
idle_counts table (d ∷ ds) (f ∷ fs) s = omega arith
idle_counts table (d ∷ ds) [] s =
    then_counts 0 s (carried s (called_due table d (record s.core { due = ds }))) (λ t. called_while_idle table ds t.core.frames t)
    (carried_counts s (called_due table d (record s.core { due = ds }))) (λ t. idle_counts table ds t.core.frames t)

counted_counts : (t : State) (x : Step) → Counts 0 (counted t) x → Counts 1 t x
counted_counts t (GoesOn u) g = omega (arith, g)
counted_counts t (IsOver end u) g = omega (arith, g)

step_counts : (look : ℕ → ℕ → ℕ → Action) (table : ℕ → Callee) (s : State) → Counts 1 s (step look table s)
step_counts look table s =
    then_counts 1 s (entered table s) (λ t. carried (counted t) (next_of look table t.core)) (idle_counts table s.core.due s.core.frames s)
    (λ t. counted_counts t (carried (counted t) (next_of look table t.core)) (carried_counts (counted t) (next_of look table t.core)))

pub step_adds_one : (look : ℕ → ℕ → ℕ → Action) (table : ℕ → Callee) (s t : State) → step look table s ≡ GoesOn t → t.steps ≡ s.steps + 1
step_adds_one look table s t e = subst (Counts 1 s) e (step_counts look table s)

-- THE STEPS AT THE END

-- the steps that are told
abbrev steps_told : Option (End × List ℕ × ℕ) → ℕ
steps_told None = 0
steps_told (Some x) = x.2

told_later : (n : ℕ) (s : State) (x : Step) (end : End) (written : List ℕ) (k : ℕ) → Counts n s x → told x ≡ Some (end, written, k) → s.steps ≤ k
told_later n s (GoesOn t) end written k c e = cc
told_later n s (IsOver other t) end written k c e = subst (λ m. s.steps ≤ m) (ap steps_told e) c

pub step_ends_later : (look : ℕ → ℕ → ℕ → Action) (table : ℕ → Callee) (s : State) (end : End) (written : List ℕ) (k : ℕ) → told (step look table s) ≡ Some (end, written, k) → s.steps ≤ k
step_ends_later look table s end written k e = told_later 1 s (step look table s) end written k (step_counts look table s) e

pub used_up_later : (table : ℕ → Callee) (s : State) (end : End) (written : List ℕ) (k : ℕ) → told (used_up table s) ≡ Some (end, written, k) → s.steps ≤ k
used_up_later table s end written k e =
    told_later 0 s (used_up table s) end written k (then_counts 0 s (entered table s) (IsOver StepsUsed) (idle_counts table s.core.due s.core.frames s) (λ t. omega arith)) e
