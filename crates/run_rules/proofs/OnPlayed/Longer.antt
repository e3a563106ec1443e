-- A run whose input has one byte more is the same until that byte is taken, and from then on none is left. So the first getchar that finds bytes used up is
-- known.
use Rattle.std.proofs.Common.{◌≡◌, ◌⊎◌, inl, inr, ℕ, zero, suc, ◌+◌, ◌<◌, ◌≤◌, true, List, [], ◌∷◌, ◌++◌, length, Some, None, refl, sym, ap, ◌∙◌, subst, arith}
use Rattle.std.proofs.lemmas.List.{append-nil, length-append}
use Rattle.run_rules.specs.Action.{Action}
use Rattle.run_rules.specs.Calls.{Callee}
use Rattle.run_rules.specs.Clauses.{told}
use Rattle.run_rules.specs.Due.{called_due}
use Rattle.run_rules.specs.declared.end.End.{End}
use Rattle.run_rules.specs.Side.{begun}
use Rattle.run_rules.specs.State.{Frame, Due, Core, State, Next, Goes, Gets, Stops}
use Rattle.run_rules.specs.Step.{Step, GoesOn, IsOver, carried, took, then_on, called_while_idle, entered, counted, next_of, step, advanced}
use Rattle.run_rules.specs.Wants.{gets, asks_in, asks}
use Rattle.run_rules.proofs.OnLaws.Grows.{asked_takes, later_grows, step_adds_one}
use Rattle.run_rules.proofs.OnLaws.Reached.{advanced_one, advanced_told}
use Rattle.run_rules.proofs.OnPlayed.Fronts.{same_state}

none_some : (x : End × List ℕ × ℕ) → None ≡ Some x → ⊥
none_some x e = absurd cc

-- its input has one byte more
abbrev longer : State → State
longer s = record s { input = s.input ++ 0 ∷ [] }

-- ---- no byte is left

-- where the run goes on, no byte of the input is left
abbrev IsEmptied : Step → Type 0
IsEmptied (GoesOn u) = length u.input ≡ 0
IsEmptied (IsOver end u) = Unit {0}

took_empties : (s : State) (to : ℕ) (c : Core) (input : List ℕ) → s.input ≡ input → length input ≡ 0 → IsEmptied (took s to c input)
took_empties s to c [] h e = ap length h
took_empties s to c (byte ∷ input) h e = let none : ⊥ = omega (arith, e) in absurd none

carried_empties : (s : State) (n : Next) → length s.input ≡ 0 → IsEmptied (carried s n)
carried_empties s (Goes c written) e = e
carried_empties s (Gets to c) e = took_empties s to c s.input refl e
carried_empties s (Stops end) e = tt

then_empties : (x : Step) (f : State → Step) → IsEmptied x → ((u : State) → length u.input ≡ 0 → IsEmptied (f u)) → IsEmptied (then_on f x)
then_empties (GoesOn u) f e empties = empties u e
then_empties (IsOver end u) f e empties = tt

idle_empties : (table : ℕ → Callee) (due : List Due) (frames : List Frame) (s : State) → length s.input ≡ 0 → IsEmptied (called_while_idle table due frames s)
idle_empties table [] frames s e = e
idle_empties table (d ∷ ds) (f ∷ fs) s e = e
idle_empties table (d ∷ ds) [] s e =
    then_empties (carried s (called_due table d (record s.core { due = ds }))) (λ t. called_while_idle table ds t.core.frames t)
    (carried_empties s (called_due table d (record s.core { due = ds })) e) (λ u k. idle_empties table ds u.core.frames u k)

entered_empties : (table : ℕ → Callee) (s : State) → length s.input ≡ 0 → IsEmptied (entered table s)
entered_empties table s e = idle_empties table s.core.due s.core.frames s e

module _ (look : ℕ → ℕ → ℕ → Action) (table : ℕ → Callee) where
  step_empties : (s : State) → length s.input ≡ 0 → IsEmptied (step look table s)
  step_empties s e = then_empties (entered table s) (λ t. carried (counted t) (next_of look table t.core)) (entered_empties table s e) (λ u k. carried_empties (counted u) (next_of look table u.core) k)

  advanced_empties : (n : ℕ) (s : State) → length s.input ≡ 0 → IsEmptied (advanced look table n s)
  unfolding advanced
  advanced_empties zero s e = e
  advanced_empties (suc n) s e = then_empties (step look table s) (advanced look table n) (step_empties s e) (λ u k. advanced_empties n u k)

  emptied_later : (n m : ℕ) (s : State) → n ≤ m → IsEmptied (advanced look table n s) → IsEmptied (advanced look table m s)
  unfolding advanced
  emptied_later zero m s l e = advanced_empties m s e
  emptied_later (suc n) zero s l e = let none : ⊥ = omega (arith, l) in absurd none
  emptied_later (suc n) (suc m) s l e = go (step look table s) e (λ v k. emptied_later n m v (omega (arith, l)) k)
    where
      go : (x : Step) → IsEmptied (then_on (advanced look table n) x) → ((v : State) → IsEmptied (advanced look table n v) → IsEmptied (advanced look table m v)) → IsEmptied (then_on (advanced look table m) x)
      go (GoesOn v) k more = more v k
      go (IsOver end v) k more = tt

-- ---- one byte more

-- the second is the first with one byte more, or no byte is left
abbrev Follows : Step → Step → Type 0
Follows (GoesOn t) y = (y ≡ GoesOn (longer t)) ⊎ IsEmptied y
Follows (IsOver end t) y = Unit {0}

emptied_follows : (x y : Step) → IsEmptied y → Follows x y
emptied_follows (GoesOn t) y e = inr e
emptied_follows (IsOver end t) y e = tt

took_follows : (s : State) (to : ℕ) (c : Core) (input : List ℕ) → Follows (took s to c input) (took (longer s) to c (input ++ 0 ∷ []))
took_follows s to c [] = inr refl
took_follows s to c (byte ∷ input) = inl refl

carried_follows : (s : State) (n : Next) → Follows (carried s n) (carried (longer s) n)
carried_follows s (Goes c written) = inl refl
carried_follows s (Gets to c) = took_follows s to c s.input
carried_follows s (Stops end) = tt

then_follows : (x y : Step) (f : State → Step) → Follows x y → ((t : State) → Follows (f t) (f (longer t))) → ((u : State) → length u.input ≡ 0 → IsEmptied (f u)) → Follows (then_on f x) (then_on f y)
then_follows (GoesOn t) y f (inl e) follows empties = subst (λ (z : Step). Follows (f t) (then_on f z)) (sym e) (follows t)
then_follows (GoesOn t) (GoesOn u) f (inr e) follows empties = emptied_follows (f t) (f u) (empties u e)
then_follows (GoesOn t) (IsOver end u) f (inr e) follows empties = emptied_follows (f t) (IsOver end u) tt
then_follows (IsOver end t) y f h follows empties = tt

idle_follows : (table : ℕ → Callee) (due : List Due) (frames : List Frame) (s : State) → Follows (called_while_idle table due frames s) (called_while_idle table due frames (longer s))
idle_follows table [] frames s = inl refl
idle_follows table (d ∷ ds) (f ∷ fs) s = inl refl
idle_follows table (d ∷ ds) [] s =
    then_follows (carried s (called_due table d (record s.core { due = ds }))) (carried (longer s) (called_due table d (record s.core { due = ds }))) (λ t. called_while_idle table ds t.core.frames t)
    (carried_follows s (called_due table d (record s.core { due = ds }))) (λ t. idle_follows table ds t.core.frames t) (λ u e. idle_empties table ds u.core.frames u e)

entered_follows : (table : ℕ → Callee) (s : State) → Follows (entered table s) (entered table (longer s))
entered_follows table s = idle_follows table s.core.due s.core.frames s

took_last : (s : State) (to : ℕ) (c : Core) (input : List ℕ) → length input ≡ 0 → IsEmptied (took s to c (input ++ 0 ∷ []))
took_last s to c [] e = refl
took_last s to c (byte ∷ input) e = let none : ⊥ = omega (arith, e) in absurd none

gets_last : (v : State) (n : Next) → gets n ≡ true → length v.input ≡ 0 → IsEmptied (carried (longer v) n)
gets_last v (Goes c written) g e = cc
gets_last v (Gets to c) g e = took_last (longer v) to c v.input e
gets_last v (Stops end) g e = cc

module _ (look : ℕ → ℕ → ℕ → Action) (table : ℕ → Callee) where
  step_follows : (s : State) → Follows (step look table s) (step look table (longer s))
  step_follows s =
      then_follows (entered table s) (entered table (longer s)) (λ t. carried (counted t) (next_of look table t.core)) (entered_follows table s)
      (λ t. carried_follows (counted t) (next_of look table t.core)) (λ u e. carried_empties (counted u) (next_of look table u.core) e)

  advanced_follows : (n : ℕ) (s : State) → Follows (advanced look table n s) (advanced look table n (longer s))
  unfolding advanced
  advanced_follows zero s = inl refl
  advanced_follows (suc n) s =
      then_follows (step look table s) (step look table (longer s)) (advanced look table n) (step_follows s) (λ t. advanced_follows n t) (λ u e. advanced_empties look table n u e)

  -- a getchar that finds no byte takes the one that is more
  asked_empties : (o : State) → asks look table o ≡ true → length o.input ≡ 0 → IsEmptied (step look table (longer o))
  asked_empties o a e = go (entered table o) (entered table (longer o)) (entered_follows table o) a (entered_empties table o e)
    where
      f : State → Step
      f t = carried (counted t) (next_of look table t.core)

      go : (x y : Step) → Follows x y → asks_in look table x ≡ true → IsEmptied x → IsEmptied (then_on f y)
      go (GoesOn v) y (inl k) b none = subst (λ (z : Step). IsEmptied (then_on f z)) (sym k) (gets_last (counted v) (next_of look table v.core) b none)
      go (GoesOn v) y (inr k) b none = then_empties y f k (λ u i. carried_empties (counted u) (next_of look table u.core) i)
      go (IsOver end v) y h b none = cc

  -- so behind such a getchar the run with one byte more has none left
  emptied_behind : (n m : ℕ) (s o u : State) → n < m → advanced look table n s ≡ GoesOn o → asks look table o ≡ true → length o.input ≡ 0 → advanced look table m (longer s) ≡ GoesOn u → length u.input ≡ 0
  emptied_behind n m s o u l h a e k = subst IsEmptied k (emptied (subst (λ (x : Step). Follows x (advanced look table n (longer s))) h (advanced_follows n s)))
    where
      one_more : advanced look table n (longer s) ≡ GoesOn (longer o) → advanced look table (suc n) (longer s) ≡ step look table (longer o)
      one_more i = advanced_one look table n (longer s) ∙ ap (λ (x : Step). then_on (step look table) x) i

      emptied : Follows (GoesOn o) (advanced look table n (longer s)) → IsEmptied (advanced look table m (longer s))
      emptied (inl i) = emptied_later look table (suc n) m (longer s) (omega (arith, l)) (subst IsEmptied (sym (one_more i)) (asked_empties o a e))
      emptied (inr i) = emptied_later look table n m (longer s) (omega (arith, l)) i

  -- ---- the count of steps

  pub advanced_steps : (n : ℕ) (s t : State) → advanced look table n s ≡ GoesOn t → t.steps ≡ s.steps + n
  unfolding advanced
  advanced_steps zero s t h = subst (λ (u : State). u.steps ≡ s.steps + 0) (same_state s t h) (omega arith)
  advanced_steps (suc n) s t h = go (step look table s) refl h (λ v k. advanced_steps n v t k)
    where
      go : (x : Step) → step look table s ≡ x → then_on (advanced look table n) x ≡ GoesOn t → ((v : State) → advanced look table n v ≡ GoesOn t → t.steps ≡ v.steps + n) → t.steps ≡ s.steps + suc n
      go (GoesOn v) e k more = omega (arith, more v k, step_adds_one look table s v e)
      go (IsOver end v) e k more = cc

  -- a run that goes on later goes on now
  next_state : (n m : ℕ) (s o u : State) → n < m → advanced look table n s ≡ GoesOn o → advanced look table m s ≡ GoesOn u → (v : State) × (step look table o ≡ GoesOn v)
  next_state n m s o u l h k = go (step look table o) refl
    where
      go : (x : Step) → step look table o ≡ x → (v : State) × (step look table o ≡ GoesOn v)
      go (GoesOn v) e = (v, e)
      go (IsOver end v) e =
          let over : told (advanced look table m s) ≡ Some (end, v.output, v.steps) = advanced_told look table n m s o (end, v.output, v.steps) l h (ap told e) in
          let on : told (advanced look table m s) ≡ None = ap told k in
          absurd (none_some (end, v.output, v.steps) (sym on ∙ over))

-- Where a run comes to a getchar that finds the bytes `heard` used up, however many bytes follow, no getchar before it does.
pub none_earlier : (look : ℕ → ℕ → ℕ → Action) (table : ℕ → Callee) (c : Core) (heard rest : List ℕ) (n m : ℕ) (o : State)
    → ((xs : List ℕ) → (u : State) × (advanced look table m (begun c (heard ++ xs)) ≡ GoesOn u) × (u.input ≡ xs))
    → advanced look table n (begun c (heard ++ rest)) ≡ GoesOn o → asks look table o ≡ true → length (heard ++ rest) ≡ length heard + length o.input → n < m → ⊥
none_earlier look table c heard [] n m o more h a placed l =
    let u = more (0 ∷ []) in
    let same : heard ++ [] ≡ heard = append-nil heard in
    let e : length o.input ≡ 0 = omega (arith, placed, ap length same) in
    let k : advanced look table m (longer (begun c (heard ++ []))) ≡ GoesOn u.0 = subst (λ (xs : List ℕ). advanced look table m (begun c (xs ++ 0 ∷ [])) ≡ GoesOn u.0) (sym same) u.1 in
    let gone : length u.0.input ≡ 0 = emptied_behind look table n m (begun c (heard ++ [])) o u.0 l h a e k in
    let there : length u.0.input ≡ 1 = ap length u.2 in
    omega (arith, gone, there)
none_earlier look table c heard (r ∷ rs) n m o more h a placed l =
    let u = more (r ∷ rs) in
    let s = begun c (heard ++ r ∷ rs) in
    let v = next_state look table n m s o u.0 l h u.1 in
    let both : length (heard ++ r ∷ rs) ≡ length heard + suc (length rs) = length-append heard (r ∷ rs) in
    let some : length o.input ≡ suc (length rs) = omega (arith, placed, both) in
    let taken : length v.0.input < length o.input = asked_takes look table o v.0 a (omega (arith, some)) v.1 in
    let at : advanced look table (suc n) s ≡ GoesOn v.0 = advanced_one look table n s ∙ ap (λ (x : Step). then_on (step look table) x) h ∙ v.1 in
    let grown = later_grows look table (suc n) m s v.0 u.0 (omega (arith, l)) at u.1 in
    let there : length u.0.input ≡ suc (length rs) = ap length u.2 in
    omega (arith, taken, grown.taken, there, some)
