-- What is said of steps one by one, said of several.
use Rattle.std.proofs.Common.{◌≡◌, ℕ, zero, suc, ◌<◌, Bool, true, false, List, [], ◌++◌, Option, Some, None, IfSome, subst, inl, inr, refl, sym, ap, ◌∙◌, append_assoc, arith}
use Rattle.std.proofs.lemmas.List.{append-nil}
use Rattle.std.proofs.lemmas.Bool.{false≢true}
use Rattle.ir_base.specs.Outside.{Lost, Added}
use Rattle.run_rules.specs.Action.{Action}
use Rattle.run_rules.specs.Calls.{Callee}
use Rattle.run_rules.specs.Clauses.{Outside, Traffic, Reads, IsRest, IsAtEnd, Stepped, told}
use Rattle.run_rules.specs.Machine.{Machine, state_of, step_of, advanced_of}
use Rattle.run_rules.specs.RunClauses.{Reached}
use Rattle.run_rules.specs.declared.end.End.{End}
use Rattle.run_rules.specs.State.{State}
use Rattle.run_rules.specs.Step.{Step, GoesOn, IsOver, then_on, step, advanced}

pub lost_none : (l : Option (List ℕ)) → Lost l l []
lost_none None = refl
lost_none (Some xs) = refl

pub added_none : (t : Option (List ℕ)) → Added t t []
added_none None = refl
added_none (Some xs) = ap (λ (ys : List ℕ). Some ys) (sym (append-nil xs))

-- STEPS, ONE BY ONE

pub advanced_one : (look : ℕ → ℕ → ℕ → Action) (table : ℕ → Callee) (n : ℕ) (s : State) → advanced look table (suc n) s ≡ then_on (step look table) (advanced look table n s)
unfolding advanced
advanced_one look table zero s = go (step look table s)
  where
    go : (x : Step) → then_on (advanced look table zero) x ≡ x
    go (GoesOn t) = refl
    go (IsOver end t) = refl
advanced_one look table (suc n) s = go (step look table s) (λ t. advanced_one look table n t)
  where
    go : (x : Step) → ((t : State) → advanced look table (suc n) t ≡ then_on (step look table) (advanced look table n t))
        → then_on (advanced look table (suc n)) x ≡ then_on (step look table) (then_on (advanced look table n) x)
    go (GoesOn t) more = more t
    go (IsOver end t) more = refl

-- THE REST OF THE INPUT

pub stays_closed : (old new : Machine) (t : Traffic) (after : Outside) → Reads old new t after → old.closed ≡ true → (new.closed ≡ true) × (t.heard ≡ [])
stays_closed old new t after (inl h) c = (h.1 ∙ c, h.0)
stays_closed old new t after (inr r) c = absurd (false≢true (sym r.was_open ∙ c))

pub rest_before : (old mid new : Machine) (t : Traffic) (after : Outside) (rest : List ℕ) → Reads mid new t after → IsRest old new rest → IsRest old mid (t.heard ++ rest)
rest_before old mid new t after rest r h o m =
    let c = stays_closed mid new t after r m in
    ap (λ (xs : List ℕ). xs ++ rest) c.1 ∙ h o c.0

pub rest_after : (old mid new : Machine) (rest : List ℕ) → (old.closed ≡ true → mid.closed ≡ true) → IsRest old new rest → IsRest mid new rest
rest_after old mid new rest stays h m n = go old.closed refl
  where
    go : (b : Bool) → old.closed ≡ b → rest ≡ []
    go false o = h o n
    go true o = absurd (false≢true (sym m ∙ stays o))

-- where nothing is read, the source has none left still
none_left : (l m : Option (List ℕ)) → Lost l m [] → IfSome l (λ rest. rest ≡ []) → IfSome m (λ rest. rest ≡ [])
none_left l None h k = tt
none_left l (Some xs) h k = subst (λ o. IfSome o (λ rest. rest ≡ [])) h k

pub at_end_more : (old mid new : Machine) (t : Traffic) (b c : Outside) → IsAtEnd old mid b → Lost b.left c.left t.heard → Reads mid new t c → IsAtEnd old new c
at_end_more old mid new t b c e l r o n = go mid.closed refl r
  where
    go : (m : Bool) → mid.closed ≡ m → Reads mid new t c → IfSome c.left (λ rest. rest ≡ [])
    go false m (inl h) = absurd (false≢true (sym m ∙ sym h.1 ∙ n))
    go false m (inr q) = q.at_end n
    go true m h = none_left b.left c.left (subst (λ (xs : List ℕ). Lost b.left c.left xs) (stays_closed mid new t c r m).1 l) (e o m)

-- A STEP MORE

-- the states that two machines stand for, one of which came from the other
pub steps_more : (n : ℕ) (old mid new : Machine) (a b c : Outside) (r : Reached n old mid a b) (s : Stepped mid new b c) (rest taken : List ℕ) → IsRest old new rest
    → advanced_of old (suc n) (state_of old ((r.traffic.heard ++ s.traffic.heard) ++ rest) taken) ≡ GoesOn (state_of new rest (taken ++ (r.traffic.flushed ++ s.traffic.flushed)))
steps_more n old mid new a b c r s rest taken h =
    let first : Traffic = r.traffic in
    let second : Traffic = s.traffic in
    advanced_one _ _ n (state_of old ((first.heard ++ second.heard) ++ rest) taken)
    ∙ ap (λ (xs : List ℕ). then_on (step_of old) (advanced_of old n (state_of old xs taken))) (append_assoc first.heard second.heard rest)
    ∙ ap (then_on (step_of old)) (r.steps (second.heard ++ rest) taken (rest_before old mid new second c rest s.reads h))
    ∙ ap (λ m. step_of (record old { program = m }) (state_of mid (second.heard ++ rest) (taken ++ first.flushed))) (sym r.went.same)
    ∙ s.steps rest (taken ++ first.flushed) (rest_after old mid new rest (λ o. (r.went.stays o).0) h)
    ∙ ap (λ (ys : List ℕ). GoesOn (state_of new rest ys)) (append_assoc taken first.flushed second.flushed)

-- THE END

pub told_stays : (f : State → Step) (x : Step) (y : End × List ℕ × ℕ) → told x ≡ Some y → told (then_on f x) ≡ Some y
told_stays f (GoesOn s) y h = cc
told_stays f (IsOver end s) y h = h

pub advanced_told : (look : ℕ → ℕ → ℕ → Action) (table : ℕ → Callee) (n m : ℕ) (s t : State) (y : End × List ℕ × ℕ) → n < m
    → advanced look table n s ≡ GoesOn t → told (step look table t) ≡ Some y → told (advanced look table m s) ≡ Some y
unfolding advanced
advanced_told look table n zero s t y l h e = let none : ⊥ = omega (arith, l) in absurd none
advanced_told look table zero (suc m) s t y l h e = told_stays (advanced look table m) (step look table s) y (ap (λ x. told (then_on (step look table) x)) h ∙ e)
advanced_told look table (suc n) (suc m) s t y l h e = go (step look table s) h (λ v k. advanced_told look table n m v t y (omega (arith, l)) k e)
  where
    go : (x : Step) → then_on (advanced look table n) x ≡ GoesOn t
        → ((v : State) → advanced look table n v ≡ GoesOn t → told (advanced look table m v) ≡ Some y) → told (then_on (advanced look table m) x) ≡ Some y
    go (GoesOn v) k more = more v k
    go (IsOver end v) k more = cc
