-- A rule that is broken stays so, whatever is read behind it.
use Rattle.std.proofs.Common.{◌≡◌, ℕ, zero, suc, Bool, true, false, [], ◌∷◌, Some, None, Result, Ok, Err, IfOk, refl, ap, ◌∙◌}
use Rattle.std.specs.Prelude.{nat_lt}
use Rattle.record_table.specs.Walk.{Walk, going, stopped, ask, stop, next}
use Rattle.record_table.specs.Layout.{many}
use Rattle.record_table.specs.Fields.{byte, text}
use Rattle.record_read.specs.Reader.{IsBroken, is_broken, is_stopped}

pub next_still : (w : Walk) → IsBroken w → IsBroken (next w).1
unfolding next
next_still (going [] None) h = absurd (cc)
next_still (going [] (Some r)) h = refl
next_still (going (n ∷ rest) broken) h = h
next_still (stopped broken) h = h

pub ask_still : (rule : ℕ) (b : Bool) (w : Walk) → IsBroken w → IsBroken (ask rule b w)
ask_still rule true w h = h
ask_still rule false (going rest None) h = refl
ask_still rule false (going rest (Some r)) h = refl
ask_still rule false (stopped broken) h = h

pub stop_still : (rule : ℕ) (w : Walk) → IsBroken w → IsBroken (stop rule w)
stop_still rule (going rest None) h = refl
stop_still rule (going rest (Some r)) h = refl
stop_still rule (stopped broken) h = h

stop_stops : (rule : ℕ) (w : Walk) → is_stopped (stop rule w) ≡ true
stop_stops rule (going rest broken) = refl
stop_stops rule (stopped broken) = refl

pub many_still : {A : Type 0} (one : Walk → A × Walk) → ((w : Walk) → IsBroken w → IsBroken (one w).1) → (n : ℕ) (w : Walk) → IsBroken w → IsBroken (many one n w).1
unfolding many
many_still one each zero w h = h
many_still one each (suc n) (stopped broken) h = h
many_still one each (suc n) (going rest broken) h = many_still one each n (one (going rest broken)).1 (each (going rest broken) h)

-- bytes behind their count
pub text_still : (w : Walk) → IsBroken w → IsBroken (text.read w).1
text_still w h = many_still byte.read (λ v b. ask_still 3 (nat_lt (next v).0 256) (next v).1 (next_still v b)) (next w).0 (next w).1 (next_still w h)

-- a reader that was stopped has a broken rule
pub stop_broken : (rule : ℕ) (w v : Walk) → v ≡ stop rule w → (is_stopped v ≡ true → is_broken v ≡ true) → IsBroken v
stop_broken rule w v is h = h (ap is_stopped is ∙ stop_stops rule w)

-- a rule that is asked in vain is broken, where a walk stops only so
pub vain_broken : (rule : ℕ) (w v : Walk) → v ≡ ask rule false w → (is_stopped v ≡ true → is_broken v ≡ true) → IsBroken v
vain_broken rule (going rest None) v is h = ap is_broken is
vain_broken rule (going rest (Some r)) v is h = ap is_broken is
vain_broken rule (stopped broken) v is h = h (ap is_stopped is)

-- what holds of an answer, from what holds of it
pub ok_by : {A E : Type 0} (r : Result A E) (P Q : A → Type 0) → IfOk r P → ((x : A) → P x → Q x) → IfOk r Q
ok_by (Ok x) P Q h f = f x h
ok_by (Err e) P Q h f = tt
