-- What rules that are asked do to a walk that breaks one already.
use Rattle.std.proofs.Common.{◌≡◌, ◌≤◌, ◌<◌, ℕ, min, Bool, true, false, List, [], ◌∷◌, Option, Some, None, refl, sym, ap, ◌∙◌, arith}
use Rattle.record_table.specs.Walk.{Walk, going, stopped, ask, break, next}
use Rattle.record_read.specs.Reader.{IsBroken, IsBrokenBy, IsReader, walk_of, is_broken, is_stopped}

least_some : (rule limit r : ℕ) → limit < rule → r ≤ limit → min rule r ≡ r
least_some rule limit r more less = omega arith

-- a rule that is greater than one that is broken tells nothing more
pub tells_no_more : (rule limit : ℕ) (b : Bool) (w : Walk) → limit < rule → IsBrokenBy limit w → ask rule b w ≡ w
tells_no_more rule limit true w more h = refl
tells_no_more rule limit false (going rest None) more h = absurd h
tells_no_more rule limit false (going rest (Some r)) more h = ap (λ n. going rest (Some n)) (least_some rule limit r more h)
tells_no_more rule limit false (stopped broken) more h = refl

-- what is broken by such a rule is broken
pub is_broken_by : (limit : ℕ) (w : Walk) → IsBrokenBy limit w → IsBroken w
is_broken_by limit (going rest None) h = absurd h
is_broken_by limit (going rest (Some r)) h = refl
is_broken_by limit (stopped None) h = absurd h
is_broken_by limit (stopped (Some r)) h = refl

min_less : (rule r limit : ℕ) → r ≤ limit → min rule r ≤ limit
min_less rule r limit h = omega arith

-- it stays so while rules are asked
pub still_by : (rule limit : ℕ) (b : Bool) (w : Walk) → IsBrokenBy limit w → IsBrokenBy limit (ask rule b w)
still_by rule limit true w h = h
still_by rule limit false (going rest None) h = absurd h
still_by rule limit false (going rest (Some r)) h = min_less rule r limit h
still_by rule limit false (stopped broken) h = h

-- and while operands are taken
pub next_by : (limit : ℕ) (w : Walk) → IsBrokenBy limit w → IsBrokenBy limit (next w).1
unfolding next
next_by limit (going [] None) h = absurd h
next_by limit (going [] (Some r)) h = min_less 1 r limit h
next_by limit (going (n ∷ rest) broken) h = h
next_by limit (stopped broken) h = h

min_own : (rule r : ℕ) → min rule r ≤ rule
min_own rule r = omega arith

-- a rule that is asked in vain is broken, or one below it, as long as what follows is known
pub asked_in_vain : (rule : ℕ) (w : Walk) → is_stopped w ≡ false → IsBrokenBy rule (ask rule false w)
asked_in_vain rule (going rest None) h = omega arith
asked_in_vain rule (going rest (Some r)) h = min_own rule r
asked_in_vain rule (stopped broken) h = absurd (cc)

-- a reader that stops has a broken rule
pub stops_broken : (is_over : Bool) (broken : Option ℕ) (operands : List ℕ) → IsReader is_over broken → is_stopped (walk_of is_over broken operands) ≡ true → is_broken (walk_of is_over broken operands) ≡ true
stops_broken true broken operands h is = h refl
stops_broken false broken operands h is = absurd (cc)

-- a rule is broken where one is told, in a walk that stops only so
pub break_broken : (rule : ℕ) (w : Walk) → (is_stopped (break rule w) ≡ true → is_broken (break rule w) ≡ true) → is_broken (break rule w) ≡ true
break_broken rule (going rest None) h = refl
break_broken rule (going rest (Some r)) h = refl
break_broken rule (stopped broken) h = h refl

pub refused_broken : (rule : ℕ) (w v : Walk) → v ≡ break rule w → (is_stopped v ≡ true → is_broken v ≡ true) → is_broken v ≡ true
refused_broken rule w v is h = rw is (break_broken rule w (λ stops. sym (ap is_broken is) ∙ h (ap is_stopped is ∙ stops)))
