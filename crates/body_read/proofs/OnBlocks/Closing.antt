-- A record that is finished answers as its rules say.
use Rattle.std.proofs.Common.{◌≡◌, ◌≤◌, ◌-◌, ℕ, suc, min, Bool, true, false, [], ◌∷◌, Option, Some, None, refl, sym, ap, ◌∙◌, arith}
use Rattle.std.specs.Prelude.{Result, Ok, Err, OnOk}
use Rattle.record_table.specs.Walk.{Walk, going, stopped, least, told}
use Rattle.record_table.specs.Faults.{Answer, also, unless_broken}
use Rattle.record_law.proofs.OnLabels.Kept.{also_held}
use Rattle.record_read.specs.declared.fault.BitcodeFault.{BitcodeFault}
use Rattle.record_read.specs.declared.fault.BitcodeFault.TheVariants as fault
use Rattle.record_read.specs.Faults.{Answers, Finishes}
use Rattle.record_read.specs.Reader.{Reader, IsAtMost, IsBroken, IsBrokenBy, also_asked, is_broken}

least_swap : (a b : ℕ) (o : Option ℕ) → least a (least b o) ≡ least b (least a o)
least_swap a b None = ap (λ n. Some n) (swapped a b)
  where
    swapped : (a b : ℕ) → min a b ≡ min b a
    swapped a b = omega arith
least_swap a b (Some r) = ap (λ n. Some n) (swapped a b r)
  where
    swapped : (a b r : ℕ) → min a (min b r) ≡ min b (min a r)
    swapped a b r = omega arith

-- a rule that the record as a whole breaks is told with those that its operands break
pub told_also : (rule : ℕ) (b : Bool) (w : Walk) → told (also_asked rule b w) ≡ also rule b (told w)
told_also rule true w = refl
told_also rule false (going [] broken) = refl
told_also rule false (going (n ∷ rest) broken) = least_swap 1 rule broken
told_also rule false (stopped broken) = refl

pub told_broken : (w : Walk) → IsBroken w → told w ≡ None → ⊥
told_broken (going [] None) h e = cc
told_broken (going [] (Some r)) h e = cc
told_broken (going (n ∷ rest) None) h e = cc
told_broken (going (n ∷ rest) (Some r)) h e = cc
told_broken (stopped None) h e = cc
told_broken (stopped (Some r)) h e = cc

pub told_unbroken : (w : Walk) → told w ≡ None → is_broken w ≡ false
told_unbroken (going [] None) e = refl
told_unbroken (going [] (Some r)) e = cc
told_unbroken (going (n ∷ rest) None) e = refl
told_unbroken (going (n ∷ rest) (Some r)) e = cc
told_unbroken (stopped None) e = refl
told_unbroken (stopped (Some r)) e = cc

pub told_low : (w : Walk) → IsBrokenBy 4 w → IsAtMost 4 (told w)
told_low (going [] None) h = absurd h
told_low (going [] (Some r)) h = h
told_low (going (n ∷ rest) None) h = absurd h
told_low (going (n ∷ rest) (Some r)) h = omega arith
told_low (stopped None) h = absurd h
told_low (stopped (Some r)) h = h

in_vain : (b : Bool) (o : Option ℕ) → IsAtMost 4 o → also 4 b o ≡ o
in_vain true o h = refl
in_vain false None h = absurd h
in_vain false (Some r) h = ap (λ n. Some n) (least_is r h)
  where
    least_is : (r : ℕ) → r ≤ 4 → min 4 r ≡ r
    least_is r h = omega arith

-- where a rule up to 4 is broken, rule 4 tells nothing more
pub vain_both : (b c : Bool) (w : Walk) → IsBrokenBy 4 w → also 4 b (told w) ≡ also 4 c (told w)
vain_both b c w h = in_vain b (told w) (told_low w h) ∙ sym (in_vain c (told w) (told_low w h))

pub finished : {A : Type 0} (means : Unit {0} → A → Type 0) (id at : ℕ) (r : Reader) (rules : Option ℕ) (value : A) (result : Result (Unit {0}) BitcodeFault)
    → r.at ≡ suc at → told r.walk ≡ rules → Finishes id r result → (rules ≡ None → means tt value) → Answers means (unless_broken id at rules value) result
finished means id at r None value (Ok done) place is f keep = keep refl
finished means id at r None value (Err given) place is f keep = let never = rw is at f in absurd never
finished means id at r (Some rule) value (Ok done) place is f keep = let never = rw is at f in absurd never
finished means id at r (Some rule) value (Err given) place is f keep =
    let told_so = rw is at f in
    memory_or given (told_so ∙ ap (λ n. fault.BadRecord id n rule) (before r.at at place))
  where
    before : (n at : ℕ) → n ≡ suc at → n - 1 ≡ at
    before n at e = omega arith

    memory_or : (g : BitcodeFault) → g ≡ fault.BadRecord id at rule → Answers means (unless_broken id at (Some rule) value) (Err g)
    memory_or (fault.Bit b) e = e
    memory_or fault.ForeignProducer e = e
    memory_or (fault.BadVersion v) e = e
    memory_or (fault.UnknownRecord i c) e = e
    memory_or (fault.BadRecord i n k) e = e
    memory_or fault.Memory e = tt

-- what is known is known where there is no error
pub when_ok : {A E P : Type 0} (result : Result A E) → P → OnOk result P
when_ok (Ok value) p = p
when_ok (Err e) p = tt

-- want of memory answers whatever the records say
pub out_of_memory : {A B : Type 0} (means : B → A → Type 0) (answer : Answer A) (given : BitcodeFault) → given ≡ fault.Memory → Answers means answer (Err given)
out_of_memory means (Ok value) given is = is
out_of_memory means (Err told) given is = rw is tt

-- a record of which rules 4 and 5 are asked as a whole answers as it is told
pub closes : {A : Type 0} (means : Unit {0} → A → Type 0) (at : ℕ) (q four_asked five_asked : Reader) (four four_so five five_so : Bool) (broken : Option ℕ) (value : A) (result : Result (Unit {0}) BitcodeFault)
    → q.at ≡ suc at → four_asked ≡ record q { walk = also_asked 4 four q.walk } → five_asked ≡ record four_asked { walk = also_asked 5 five four_asked.walk } → five ≡ five_so → also 4 four (told q.walk) ≡ also 4 four_so (told q.walk)
    → told q.walk ≡ broken → Finishes 12 five_asked result → (broken ≡ None → four_so ≡ true → five_so ≡ true → means tt value) → Answers means (unless_broken 12 at (also 5 five_so (also 4 four_so broken)) value) result
closes means at q four_asked five_asked four four_so five five_so broken value result place one two five_is four_is told_is f keep =
    finished means 12 at five_asked (also 5 five_so (also 4 four_so broken)) value result
    (ap (λ (r : Reader). r.at) two ∙ (ap (λ (r : Reader). r.at) one ∙ place))
    (ap (λ (r : Reader). told r.walk) two ∙ (told_also 5 five four_asked.walk ∙ (λ j. also 5 (five_is j) (fours j)))) f
    (λ none. let held = also_held 5 five_so (also 4 four_so broken) none in let more = also_held 4 four_so broken held.1 in keep more.1 more.0 held.0)
  where
    fours : told four_asked.walk ≡ also 4 four_so broken
    fours = ap (λ (r : Reader). told r.walk) one ∙ (told_also 4 four q.walk ∙ (four_is ∙ ap (also 4 four_so) told_is))
