-- Rules that stay broken, rules that are low, and rules that are told of a whole record.
use Rattle.std.proofs.Common.{◌≡◌, ◌≤◌, ◌-◌, ℕ, zero, suc, min, Bool, true, false, [], ◌∷◌, Option, Some, None, refl, ap, ◌∙◌, arith}
use Rattle.std.specs.Prelude.{nat_lt, Result, Ok, Err}
use Rattle.record_table.specs.Walk.{Walk, going, stopped, least, ask, next, count_left, told}
use Rattle.record_table.specs.Layout.{many}
use Rattle.record_table.specs.Faults.{Answer, also, unless_broken}
use Rattle.record_table.specs.TypeRecords.{earlier, ir_type, struct_body, TypeKind, OfInt, OfPtr, OfVoid, OfArray, OfStruct, OfName}
use Rattle.record_read.specs.declared.fault.BitcodeFault.{BitcodeFault}
use Rattle.record_read.specs.declared.fault.BitcodeFault.TheVariants as fault
use Rattle.record_read.specs.Faults.{Answers, Finishes}
use Rattle.record_read.specs.Reader.{Reader, IsAtMost, IsBroken, IsBrokenBy, also_asked, broken_by, is_broken, is_stopped}

-- ---- where no rule is broken, none was

pub asked_lasts : (rule : ℕ) (b : Bool) (w : Walk) → is_broken (ask rule b w) ≡ false → is_broken w ≡ false
asked_lasts rule true w h = h
asked_lasts rule false (going rest None) h = absurd (cc)
asked_lasts rule false (going rest (Some r)) h = absurd (cc)
asked_lasts rule false (stopped broken) h = h

pub next_lasts : (w : Walk) → is_broken (next w).1 ≡ false → is_broken w ≡ false
unfolding next
next_lasts (going [] None) h = refl
next_lasts (going [] (Some r)) h = absurd (cc)
next_lasts (going (n ∷ rest) broken) h = h
next_lasts (stopped broken) h = h

pub earlier_lasts : (count : ℕ) (w : Walk) → is_broken ((earlier count).read w).1 ≡ false → is_broken w ≡ false
earlier_lasts count w h = next_lasts w (asked_lasts 2 (nat_lt (next w).0 count) (next w).1 h)

-- a rule that is asked in vain is broken, where a walk stops only so
pub vain_broken : (rule : ℕ) (w : Walk) → (is_stopped (ask rule false w) ≡ true → is_broken (ask rule false w) ≡ true) → IsBroken (ask rule false w)
vain_broken rule (going rest None) h = refl
vain_broken rule (going rest (Some r)) h = refl
vain_broken rule (stopped broken) h = h refl

-- ---- rules that are low

-- none is broken, or the least that is is at most that
abbrev pub IsLowRule : ℕ → Option ℕ → Type 0
IsLowRule limit None = Unit {0}
IsLowRule limit (Some r) = r ≤ limit

abbrev pub IsLow : ℕ → Walk → Type 0
IsLow limit w = IsLowRule limit (broken_by w)

low_next : (limit : ℕ) (w : Walk) → 1 ≤ limit → IsLow limit w → IsLow limit (next w).1
unfolding next
low_next limit (going [] None) one h = one
low_next limit (going [] (Some r)) one h = omega arith
low_next limit (going (n ∷ rest) broken) one h = h
low_next limit (stopped broken) one h = h

low_ask : (limit rule : ℕ) (b : Bool) (w : Walk) → rule ≤ limit → IsLow limit w → IsLow limit (ask rule b w)
low_ask limit rule true w le h = h
low_ask limit rule false (going rest None) le h = le
low_ask limit rule false (going rest (Some r)) le h = omega arith
low_ask limit rule false (stopped broken) le h = h

low_many : {A : Type 0} (limit : ℕ) (one : Walk → A × Walk) → ((w : Walk) → IsLow limit w → IsLow limit (one w).1) → (n : ℕ) (w : Walk) → IsLow limit w → IsLow limit (many one n w).1
unfolding many
low_many limit one each zero w h = h
low_many limit one each (suc n) (stopped broken) h = h
low_many limit one each (suc n) (going rest broken) h = low_many limit one each n (one (going rest broken)).1 (each (going rest broken) h)

low_earlier : (count : ℕ) (w : Walk) → IsLow 3 w → IsLow 3 ((earlier count).read w).1
low_earlier count w h = low_ask 3 2 (nat_lt (next w).0 count) (next w).1 (omega arith) (low_next 3 w (omega arith) h)

pub low_type : (count known : ℕ) (kind : TypeKind) (w : Walk) → IsLow 3 w → IsLow 3 ((ir_type count known kind).read w).1
low_type count known OfInt w h = low_ask 3 3 _ (next w).1 (omega arith) (low_next 3 w (omega arith) h)
low_type count known OfPtr w h = h
low_type count known OfVoid w h = h
low_type count known OfArray w h = low_earlier count (next w).1 (low_next 3 w (omega arith) h)
low_type count known OfStruct w h =
    let v = ask 3 (nat_lt (next w).0 2) (next w).1 in
    low_many 3 (earlier count).read (low_earlier count) (count_left v) v (low_ask 3 3 (nat_lt (next w).0 2) (next w).1 (omega arith) (low_next 3 w (omega arith) h))
low_type count known OfName w h = low_earlier known w h

pub low_body : (count : ℕ) (w : Walk) → IsLow 3 w → IsLow 3 ((struct_body count).read w).1
low_body count w h =
    let v = ask 3 (nat_lt (next w).0 3) (next w).1 in
    let low = low_ask 3 3 (nat_lt (next w).0 3) (next w).1 (omega arith) (low_next 3 w (omega arith) h) in
    low_ask 3 3 _ (many (earlier count).read (next v).0 (next v).1).1 (omega arith)
    (low_many 3 (earlier count).read (low_earlier count) (next v).0 (next v).1 (low_next 3 v (omega arith) low))

pub low_broken : (limit : ℕ) (w : Walk) → IsLow limit w → IsBroken w → IsBrokenBy limit w
low_broken limit (going rest None) h b = absurd (cc)
low_broken limit (going rest (Some r)) h b = h
low_broken limit (stopped None) h b = absurd (cc)
low_broken limit (stopped (Some r)) h b = h

-- what is broken low stays so, however many values are read
pub many_by : {A : Type 0} (limit : ℕ) (one : Walk → A × Walk) → ((w : Walk) → IsBrokenBy limit w → IsBrokenBy limit (one w).1) → (n : ℕ) (w : Walk) → IsBrokenBy limit w → IsBrokenBy limit (many one n w).1
unfolding many
many_by limit one each zero w h = h
many_by limit one each (suc n) (stopped broken) h = h
many_by limit one each (suc n) (going rest broken) h = many_by limit one each n (one (going rest broken)).1 (each (going rest broken) h)

-- ---- what is told of a whole record

least_swap : (a b : ℕ) (o : Option ℕ) → least a (least b o) ≡ least b (least a o)
least_swap a b None = ap (λ n. Some n) (swapped a b)
  where
    swapped : (a b : ℕ) → min a b ≡ min b a
    swapped a b = omega arith
least_swap a b (Some r) = ap (λ n. Some n) (swapped a b r)
  where
    swapped : (a b r : ℕ) → min a (min b r) ≡ min b (min a r)
    swapped a b r = omega arith

-- a rule that the record as a whole breaks is told with those that its operands break
pub told_also : (rule : ℕ) (b : Bool) (w : Walk) → told (also_asked rule b w) ≡ also rule b (told w)
told_also rule true w = refl
told_also rule false (going [] broken) = refl
told_also rule false (going (n ∷ rest) broken) = least_swap 1 rule broken
told_also rule false (stopped broken) = refl

pub told_low : (limit : ℕ) (w : Walk) → 1 ≤ limit → IsBrokenBy limit w → IsAtMost limit (told w)
told_low limit (going [] None) one h = absurd h
told_low limit (going [] (Some r)) one h = h
told_low limit (going (n ∷ rest) None) one h = absurd h
told_low limit (going (n ∷ rest) (Some r)) one h = omega arith
told_low limit (stopped None) one h = absurd h
told_low limit (stopped (Some r)) one h = h

-- a rule that is no less than one that is broken tells nothing more
pub also_in_vain : (limit rule : ℕ) (b : Bool) (o : Option ℕ) → limit ≤ rule → IsAtMost limit o → also rule b o ≡ o
also_in_vain limit rule true o le h = refl
also_in_vain limit rule false None le h = absurd h
also_in_vain limit rule false (Some r) le h = ap (λ n. Some n) (least_is rule r limit le h)
  where
    least_is : (rule r limit : ℕ) → limit ≤ rule → r ≤ limit → min rule r ≡ r
    least_is rule r limit le h = omega arith

pub also_low : (limit rule : ℕ) (b : Bool) (o : Option ℕ) → limit ≤ rule → IsAtMost limit o → IsAtMost limit (also rule b o)
also_low limit rule b o le h = rw (also_in_vain limit rule b o le h) h

-- where no rule is told, each held
pub also_held : (rule : ℕ) (b : Bool) (o : Option ℕ) → also rule b o ≡ None → (b ≡ true) × (o ≡ None)
also_held rule true o h = (refl, h)
also_held rule false None h = absurd (cc)
also_held rule false (Some r) h = absurd (cc)

-- a record that is finished answers as its rules say
pub finished : {A : Type 0} (means : Unit {0} → A → Type 0) (id at : ℕ) (r : Reader) (rules : Option ℕ) (value : A) (result : Result (Unit {0}) BitcodeFault)
    → r.at ≡ suc at → told r.walk ≡ rules → Finishes id r result → (rules ≡ None → means tt value) → Answers means (unless_broken id at rules value) result
finished means id at r None value (Ok done) place is f keep = keep refl
finished means id at r None value (Err given) place is f keep = let never = rw is at f in absurd never
finished means id at r (Some rule) value (Ok done) place is f keep = let never = rw is at f in absurd never
finished means id at r (Some rule) value (Err given) place is f keep =
    let told_so = rw is at f in
    memory_or given (told_so ∙ ap (λ n. fault.BadRecord id n rule) (before r.at at place))
  where
    before : (n at : ℕ) → n ≡ suc at → n - 1 ≡ at
    before n at e = omega arith

    memory_or : (g : BitcodeFault) → g ≡ fault.BadRecord id at rule → Answers means (unless_broken id at (Some rule) value) (Err g)
    memory_or (fault.Bit b) e = e
    memory_or fault.ForeignProducer e = e
    memory_or (fault.BadVersion v) e = e
    memory_or (fault.UnknownRecord i c) e = e
    memory_or (fault.BadRecord i n k) e = e
    memory_or fault.Memory e = tt

-- want of memory answers whatever the records say
pub out_of_memory : {A B : Type 0} (means : B → A → Type 0) (answer : Answer A) (given : BitcodeFault) → given ≡ fault.Memory → Answers means answer (Err given)
out_of_memory means (Ok value) given is = is
out_of_memory means (Err told) given is = rw is tt
