-- How calls answer: for want of memory, by a record's least rule, by a block that is misplaced, and by what is given in front.
use Rattle.std.proofs.Common.{◌≡◌, ◌-◌, ℕ, suc, min, Bool, true, false, List, [], ◌∷◌, Option, Some, None, refl, ap, subst, ◌∙◌, arith}
use Rattle.std.specs.Prelude.{Result, Ok, Err}
use Rattle.record_table.specs.Walk.{Walk, going, stopped, least, told}
use Rattle.record_table.specs.Faults.{Answer, BadRecord, RecordFault, Records, UnknownRecord, also, is_block_id, misplaced, unless_broken}
use Rattle.record_read.specs.declared.entry.NextEntry.{NextEntry}
use Rattle.record_read.specs.declared.fault.BitcodeFault.{BitcodeFault}
use Rattle.record_read.specs.declared.fault.BitcodeFault.TheVariants as fault
use Rattle.record_read.specs.Entries.{Gives, IsBefore, IsNearer}
use Rattle.record_read.specs.Faults.{Answers, Finishes, IsFault, IsMisplaced, of_records}
use Rattle.record_read.specs.Reader.{Reader, also_asked}
use Rattle.bit_tree.specs.Pieces.{Piece}

-- an entry was given, with what is left
abbrev pub Gone : Reader → NextEntry → Reader → Type 0
Gone old entry new = (new.spent ≡ false) × IsNearer entry old.left new.left × ((all : Records) (others : List Piece) → IsBefore old.left all others → Gives all old entry new others)

pub gone : (old new : Reader) (given entry : NextEntry) → Gone old given new → given ≡ entry → Gone old entry new
gone old new given entry h is = subst (λ x. Gone old x new) is h

-- a refusal of records
pub fault_is : (given : BitcodeFault) (told : RecordFault) → given ≡ of_records told → IsFault given told
fault_is (fault.Bit b) told e = e
fault_is fault.ForeignProducer told e = e
fault_is (fault.BadVersion v) told e = e
fault_is (fault.UnknownRecord i c) told e = e
fault_is (fault.BadRecord i n k) told e = e
fault_is fault.Memory told e = tt

-- a rule that the record as a whole breaks is told with those that its operands break
least_swap : (a b : ℕ) (o : Option ℕ) → least a (least b o) ≡ least b (least a o)
least_swap a b None = ap (λ n. Some n) (swapped a b)
  where
    swapped : (a b : ℕ) → min a b ≡ min b a
    swapped a b = omega arith
least_swap a b (Some r) = ap (λ n. Some n) (swapped a b r)
  where
    swapped : (a b r : ℕ) → min a (min b r) ≡ min b (min a r)
    swapped a b r = omega arith

pub told_also : (rule : ℕ) (b : Bool) (w : Walk) → told (also_asked rule b w) ≡ also rule b (told w)
told_also rule true w = refl
told_also rule false (going [] broken) = refl
told_also rule false (going (n ∷ rest) broken) = least_swap 1 rule broken
told_also rule false (stopped broken) = refl

-- a record that is finished answers as its rules say
pub finished : {A : Type 0} (means : Unit {0} → A → Type 0) (id at : ℕ) (r : Reader) (rules : Option ℕ) (value : A) (result : Result (Unit {0}) BitcodeFault)
    → r.at ≡ suc at → told r.walk ≡ rules → Finishes id r result → (rules ≡ None → means tt value) → Answers means (unless_broken id at rules value) result
finished means id at r None value (Ok done) place is f keep = keep refl
finished means id at r None value (Err given) place is f keep = let never = rw is at f in absurd never
finished means id at r (Some rule) value (Ok done) place is f keep = let never = rw is at f in absurd never
finished means id at r (Some rule) value (Err given) place is f keep =
    let told_so = rw is at f in
    fault_is given (BadRecord id at rule) (told_so ∙ ap (λ n. fault.BadRecord id n rule) (before r.at at place))
  where
    before : (n at : ℕ) → n ≡ suc at → n - 1 ≡ at
    before n at e = omega arith

pub never_none : (rule : ℕ) (o : Option ℕ) → also rule false o ≡ None → ⊥
never_none rule None e = cc
never_none rule (Some r) e = cc

-- want of memory answers whatever the records say
pub out_of_memory : {A B : Type 0} (means : B → A → Type 0) (answer : Answer A) (given : BitcodeFault) → given ≡ fault.Memory → Answers means answer (Err given)
out_of_memory means (Ok value) given is = is
out_of_memory means (Err told) given is = rw is tt

-- an answer that never is Ok is one in other words
pub never_ok : {A B : Type 0} (means : B → A → Type 0) (answer : Answer A) (result : Result B BitcodeFault) → Answers {A = A} {B = B} (λ b a. ⊥) answer result → Answers means answer result
never_ok means (Ok value) (Ok kept) h = absurd h
never_ok means (Ok value) (Err given) h = h
never_ok means (Err told) (Ok kept) h = absurd h
never_ok means (Err told) (Err given) h = h

-- a block where none of its kind may stand is refused so, whatever was to be read
pub misplaced_so : {A B : Type 0} (id at : ℕ) (given : BitcodeFault) (M : B → A → Type 0) → IsMisplaced id at given → Answers {A = A} {B = B} M (misplaced id at) (Err given)
misplaced_so {A} {B} id at given M h = by_id (is_block_id id) refl
  where
    by_id : (b : Bool) → is_block_id id ≡ b → Answers {A = A} {B = B} M (misplaced id at) (Err given)
    by_id true e = let is = rw e at h in rw e (fault_is given (BadRecord id at 5) is)
    by_id false e = let is = rw e at h in rw e (fault_is given (UnknownRecord id 0) is)
