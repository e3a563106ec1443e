-- Bytes and indices as a loop gathers them, against what stands in the operands.
use Rattle.std.proofs.Common.{◌≡◌, ◌⊎◌, ◌<◌, ◌+◌, ◌-◌, ℕ, Bool, true, false, not, ◌&&◌, cond, inl, inr, List, [], ◌∷◌, ◌++◌, Option, Some, None, nat_lt, refl, sym, ap, ◌∙◌, arith}
use Rattle.std.proofs.lemmas.Bool.{ltb-true, ltb-false, and_parts, and_cases, not-true, not-false}
use Rattle.record_table.specs.Walk.{Walk, going, stopped, ask, next, count_left}
use Rattle.record_table.specs.Layout.{number, times, to_end}
use Rattle.record_table.specs.Fields.{byte}
use Rattle.record_read.specs.Reader.{Reader, Reads, Takes, TakesBy, IsBrokenBy, is_stopped}
use Rattle.record_read.specs.Fields.{PushesByte, ReadsBytes, are_bytes}
use Rattle.record_read.proofs.Asking.{still_by, next_by, asked_in_vain}
use Rattle.record_read.proofs.Repeated.{IsSoFar, begins, more, over}

-- one more byte of a text, or a number that is none
pub record ReadsByte (before : Reader) (text : List ℕ) (is : Bool) (after : Reader) (now : List ℕ) : Type 0 where
  pub is_byte : is ≡ nat_lt (byte.read before.walk).0 256
  pub reader : after ≡ record before { walk = (byte.read before.walk).1 }
  pub text_is : is ≡ true → now ≡ text ++ (byte.read before.walk).0 ∷ []

pub numbered : (before mid after : Reader) (text now : List ℕ) (n : ℕ) (is : Bool) → Reads number before mid n → PushesByte mid text n is after now → ReadsByte before text is after now
numbered before mid after text now n is h p =
    let small : is ≡ nat_lt (next before.walk).0 256 = p.0 ∙ ap (λ k. nat_lt k 256) h.value in
    record {
      is_byte = small;
      reader = p.1 ∙ (ap (λ (r : Reader). record r { walk = ask 3 is r.walk }) h.reader ∙ ap (λ b. record before { walk = ask 3 b (next before.walk).1 }) small);
      text_is = λ t. p.2 t ∙ ap (λ k. text ++ k ∷ []) h.value;
    }

-- an operand that was taken is the next number, and one less is left
pub record Taken (before mid : Reader) (n : ℕ) : Type 0 where
  pub reads : Reads number before mid n
  pub fewer : count_left before.walk ≡ count_left mid.walk + 1
  pub goes : is_stopped before.walk ≡ false

taken_by : (w : Walk) (before mid : Reader) (n : ℕ) → before.walk ≡ w → TakesBy w before (Some n) mid → Taken before mid n
unfolding next
taken_by (going [] broken) before mid n is h = absurd h
taken_by (going (k ∷ rest) broken) before mid n is h = record {
  reads = record { value = rw is h.0; reader = rw is h.1 };
  fewer = rw (is, h.1) (omega arith);
  goes = rw is refl;
}
taken_by (stopped broken) before mid n is h = absurd h

pub taken : (before mid : Reader) (n : ℕ) → Takes before (Some n) mid → Taken before mid n
taken before mid n h = taken_by before.walk before mid n refl h

none_by : (w : Walk) (before mid : Reader) → TakesBy w before None mid → (mid ≡ before) × (count_left w ≡ 0)
none_by (going [] broken) before mid h = (h, refl)
none_by (going (k ∷ rest) broken) before mid h = absurd h
none_by (stopped broken) before mid h = (h, refl)

pub none_taken : (before mid : Reader) → Takes before None mid → (mid ≡ before) × (count_left before.walk ≡ 0)
none_taken before mid h = none_by before.walk before mid h

-- no rule that is asked changes how many operands are left
pub asked_left : (rule : ℕ) (b : Bool) (w : Walk) → count_left (ask rule b w) ≡ count_left w
asked_left rule true w = refl
asked_left rule false (going rest broken) = refl
asked_left rule false (stopped broken) = refl

pub pushed_left : (mid after : Reader) (text now : List ℕ) (n : ℕ) (is : Bool) → PushesByte mid text n is after now → count_left after.walk ≡ count_left mid.walk
pushed_left mid after text now n is p = ap (λ (r : Reader). count_left r.walk) p.1 ∙ asked_left 3 is mid.walk

-- bytes that are gathered so far; a text is one only as long as all of them are bytes
pub record AreGathered (first now : Reader) (count n : ℕ) (text : List ℕ) (are : Bool) : Type 0 where
  pub xs : List ℕ
  pub far : IsSoFar byte.read first.walk count xs n now.walk
  pub reader : now ≡ record first { walk = now.walk }
  pub kept : are ≡ true → text ≡ xs
  pub lost : are ≡ false → (are_bytes xs ≡ false) × IsBrokenBy 3 now.walk

pub none_gathered : (first : Reader) (count : ℕ) → AreGathered first first count count [] true
none_gathered first count = record { xs = []; far = begins byte.read first.walk count; reader = refl; kept = λ h. refl; lost = λ h. absurd (cc) }

lost_step : (b : Bool) (x : ℕ) (xs : List ℕ) → nat_lt x 256 ≡ b → (b ≡ true → are_bytes xs ≡ false) → are_bytes (x ∷ xs) ≡ false
lost_step true x xs is h = rw is (h refl)
lost_step false x xs is h = rw is refl

still_lost : (b : Bool) (x : ℕ) (xs : List ℕ) → nat_lt x 256 ≡ b → are_bytes (x ∷ xs) ≡ false → b ≡ true → are_bytes xs ≡ false
still_lost true x xs is h so = rw is at h
still_lost false x xs is h so = absurd (cc)

all_lost : (xs ys : List ℕ) → are_bytes xs ≡ false → are_bytes (xs ++ ys) ≡ false
all_lost [] ys h = absurd (cc)
all_lost (x ∷ xs) ys h = lost_step (nat_lt x 256) x (xs ++ ys) refl (λ so. all_lost xs ys (still_lost (nat_lt x 256) x xs refl h so))

last_lost : (xs : List ℕ) (x : ℕ) → nat_lt x 256 ≡ false → are_bytes (xs ++ x ∷ []) ≡ false
last_lost [] x h = rw h refl
last_lost (y ∷ xs) x h = lost_step (nat_lt y 256) y (xs ++ x ∷ []) refl (λ so. last_lost xs x h)

lost_byte : (w : Walk) → nat_lt (next w).0 256 ≡ false → IsBrokenBy 3 (ask 3 (nat_lt (next w).0 256) (next w).1)
unfolding next
lost_byte (going [] broken) h = absurd (cc)
lost_byte (going (n ∷ rest) broken) h = rw h (asked_in_vain 3 (going rest broken) refl)
lost_byte (stopped broken) h = absurd (cc)

pub moves : (first before after : Reader) (w : Walk) → before ≡ record first { walk = before.walk } → after ≡ record before { walk = w } → after ≡ record first { walk = after.walk }
moves first before after w h k =
    let at : after.walk ≡ w = ap (λ (r : Reader). r.walk) k in
    k ∙ (ap (λ (r : Reader). record r { walk = w }) h ∙ ap (λ v. record first { walk = v }) (sym at))

-- one more byte
pub byte_kept : (first before after : Reader) (count n m : ℕ) (text now : List ℕ) (are is : Bool) → n ≡ m + 1 → is_stopped before.walk ≡ false → AreGathered first before count n text are → ReadsByte before text is after now → is ≡ true
    → AreGathered first after count m now are
byte_kept first before after count n m text now are is fits goes h r good =
    let at : after.walk ≡ (byte.read before.walk).1 = ap (λ (r : Reader). r.walk) r.reader in
    record {
      xs = h.xs ++ (byte.read before.walk).0 ∷ [];
      far = rw at (more byte.read first.walk count h.xs n m before.walk fits goes h.far);
      reader = moves first before after (byte.read before.walk).1 h.reader r.reader;
      kept = λ a. r.text_is good ∙ ap (λ (t : List ℕ). t ++ (byte.read before.walk).0 ∷ []) (h.kept a);
      lost = λ a. (all_lost h.xs ((byte.read before.walk).0 ∷ []) (h.lost a).0, rw at (still_by 3 3 (nat_lt (next before.walk).0 256) (next before.walk).1 (next_by 3 before.walk (h.lost a).1)));
    }

-- or a number that is none
pub byte_lost : (first before after : Reader) (count n m : ℕ) (text now some : List ℕ) (are is : Bool) → n ≡ m + 1 → is_stopped before.walk ≡ false → AreGathered first before count n text are → ReadsByte before text is after now → is ≡ false
    → AreGathered first after count m some false
byte_lost first before after count n m text now some are is fits goes h r bad =
    let at : after.walk ≡ (byte.read before.walk).1 = ap (λ (r : Reader). r.walk) r.reader in
    let large : nat_lt (byte.read before.walk).0 256 ≡ false = sym r.is_byte ∙ bad in
    record {
      xs = h.xs ++ (byte.read before.walk).0 ∷ [];
      far = rw at (more byte.read first.walk count h.xs n m before.walk fits goes h.far);
      reader = moves first before after (byte.read before.walk).1 h.reader r.reader;
      kept = λ a. absurd (cc);
      lost = λ a. (last_lost h.xs (byte.read before.walk).0 large, rw at (lost_byte before.walk large));
    }

-- all of them
pub bytes_kept : (first now : Reader) (count n : ℕ) (text : List ℕ) (are : Bool) → AreGathered first now count n text are → (n ≡ 0) ⊎ (is_stopped now.walk ≡ true) → are ≡ true → ReadsBytes (times count byte) first now (Some text)
bytes_kept first now count n text are h last good =
    let all = over byte.read first.walk count h.xs n now.walk last h.far in
    record { kept = h.kept good ∙ sym all.values; reader = h.reader ∙ ap (λ w. record first { walk = w }) (sym all.walk) }

pub bytes_lost : (first now : Reader) (count n : ℕ) (text : List ℕ) (are : Bool) → AreGathered first now count n text are → (n ≡ 0) ⊎ (is_stopped now.walk ≡ true) → are ≡ false → ReadsBytes (times count byte) first now None
bytes_lost first now count n text are h last bad =
    let all = over byte.read first.walk count h.xs n now.walk last h.far in
    record { kept = (ap are_bytes all.values ∙ (h.lost bad).0, (h.lost bad).1); reader = h.reader ∙ ap (λ w. record first { walk = w }) (sym all.walk) }

-- all of them, by whether each was a byte
pub bytes_are : (first now : Reader) (count n : ℕ) (text : List ℕ) (are : Bool) (answer : Option (List ℕ)) → AreGathered first now count n text are → (n ≡ 0) ⊎ (is_stopped now.walk ≡ true) → answer ≡ cond are (Some text) None → ReadsBytes (times count byte) first now answer
bytes_are first now count n text true answer h last is = rw is (bytes_kept first now count n text true h last refl)
bytes_are first now count n text false answer h last is = rw is (bytes_lost first now count n text false h last refl)

-- where a loop goes on, and where it ends
pub loop_goes : (place count : ℕ) (stops : Bool) → (nat_lt place count && not stops) ≡ true → (place < count) × (stops ≡ false)
loop_goes place count stops h = let p = and_parts (nat_lt place count) (not stops) h in (ltb-true place count p.0, not-true stops p.1)

pub loop_ends : (place count : ℕ) (stops : Bool) → (nat_lt place count && not stops) ≡ false → (count - place ≡ 0) ⊎ (stops ≡ true)
loop_ends place count stops h = by_case (and_cases (nat_lt place count) (not stops) h)
  where
    by_case : (nat_lt place count ≡ false) ⊎ (not stops ≡ false) → (count - place ≡ 0) ⊎ (stops ≡ true)
    by_case (inl over) = let past = ltb-false place count over in inl (omega (arith, past))
    by_case (inr stop) = inr (not-false stops stop)

-- all that are left
pub rest_are : (first before now : Reader) (text : List ℕ) (are : Bool) (answer : Option (List ℕ)) → AreGathered first before (count_left first.walk) (count_left before.walk) text are → Takes before None now → answer ≡ cond are (Some text) None
    → ReadsBytes (to_end byte) first now answer
rest_are first before now text are answer h last is =
    let none = none_taken before now last in
    let bytes = bytes_are first before (count_left first.walk) (count_left before.walk) text are answer h (inl none.1) is in
    rw none.0 (record { kept = bytes.kept; reader = bytes.reader })
