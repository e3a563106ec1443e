-- For all calls of `RecordReader`: a reader over a judged stream, and what its calls on operands give.
use Rattle.std.specs.Prelude.{◌≡◌, ◌≤◌, ℕ, Bool, true, false, List, [], ◌∷◌, Option, Some, None, Result, Ok, Err, is_some}
use Rattle.bit_tree.specs.Pieces.{Piece}
use Rattle.record_table.specs.Walk.{Walk, going, stopped, least}
use Rattle.record_table.specs.Layout.{Layout}

-- Whether it is spent; the entries and definitions that are left, in the order of the stream; how far the operands of the
-- record that was given last are taken, and the least rule that they broke; and how many records were given.
pub record Reader : Type 0 where
  pub spent : Bool
  pub left : List Piece
  pub walk : Walk
  pub at : ℕ

-- a walk over these operands, of which it may be that nothing says what stands next
abbrev pub walk_of : Bool → Option ℕ → List ℕ → Walk
walk_of true broken operands = stopped broken
walk_of false broken operands = going operands broken

-- the least rule that is broken so far
abbrev pub broken_by : Walk → Option ℕ
broken_by (going rest broken) = broken
broken_by (stopped broken) = broken

-- a rule is broken so far
abbrev pub is_broken : Walk → Bool
is_broken w = is_some (broken_by w)

-- the same as a fact
abbrev pub IsBroken : Walk → Type 0
IsBroken w = is_broken w ≡ true

-- a rule is there, and is no greater than this one
abbrev pub IsAtMost : ℕ → Option ℕ → Type 0
IsAtMost limit None = ⊥
IsAtMost limit (Some rule) = rule ≤ limit

-- a rule is broken that is no greater than this one
abbrev pub IsBrokenBy : ℕ → Walk → Type 0
IsBrokenBy limit w = IsAtMost limit (broken_by w)

-- nothing says what stands next
abbrev pub is_stopped : Walk → Bool
is_stopped (going rest broken) = false
is_stopped (stopped broken) = true

-- a reader stops only where a rule is broken
abbrev pub IsReader : Bool → Option ℕ → Type 0
IsReader is_over broken = is_over ≡ true → is_some broken ≡ true

-- a rule is broken, whether or not what follows is known
abbrev pub noted : ℕ → Walk → Walk
noted rule (going rest broken) = going rest (least rule broken)
noted rule (stopped broken) = stopped (least rule broken)

-- the record has ended: one operand that was left was taken, and breaks rule 1
abbrev pub behind_end : Walk → Walk
behind_end (going [] broken) = going [] broken
behind_end (going (n ∷ rest) broken) = going rest (least 1 broken)
behind_end (stopped broken) = stopped broken

-- the record as a whole breaks the rule where this is false
abbrev pub also_asked : ℕ → Bool → Walk → Walk
also_asked rule true w = w
also_asked rule false w = noted rule w

-- the next operand was taken, or none is left or known
abbrev pub TakesBy : Walk → Reader → Option ℕ → Reader → Type 0
TakesBy (going [] broken) old None new = new ≡ old
TakesBy (going (n ∷ rest) broken) old (Some taken) new = (taken ≡ n) × (new ≡ record old { walk = going rest broken })
TakesBy (stopped broken) old None new = new ≡ old
TakesBy _ old _ new = ⊥

-- the same of a reader
abbrev pub Takes : Reader → Option ℕ → Reader → Type 0
Takes old taken new = TakesBy old.walk old taken new

-- a record that stands in that block is refused by the least rule that it breaks
abbrev pub FinishesBy : {E : Type 0} → (ℕ → E → Type 0) → Option ℕ → Result (Unit {0}) E → Type 0
FinishesBy refuses None (Ok done) = Unit {0}
FinishesBy refuses (Some rule) (Err fault) = refuses rule fault
FinishesBy refuses _ _ = ⊥

-- the operands in front were read by a layout, and nothing else changed
pub record Reads {A : Type 0} (l : Layout A) (old new : Reader) (answer : A) : Type 0 where
  pub value : answer ≡ (l.read old.walk).0
  pub reader : new ≡ record old { walk = (l.read old.walk).1 }

-- The same of what is kept where nothing is broken: then it is that value, seen so; and none only where a rule is broken.
abbrev pub IsKept : {A B : Type 0} → (B → A → Type 0) → Option B → A → Walk → Type 0
IsKept means (Some kept) value w = means kept value
IsKept means None value w = IsBroken w

-- the operands in front were read by a layout, what is kept is meant so, and nothing else changed
pub record ReadsAs {A B : Type 0} (means : B → A → Type 0) (l : Layout A) (old new : Reader) (answer : Option B) : Type 0 where
  pub kept : IsKept means answer (l.read old.walk).0 new.walk
  pub reader : new ≡ record old { walk = (l.read old.walk).1 }
