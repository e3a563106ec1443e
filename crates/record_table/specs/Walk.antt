-- For `write` and `read` of bitcode: the operands of a record, taken one by one, and the least of the rules on records that
-- they break.
use Rattle.std.specs.Prelude.{ℕ, min, Bool, true, false, List, [], ◌∷◌, length, Option, Some, None}

-- The operands that are left, as long as those before them say what they are; and the least rule that is broken so far.
-- It stops where nothing says what stands next.
pub data Walk : Type 0 where
  going : (rest : List ℕ) → (broken : Option ℕ) → Walk
  stopped : (broken : Option ℕ) → Walk

-- one more rule that is broken
abbrev pub least : ℕ → Option ℕ → Option ℕ
least rule None = Some rule
least rule (Some other) = Some (min rule other)

-- the rule is broken, and what follows is known all the same
abbrev pub break : ℕ → Walk → Walk
break rule (going rest broken) = going rest (least rule broken)
break rule (stopped broken) = stopped broken

-- the rule is broken, and what follows is not known
abbrev pub stop : ℕ → Walk → Walk
stop rule (going rest broken) = stopped (least rule broken)
stop rule (stopped broken) = stopped broken

-- the rule is broken where this is false
abbrev pub ask : ℕ → Bool → Walk → Walk
ask rule true w = w
ask rule false w = break rule w

-- the next operand. Where none is left there are too few
unfoldable pub next : Walk → ℕ × Walk
next (going [] broken) = (0, stopped (least 1 broken))
next (going (n ∷ rest) broken) = (n, going rest broken)
next (stopped broken) = (0, stopped broken)

-- how many operands are left
abbrev pub count_left : Walk → ℕ
count_left (going rest broken) = length rest
count_left (stopped broken) = 0

-- the least rule that a record breaks. Where operands are left at its end there are too many
abbrev pub told : Walk → Option ℕ
told (going [] broken) = broken
told (going (n ∷ rest) broken) = least 1 broken
told (stopped broken) = broken
