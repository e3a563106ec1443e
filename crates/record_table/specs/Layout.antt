-- For `write` and `read` of bitcode: how values stand as operands, and how operands are read as values.
use Rattle.std.specs.Prelude.{ℕ, zero, suc, nat_lt, Bool, true, false, List, [], ◌∷◌, ◌++◌, length, flat_map, ◌⊎◌, Option, Some, None, slice_index_or, if◌then◌else◌}
use mathlib.Core.Logic.{inl, inr}
use Rattle.record_table.specs.Walk.{Walk, going, stopped, ask, stop, break, next, count_left, told}

-- The operands of a value; and the value that operands stand for, with the walk behind them. Where a rule is broken
-- the value is some value that nobody looks at.
pub record Layout (A : Type 0) : Type 0 where
  pub spell : A → List ℕ
  pub read : Walk → A × Walk

infixr 30 ◌&◌
infixr 30 ◌&>◌
-- one operand, any number
abbrev pub number : Layout ℕ
number = record { spell = λ n. n ∷ []; read = λ w. next w }

-- no operand
abbrev pub nothing : Layout (Unit {0})
nothing = record { spell = λ u. []; read = λ w. (tt, w) }

-- the same values in other words
abbrev pub mapped : {A B : Type 0} → (A → B) → (B → A) → Layout A → Layout B
mapped to from l = record { spell = λ b. l.spell (from b); read = λ w. let x = l.read w in (to x.0, x.1) }

-- a value that a rule asks something of
abbrev pub asking : {A : Type 0} → ℕ → (A → Bool) → Layout A → Layout A
asking rule test l = record { spell = l.spell; read = λ w. let x = l.read w in (x.0, ask rule (test x.0) x.1) }

-- one behind the other
abbrev pub ◌&◌ : {A B : Type 0} → Layout A → Layout B → Layout (A × B)
a & b = record {
  spell = λ x. a.spell x.0 ++ b.spell x.1;
  read = λ w. let x = a.read w in let y = b.read x.1 in ((x.0, y.0), y.1);
}

-- one behind the other, where the first says how the second stands
abbrev pub ◌&>◌ : {A B : Type 0} → Layout A → (A → Layout B) → Layout (A × B)
a &> f = record {
  spell = λ x. a.spell x.0 ++ (f x.0).spell x.1;
  read = λ w. let x = a.read w in let y = (f x.0).read x.1 in ((x.0, y.0), y.1);
}

-- so many, one behind the other
unfoldable pub many : {A : Type 0} → (Walk → A × Walk) → ℕ → Walk → List A × Walk
many one zero w = ([], w)
many one (suc n) (stopped broken) = ([], stopped broken)
many one (suc n) (going rest broken) = let x = one (going rest broken) in let xs = many one n x.1 in (x.0 ∷ xs.0, xs.1)

-- so many values, one behind the other, as a layout
abbrev pub times : {A : Type 0} → ℕ → Layout A → Layout (List A)
times n l = record { spell = λ xs. flat_map l.spell xs; read = many l.read n }

-- a count and so many
abbrev pub counted : {A : Type 0} → Layout A → Layout (List A)
counted l = record {
  spell = λ xs. length xs ∷ flat_map l.spell xs;
  read = λ w. let n = next w in many l.read n.0 n.1;
}

-- not 0
abbrev pub is_positive : ℕ → Bool
is_positive zero = false
is_positive (suc n) = true

-- a count, which is not 0, and so many
abbrev pub counted_some : {A : Type 0} → Layout A → Layout (List A)
counted_some l = record {
  spell = λ xs. length xs ∷ flat_map l.spell xs;
  read = λ w. let n = next w in many l.read n.0 (ask 1 (is_positive n.0) n.1);
}

-- values of one operand each, as many as there are operands
abbrev pub to_end : {A : Type 0} → Layout A → Layout (List A)
to_end l = record { spell = λ xs. flat_map l.spell xs; read = λ w. many l.read (count_left w) w }

-- 0, or 1 and a value
unfoldable pub option_by : {A : Type 0} → Layout A → ℕ → Walk → Option A × Walk
option_by l zero w = (None, w)
option_by l (suc zero) w = let x = l.read w in (Some x.0, x.1)
option_by l (suc (suc n)) w = (None, stop 3 w)

-- how an option is spelled
abbrev pub option_spell : {A : Type 0} → Layout A → Option A → List ℕ
option_spell l None = 0 ∷ []
option_spell l (Some x) = 1 ∷ l.spell x

-- 0, or 1 and a value
abbrev pub option : {A : Type 0} → Layout A → Layout (Option A)
option l = record { spell = option_spell l; read = λ w. let n = next w in option_by l n.0 n.1 }

-- 0 and a value of the first layout, or 1 and one of the second
unfoldable pub either_by : {A B : Type 0} → Layout A → Layout B → ℕ → Walk → (A ⊎ B) × Walk
either_by a b zero w = let x = a.read w in (inl x.0, x.1)
either_by a b (suc zero) w = let x = b.read w in (inr x.0, x.1)
either_by a b (suc (suc n)) w = let x = a.read (stop 3 w) in (inl x.0, x.1)

-- how one of two is spelled
abbrev pub either_spell : {A B : Type 0} → Layout A → Layout B → A ⊎ B → List ℕ
either_spell a b (inl x) = 0 ∷ a.spell x
either_spell a b (inr y) = 1 ∷ b.spell y

-- 0 and a value of the first layout, or 1 and one of the second
abbrev pub either : {A B : Type 0} → Layout A → Layout B → Layout (A ⊎ B)
either a b = record { spell = either_spell a b; read = λ w. let n = next w in either_by a b n.0 n.1 }

-- the place of a value in a list, or how many there are
unfoldable pub place : {A : Type 0} → (A → A → Bool) → List A → A → ℕ
place same [] x = 0
place same (y ∷ ys) x = if same y x then 0 else suc (place same ys x)

-- a value by its place in a list
abbrev pub indexed : {A : Type 0} → (A → A → Bool) → List A → A → Layout A
indexed same all other = record {
  spell = λ x. place same all x ∷ [];
  read = λ w. let n = next w in (slice_index_or all n.0 other, ask 2 (nat_lt n.0 (length all)) n.1);
}

-- a value by its code
abbrev pub found_or : {A : Type 0} → A → Option A → Walk → A × Walk
found_or other None w = (other, break 3 w)
found_or other (Some x) w = (x, w)

-- the code of a value, which only some numbers are
abbrev pub coded : {A : Type 0} → (A → ℕ) → (ℕ → Option A) → A → Layout A
coded code of_code other = record { spell = λ x. code x ∷ []; read = λ w. let n = next w in found_or other (of_code n.0) n.1 }

-- what the operands of a record stand for, and the least rule that they break
abbrev pub judged : {A : Type 0} → Layout A → List ℕ → A × Option ℕ
judged l operands = let x = l.read (going operands None) in (x.0, told x.1)
