-- For `fixed`, `vbr` and the other calls of `BitCursor`: a place in a stream, and what reading from it finds.
use Rattle.std.specs.Prelude.{ℕ, Bool, List, Result, Ok, Err}
use Rattle.bit_stream.specs.declared.bits.fault.BitFault.{BitFault}

-- the number of the first bit that is left, and the bits from there on
pub record Cursor : Type 0 where
  pub at : ℕ
  pub rest : List Bool

-- a value with the place behind it, or the fault of the first field that is refused
abbrev pub Found : Type 0 → Type 0
Found A = Result (A × Cursor) BitFault

infixl 10 ◌>>=◌
-- one reading after another, unless the first finds a fault
abbrev pub ◌>>=◌ : {A B : Type 0} → Found A → (A → Cursor → Found B) → Found B
Ok x >>= f = f x.0 x.1
Err e >>= f = Err e

-- what a call that took no memory answered and where it left its cursor, as one
abbrev pub found_at : {X A : Type 0} → (X → A) → Result X BitFault → Cursor → Found A
found_at view (Ok x) left = Ok (view x, left)
found_at view (Err e) left = Err e
