-- Literals behind the first operand change nothing of what is passed over.
use Rattle.std.proofs.Common.{◌≡◌, ℕ, Bool, true, false, List, [], ◌∷◌, filter, Option, Some, None, Ok, Err, if◌then◌else◌, refl}
use Rattle.std.specs.Prelude.{◌^◌, ◌&&◌, nat_le}
use Rattle.bit_stream.specs.Bits.Cursor.{Cursor, Found, ◌>>=◌}
use Rattle.bit_stream.specs.declared.abbreviation.ValueSpelling.{ValueSpelling}
use Rattle.bit_stream.specs.declared.abbreviation.ValueSpelling.TheVariants.{Known, Field, Chunks, Letter}
use Rattle.bit_stream.specs.Answers.{refuse}
use Rattle.bit_stream.specs.Record.{value_by}
use Rattle.bit_dump.specs.Walk.Passing.{with_first, is_none, pass_operand, pass_each}
use Rattle.bit_dump.specs.Walk.Spelling.{has_bits, spelled_out}

-- behind an operand there is a first one
step : (b : Bool) (first : Option ℕ) (s : ValueSpelling) (c : Cursor) (g h : Option ℕ → Cursor → Found (Option ℕ)) → ((n : ℕ) (d : Cursor) → g (Some n) d ≡ h (Some n) d) → (pass_operand b first s c >>= g) ≡ (pass_operand b first s c >>= h)
unfolding pass_operand
step b first s c g h same = by_value (value_by s c) where
  behind : (first : Option ℕ) (n : ℕ) (d : Cursor) → g (with_first first n) d ≡ h (with_first first n) d
  behind None n d = same n d
  behind (Some m) n d = same m d

  by_test : (t : Bool) (n : ℕ) (d : Cursor) → ((if t then refuse c.at else Ok (with_first first n, d)) >>= g) ≡ ((if t then refuse c.at else Ok (with_first first n, d)) >>= h)
  by_test true n d = refl
  by_test false n d = behind first n d

  by_value : (f : Found ℕ) → ((f >>= λ number d. if b && is_none first && nat_le (2 ^ 32) number then refuse c.at else Ok (with_first first number, d)) >>= g) ≡ ((f >>= λ number d. if b && is_none first && nat_le (2 ^ 32) number then refuse c.at else Ok (with_first first number, d)) >>= h)
  by_value (Ok x) = by_test (b && is_none first && nat_le (2 ^ 32) x.0) x.0 x.1
  by_value (Err e) = refl

-- a literal behind the first operand
known : (b : Bool) (k n : ℕ) (c : Cursor) → pass_operand b (Some n) (Known k) c ≡ Ok (Some n, c)
unfolding pass_operand value_by
known true k n c = refl
known false k n c = refl

skips : (b : Bool) (ss : List ValueSpelling) (n : ℕ) (c : Cursor) → pass_each b (filter has_bits ss) (Some n) c ≡ pass_each b ss (Some n) c
unfolding pass_each
skips b [] n c = refl
skips b (Known k ∷ ss) n c = rw (known b k n c) (skips b ss n c)
skips b (Field width ∷ ss) n c = step b (Some n) (Field width) c (λ more d. pass_each b (filter has_bits ss) more d) (λ more d. pass_each b ss more d) (λ m d. skips b ss m d)
skips b (Chunks width ∷ ss) n c = step b (Some n) (Chunks width) c (λ more d. pass_each b (filter has_bits ss) more d) (λ more d. pass_each b ss more d) (λ m d. skips b ss m d)
skips b (Letter ∷ ss) n c = step b (Some n) Letter c (λ more d. pass_each b (filter has_bits ss) more d) (λ more d. pass_each b ss more d) (λ m d. skips b ss m d)

pub same_passed : (b : Bool) (ss : List ValueSpelling) (c : Cursor) → pass_each b (spelled_out ss) None c ≡ pass_each b ss None c
unfolding pass_each
same_passed b [] c = refl
same_passed b (s ∷ ss) c = step b None s c (λ more d. pass_each b (filter has_bits ss) more d) (λ more d. pass_each b ss more d) (λ m d. skips b ss m d)
