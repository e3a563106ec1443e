-- Integers of at most 64 bits that fit.
use Rattle.std.specs.Prelude.{◌≡◌, ℕ, ◌^◌, ◌&&◌, ◌||◌, not, nat_lt, nat_le, Bool, true, false, Some}
use Rattle.std.proofs.Common.{subst}
use Rattle.ir_terminals.specs.declared.values.Integer.{Integer}
use Rattle.module_arena.specs.declared.arena.TheConstants.{INDEX_LIMIT}
use Rattle.name_rules.specs.Demand.{is_natural}
use Rattle.name_judge.specs.Locals.Literals.{short_of, fits_in}
use Rattle.name_judge.proofs.OnLocals.Sized.{below_is}

-- what is found to be short fits where its magnitude does
pub short_fits : (bits : ℕ) (negative : Bool) (magnitude number : ℕ) → Some number ≡ short_of negative magnitude → nat_lt number (2 ^ bits) ≡ true → fits_in bits negative magnitude ≡ true
short_fits bits true magnitude number e less = absurd cc
short_fits bits false magnitude number e less = subst (λ (n : ℕ). nat_lt n (2 ^ bits) ≡ true) (below_is magnitude number e) less

-- what is found to be short is an index where its magnitude is one
pub short_is_index : (written : Integer) (number : ℕ) → Some number ≡ short_of written.negative written.magnitude → nat_lt number INDEX_LIMIT ≡ true → (is_natural written && nat_lt written.magnitude INDEX_LIMIT) ≡ true
short_is_index written number = by written.negative
  where
    by : (negative : Bool) → Some number ≡ short_of negative written.magnitude → nat_lt number INDEX_LIMIT ≡ true → ((not negative || nat_le written.magnitude 0) && nat_lt written.magnitude INDEX_LIMIT) ≡ true
    by true e less = absurd cc
    by false e less = subst (λ (n : ℕ). nat_lt n INDEX_LIMIT ≡ true) (below_is written.magnitude number e) less
