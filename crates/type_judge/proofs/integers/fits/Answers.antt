use Rattle.std.proofs.Common.{◌≡◌, refl, ◌≤◌, ◌^◌, ◌-◌, ◌<◌, arith, ℕ, Bool, true, false, nat_le, nat_lt, Some, None, sym}
use Rattle.std.specs.Prelude.{if◌then◌else◌}
use Rattle.std.proofs.lemmas.Bool.{leb-true, ltb-true, ltb-false}
use Rattle.std.proofs.Math.Nat.{pow-le-pow_right}
use Rattle.ir_terminals.specs.Digits.{below}
use Rattle.type_judge.proofs.integers.fits.Goals as goal

past : (n : ℕ) → below (2 ^ 128) n ≡ None → 2 ^ 128 ≤ n
past n e = by (nat_lt n (2 ^ 128)) refl e
  where
    by : (b : Bool) → nat_lt n (2 ^ 128) ≡ b → (if b then Some n else None) ≡ None → 2 ^ 128 ≤ n
    by true q k = absurd cc
    by false q k = ltb-false n (2 ^ 128) q

not_le : (a b : ℕ) → b < a → false ≡ nat_le a b
not_le a b h = by (nat_le a b) refl
  where
    by : (x : Bool) → nat_le a b ≡ x → false ≡ x
    by true e = let k = leb-true a b e in absurd (omega (arith, h, k))
    by false e = refl

not_lt : (a b : ℕ) → b ≤ a → false ≡ nat_lt a b
not_lt a b h = by (nat_lt a b) refl
  where
    by : (x : Bool) → nat_lt a b ≡ x → false ≡ x
    by true e = let k = ltb-true a b e in absurd (omega (arith, h, k))
    by false e = refl

pub returns-in_default : goal.returns-in_default
returns-in_default c = by c.args.negative
  where
    large : 2 ^ 128 ≤ c.args.number.now
    large = past c.args.number.now (sym c.in_default.ensures)

    power : (k : ℕ) → k ≤ 128 → 2 ^ k ≤ 2 ^ 128
    power k h = pow-le-pow_right (omega arith) h

    less : (k : ℕ) → k ≤ 127 → 2 ^ k ≤ 2 ^ 127
    less k h = pow-le-pow_right (omega arith) h

    by : (b : Bool) → false ≡ (if b then nat_le c.args.number.now (2 ^ (c.args.bits - 1)) else nat_lt c.args.number.now (2 ^ c.args.bits))
    by true = let p = less (c.args.bits - 1) (omega (arith, c.requires)) in not_le c.args.number.now (2 ^ (c.args.bits - 1)) (omega (arith, p, large))
    by false = let p = power c.args.bits c.requires in not_lt c.args.number.now (2 ^ c.args.bits) (omega (arith, p, large))
