use Rattle.std.proofs.Common.{◌≡◌, refl, Less, ℕ, ◌<◌, ◌≤◌, arith, false, subst}
use Rattle.std.specs.Prelude.{Option, Some, None, IsSome, IfSome, slice_get}
use Rattle.std.specs.Ordering.{nat_cmp, is_gt}
use Rattle.std.proofs.lemmas.Bool.Decides.{nat_tests}
use Rattle.ir_memory.specs.declared.pointers.slot.PieceSlot.{PieceSlot}
use Rattle.ir_memory.proofs.pointers.slots.first_slot.Goals as goal

from_up : (from q : ℕ) → from ≤ q → is_gt (nat_cmp from q) ≡ false
from_up from q h = grind (arith, nat_tests)

below : (q to : ℕ) → q < to → nat_cmp q to ≡ Less
below q to h = grind (arith, nat_tests)

not_above : (key q : ℕ) → q < key → is_gt (nat_cmp key q) ≡ false → ⊥
not_above key q h e = grind (arith, nat_tests)

none_else : (o : Option PieceSlot) → (IsSome o → ⊥) → o ≡ None
none_else None never = refl
none_else (Some slot) never = absurd (never refl)

less_below : (key to : ℕ) → nat_cmp key to ≡ Less → key < to
less_below key to e = grind (arith, nat_tests)

pub returns-clause-first : goal.returns-clause-first
returns-clause-first c =
    let least = (c.range.ensures.in_range tt).2 in
    let first = c.in_ok-number.ensures.steps in
    let inside = rw first at (c.range.ensures.in_range tt).1 in
    let end = less_below c.in_ok-number.number.now c.args.to inside.0.1 in λ q low high. none_else _ (λ some.
    let fits : q < c.args.to = omega (arith, high, end) in
    not_above c.in_ok-number.number.now q high (subst (λ r. IfSome (slice_get r 0) (λ e. is_gt (nat_cmp e.0 q) ≡ false)) first (least q (from_up c.args.from q low, below q c.args.to fits) some)))
