-- Types without parts are within the limits, and what a type within them says of its parts.
use Rattle.std.proofs.Common.{ℕ, ◌+◌, ◌/◌, ◌^◌, ◌<◌, ◌≤◌, Bool, true, false, cond, nat_le, Option, Some, None, option_map, arith}
use Rattle.std.specs.Int.{next_multiple_of}
use Rattle.type_table.specs.Layout.{int_align, int_size}
use Rattle.type_table.specs.Limits.{IsWithinLimits}
use Rattle.type_table.specs.Shape.{Shape, array_of, expanded, name_shape, shape}
use Rattle.type_table.specs.Tree.{Tree, int, ptr, void, array, Structs, body_of}

small_align : (a b c d : Bool) → (0 < cond a 1 (cond b 2 (cond c 4 (cond d 8 16)))) × (cond a 1 (cond b 2 (cond c 4 (cond d 8 16))) ≤ 16)
small_align true b c d = (omega arith, omega arith)
small_align false true c d = (omega arith, omega arith)
small_align false false true d = (omega arith, omega arith)
small_align false false false true = (omega arith, omega arith)
small_align false false false false = (omega arith, omega arith)

small_multiple : (x y : ℕ) → 0 < y → next_multiple_of x y ≤ x + y
small_multiple x y lt = omega arith

small_size : (w : ℕ) → w ≤ 128 → int_size w ≤ 2 ^ 40
small_size w le =
    let a = small_align (nat_le w 8) (nat_le w 16) (nat_le w 32) (nat_le w 64) in
    let m = small_multiple ((w + 7) / 8) (int_align w) a.0 in
    let some = a.1 in
    let x : (w + 7) / 8 ≤ 16 = omega arith in
    omega (arith, m, some, x)

pub int_fits : (ss : Structs) (w : ℕ) → w ≤ 128 → IsWithinLimits (shape ss (int w))
int_fits ss w le = record { nests = omega arith; parts_fit = omega arith; length_fits = omega arith; size_fits = λ e. small_size w le }

pub ptr_fits : (ss : Structs) → IsWithinLimits (shape ss ptr)
ptr_fits ss = record { nests = omega arith; parts_fit = omega arith; length_fits = omega arith; size_fits = λ e. omega arith }

pub void_fits : (ss : Structs) → IsWithinLimits (shape ss void)
void_fits ss = record { nests = omega arith; parts_fit = omega arith; length_fits = omega arith; size_fits = λ e. omega arith }

short : (n : ℕ) (o : Option Shape) → IsWithinLimits (option_map (array_of n) o) → n ≤ 2 ^ 40
short n None within = absurd within
short n (Some s) within = within.length_fits

pub array_is_short : (ss : Structs) (n : ℕ) (t : Tree) → IsWithinLimits (shape ss (array n t)) → n ≤ 2 ^ 40
array_is_short ss n t within = short n (expanded (name_shape (λ _. None) (body_of ss) 64) t) within
