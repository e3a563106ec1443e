-- What frames in a pool weigh.
use Rattle.std.proofs.Common.{◌≡◌, ℕ, ◌+◌, ◌-◌, ◌≤◌, Bool, true, List, [], ◌∷◌, length, take, replicate, sym, ap, arith}
use Rattle.std.specs.Prelude.{nat_le}
use Rattle.std.proofs.lemmas.Bool.Decides.{nat_tests}
use Rattle.std.proofs.lemmas.List.{length-drop, length-take-le, length-append, length-replicate}
use Rattle.ir_eval.specs.declared.value.Pointer.{Pointer}
use Rattle.ir_eval.specs.declared.value.Scalar.{Scalar}
use Rattle.ir_eval.specs.declared.value.Scalar.TheVariants.{Poison}
use Rattle.run_rules.specs.Calls.{begun}
use Rattle.run_rules.specs.State.{weight, weights, weight_limit}
use Rattle.run_actions.specs.declared.stack.mark.Mark.{Mark}
use Rattle.run_actions.specs.Stack.Pool.{frames_of, AreBehind}

-- a frame begins with so many leaves
pub weight_begun : (function leaves to : ℕ) (arguments : List Scalar) → length arguments ≤ leaves → weight (begun function leaves arguments to) ≡ 1 + leaves
weight_begun function leaves to arguments h = omega (arith, h, length-append arguments (replicate (leaves - length arguments) Poison), length-replicate (leaves - length arguments) Poison)

-- the test that is made before it begins is the one of the definition
pub test_is : (others function leaves to : ℕ) (arguments : List Scalar) → length arguments ≤ leaves → nat_le (others + (1 + leaves)) weight_limit ≡ nat_le (others + weight (begun function leaves arguments to)) weight_limit
test_is others function leaves to arguments h = ap (λ n. nat_le (others + n) weight_limit) (sym (weight_begun function leaves to arguments h))

-- what was tested holds
pub room_is : (others leaves : ℕ) (test : Bool) → test ≡ nat_le (others + (1 + leaves)) weight_limit → test ≡ true → others + (1 + leaves) ≤ weight_limit
room_is others leaves test e t = grind (arith, nat_tests)

-- all frames weigh as many as there are, and as many as the pool has leaves
pub weights_are : (leaves : List Scalar) (allocas : List Pointer) (m : Mark) (ns : List Mark) → AreBehind (length leaves) (length allocas) m ns → weights (frames_of leaves allocas m ns) ≡ length ns + length leaves
weights_are leaves allocas m [] h = omega (arith, h.0)
weights_are leaves allocas m (n ∷ ns) h =
    let fewer : length (take m.first leaves) ≡ m.first = length-take-le m.first leaves h.0 in
    let before : length (take m.allocas allocas) ≡ m.allocas = length-take-le m.allocas allocas h.1 in
    let rest = weights_are (take m.first leaves) (take m.allocas allocas) n ns (rw (fewer, before) h.2) in
    omega (arith, h.0, rest, fewer, length-drop m.first leaves)

-- the marks below the newest stand in the code the oldest first
pub weight_of : (leaves : List Scalar) (allocas : List Pointer) (m : Mark) (below ns : List Mark) → length ns ≡ length below → AreBehind (length leaves) (length allocas) m ns → weights (frames_of leaves allocas m ns) ≡ length below + length leaves
weight_of leaves allocas m below ns e h = omega (arith, e, weights_are leaves allocas m ns h)
