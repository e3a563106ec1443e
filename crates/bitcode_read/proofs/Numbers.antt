-- The numbers of the functions that are defined, where that of the function whose body is due stands behind those whose bodies came.
use Rattle.std.proofs.Common.{◌≡◌, ◌+◌, ℕ, zero, suc, Bool, true, false, List, [], ◌∷◌, ◌++◌, length, slice_get, refl, ap, ◌∙◌, arith}
use Rattle.record_read.specs.Order.Due.{due_at}
use Rattle.bitcode_read.specs.Sofar.{numbers_from, with_number}

pub due_there : (defined : List Bool) (came first : ℕ) → slice_get (numbers_from first defined) came ≡ due_at defined came first
due_there [] came first = refl
due_there (false ∷ defined) came first = due_there defined came (suc first)
due_there (true ∷ defined) zero first = refl
due_there (true ∷ defined) (suc came) first = due_there defined came (suc first)

start : (first : ℕ) {number : ℕ} → number ≡ first + 0 → first ≡ number
start first e = omega arith

behind : (first many : ℕ) {number : ℕ} → number ≡ first + suc many → number ≡ suc first + many
behind first many e = omega arith

in_front : (is : Bool) (first number : ℕ) (numbers : List ℕ) → first ∷ with_number is number numbers ≡ with_number is number (first ∷ numbers)
in_front true first number numbers = refl
in_front false first number numbers = refl

-- with one function more
pub numbers_more : (defined : List Bool) (is : Bool) (first number : ℕ) → number ≡ first + length defined → numbers_from first (defined ++ is ∷ []) ≡ with_number is number (numbers_from first defined)
numbers_more [] true first number e = ap (λ n. n ∷ []) (start first e)
numbers_more [] false first number e = refl
numbers_more (false ∷ defined) is first number e = numbers_more defined is (suc first) number (behind first (length defined) e)
numbers_more (true ∷ defined) is first number e =
    ap (λ l. first ∷ l) (numbers_more defined is (suc first) number (behind first (length defined) e)) ∙ in_front is first number (numbers_from (suc first) defined)
