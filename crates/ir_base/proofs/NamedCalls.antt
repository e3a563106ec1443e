-- How many calls are told to fail, call by call.
use Rattle.std.proofs.Common.{◌≡◌, ◌+◌, ℕ, zero, suc, List, [], ◌∷◌, refl, ap, if◌then◌else◌, add-one}
use Rattle.ir_base.specs.Calls.{named_calls, is_named}

-- one call more
pub named_calls_more : (fails : List ℕ) (calls : ℕ) → named_calls fails (calls + 1) ≡ named_calls fails calls + (if is_named fails (calls + 1) then 1 else 0)
unfolding named_calls
named_calls_more fails calls = ap (named_calls fails) (add-one calls)

-- none before the first call
pub named_calls_zero : (fails : List ℕ) → named_calls fails 0 ≡ 0
unfolding named_calls
named_calls_zero fails = refl

-- none where no call is told to fail
pub named_calls_none : (calls : ℕ) → named_calls [] calls ≡ 0
unfolding named_calls
named_calls_none zero = refl
named_calls_none (suc calls) = ap (λ n. n + 0) (named_calls_none calls)

-- of four calls the second and the third are told to fail, and no fifth call was made
pub named_calls_of_four : named_calls (3 ∷ 5 ∷ 2 ∷ []) 4 ≡ 2
unfolding named_calls
named_calls_of_four = refl
