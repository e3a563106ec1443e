-- Says how the code of `put_steps` reads: terms of steps, of which those are gathered whose index is known.
use Rattle.std.specs.Prelude.{◌≡◌, ℕ, ◌+◌, ◌*◌, ◌≤◌, nat_lt, Bool, true, false, Option, Some, None, List, [], ◌∷◌, map, if◌then◌else◌}
use Rattle.std.specs.List.{All}
use Rattle.std.specs.Option.{option_map_or}
use Rattle.ir_eval.specs.declared.value.Scalar.{Scalar}
use Rattle.ir_eval.specs.declared.value.Scalar.TheVariants.{Int, Ptr, Poison}
use Rattle.type_table.specs.declared.measure.TheConstants.{SIZE_LIMIT}
use Rattle.run_actions.specs.declared.stack.origin.Origin.{Origin}
use Rattle.run_actions.specs.declared.stack.origin.Origin.TheVariants.{Held, Known}
use Rattle.run_decode.specs.declared.operands.counted.TheConstants.{NO_SIGN_BELOW}
use Rattle.run_decode.specs.declared.operands.steps.Step.{Step}
use Rattle.run_decode.specs.Operands.Steps as steps
use Rattle.run_decode.specs.declared.flat.action.Term.{Term}
use Rattle.run_decode.specs.declared.flat.pools.Pools.{Pools}
use Rattle.run_decode.specs.Flat.Flat.{IsTermIn, term_of}

-- a number that has no sign at any width of 32 bits or more
abbrev pub number_count : ℕ → Option ℕ
number_count number = if nat_lt number NO_SIGN_BELOW then Some number else None

-- the same of a leaf
abbrev pub leaf_count : Scalar → Option ℕ
leaf_count (Int number) = number_count number
leaf_count (Ptr p) = None
leaf_count Poison = None

-- the same of an index, where it is known
abbrev pub index_count : Origin → Option ℕ
index_count (Held place) = None
index_count (Known leaf) = leaf_count leaf

-- how often an index of that width counts what it counts, where that is known
abbrev pub count_at : Origin → ℕ → Option ℕ
count_at index width = if nat_lt width 32 then None else index_count index

-- that is known
abbrev pub is_counted : Option ℕ → Bool
is_counted (Some count) = true
is_counted None = false

-- how many bytes a step leads over whose index is known
unfoldable pub led : Step → ℕ
led s = option_map_or (λ count. count * s.size) (count_at s.index s.width) 0

-- all of them together
abbrev pub led_by : List Step → ℕ
led_by [] = 0
led_by (s ∷ ss) = led s + led_by ss

-- a term of a step is gathered where its index is known, and its index is there
pub record IsOpen (p : Pools) (s : Step) (t : Term) : Type 0 where
  pub within : IsTermIn p t
  pub means : term_of p t ≡ steps.term_of s
  pub apart : t.gathered ≡ is_counted (count_at s.index s.width)
  pub small : t.size ≤ SIZE_LIMIT

-- the same of terms of steps, one after another
pub record AreOpen (p : Pools) (ss : List Step) (ts : List Term) : Type 0 where
  pub within : All (IsTermIn p) ts
  pub means : map (term_of p) ts ≡ map steps.term_of ss
  pub apart : map (λ t. t.gathered) ts ≡ map (λ s. is_counted (count_at s.index s.width)) ss
  pub small : All (λ t. t.size ≤ SIZE_LIMIT) ts
