-- For the calls of `Source`, `Sink` and `Files`: what a call does to what an object of the outside has, where it tells
-- that, and to its count of faults.
use Rattle.std.specs.Borrow.{Bor}
use Rattle.std.specs.Prelude.{◌≡◌, ◌⊎◌, ℕ, ◌-◌, ◌^◌, ◌<◌, ◌≤◌, List, [], ◌∷◌, ◌++◌, length, take, Option, option_map}

-- there was another fault: the count rose, or stands at the greatest number that a counter can tell
abbrev pub Rose : ℕ → ℕ → Type 0
Rose before now = (before < now) ⊎ (2 ^ 64 - 1 ≤ now)

-- what was left begins with these bytes, and loses them
abbrev pub Lost : Option (List ℕ) → Option (List ℕ) → List ℕ → Type 0
Lost before now front = before ≡ option_map (λ rest. front ++ rest) now

-- what was taken gets these bytes at its end
abbrev pub Added : Option (List ℕ) → Option (List ℕ) → List ℕ → Type 0
Added before now end = now ≡ option_map (λ old. old ++ end) before

-- some front was lost, of no more bytes than the limit
pub record LostUpTo (limit : ℕ) (before now : Option (List ℕ)) : Type 0 where
  pub front : List ℕ
  pub few : length front ≤ limit
  pub lost : Lost before now front

-- a front of the line was added, and all of it unless there was another fault
pub record Wrote (before now : Option (List ℕ)) (faults_before faults_now : ℕ) (line : List ℕ) : Type 0 where
  pub count : ℕ
  pub within : count ≤ length line
  pub added : Added before now (take count line)
  pub all : (count ≡ length line) ⊎ Rose faults_before faults_now

-- the pieces one behind the other
abbrev pub joined : List (Bor (List ℕ)) → List ℕ
joined [] = []
joined (piece ∷ pieces) = piece.now ++ joined pieces
