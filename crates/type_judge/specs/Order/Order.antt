-- For `dependency_order` and `all_mentions`: numbers in an order in which each stands behind those that it mentions.
use Rattle.std.specs.Prelude.{◌≡◌, ◌⊎◌, ℕ, ◌<◌, ◌≤◌, Bool, true, false, List, [], ◌∷◌, map, length, All, slice_index_or, nat_eq}
use Rattle.std.specs.List.{list_any, IsDistinct}
use Rattle.std.specs.Global.{Vec}

-- the numbers that each number mentions
abbrev pub mention_lists : List (Vec ℕ) → List (List ℕ)
mention_lists lists = map (λ list. list.items) lists

-- each mentions only numbers that have a list
abbrev pub AreWithin : List (Vec ℕ) → Type 0
AreWithin lists = All (λ list. All (λ number. number < length lists) list.items) lists

-- what the number mentions
abbrev pub mentioned : List (List ℕ) → ℕ → List ℕ
mentioned lists number = slice_index_or lists number []

-- the number is one of these
abbrev pub HasNumber : ℕ → List ℕ → Type 0
HasNumber number [] = ⊥
HasNumber number (first ∷ more) = (number ≡ first) ⊎ HasNumber number more

-- whether the number stands in the order
abbrev pub stands_in : List ℕ → ℕ → Bool
stands_in order number = list_any (nat_eq number) order

-- each of these is marked
abbrev pub AreSettled : List Bool → List ℕ → Type 0
AreSettled settled mentions = (number : ℕ) → HasNumber number mentions → slice_index_or settled number false ≡ true

-- one of these is not
abbrev pub HasUnsettled : List Bool → List ℕ → Type 0
HasUnsettled settled mentions = (number : ℕ) × HasNumber number mentions × (slice_index_or settled number false ≡ false)

-- each of these mentions only what stands before it
abbrev pub StandBehind : List (List ℕ) → List ℕ → List ℕ → Type 0
StandBehind lists before [] = Unit {0}
StandBehind lists before (number ∷ more) =
    ((other : ℕ) → HasNumber other (mentioned lists number) → stands_in before other ≡ true)
    × StandBehind lists (number ∷ before) more

-- the number mentions one that does not stand in the order
abbrev pub HasLeft : List (List ℕ) → List ℕ → ℕ → Type 0
HasLeft lists order number = (other : ℕ) × HasNumber other (mentioned lists number) × (stands_in order other ≡ false)

-- distinct numbers in such an order, and the marks of those that stand in it
pub record IsSettling (lists : List (List ℕ)) (settled : List Bool) (order : List ℕ) : Type 0 where
  pub count : length settled ≡ length lists
  pub marks : (number : ℕ) → slice_index_or settled number false ≡ stands_in order number
  pub behind : StandBehind lists [] order
  pub distinct : IsDistinct nat_eq order

-- what comes of a try with one number: the order is longer, or the number stands in it already or can't
pub record Keeps (lists : List (List ℕ)) (number : ℕ) (old new : List ℕ) : Type 0 where
  pub longer : length old ≤ length new
  pub same : length new ≡ length old → new ≡ old
  pub left : length new ≡ length old → stands_in old number ≡ false → HasLeft lists old number

-- what comes of a try with each number below this one
pub record KeepsAll (lists : List (List ℕ)) (count : ℕ) (old new : List ℕ) : Type 0 where
  pub longer : length old ≤ length new
  pub same : length new ≡ length old → new ≡ old
  pub left : length new ≡ length old → (number : ℕ) → number < count → stands_in old number ≡ false → HasLeft lists old number

-- distinct numbers, each behind those that it mentions; a number that is left out mentions one that is left out
pub record IsOrder (lists : List (List ℕ)) (order : List ℕ) : Type 0 where
  pub within : (number : ℕ) → stands_in order number ≡ true → number < length lists
  pub behind : StandBehind lists [] order
  pub distinct : IsDistinct nat_eq order
  pub left : (number : ℕ) → number < length lists → stands_in order number ≡ false → HasLeft lists order number
