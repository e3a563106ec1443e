-- For `StructMentions::contains_itself`, and how the code reads: which numbers a number leads to, through lists of what each
-- number mentions.
use Rattle.std.specs.Prelude.{◌≡◌, ◌⊎◌, ℕ, zero, suc, ◌<◌, ◌≤◌, Bool, true, false, List, ◌++◌, length, slice_index_or, nat_eq}
use Rattle.std.specs.List.{IsDistinct}
use Rattle.type_judge.specs.Order.Order.{mentioned, HasNumber, stands_in}

-- the first number leads to the second through so many others
abbrev pub LeadsBy : List (List ℕ) → ℕ → ℕ → ℕ → Type 0
LeadsBy lists start zero number = HasNumber number (mentioned lists start)
LeadsBy lists start (suc others) number = (last : ℕ) × LeadsBy lists start others last × HasNumber number (mentioned lists last)

-- the first number leads to the second
abbrev pub LeadsTo : List (List ℕ) → ℕ → ℕ → Type 0
LeadsTo lists start number = (others : ℕ) × LeadsBy lists start others number

-- the marks of exactly the numbers in the queue, which are distinct
pub record AreMarks (marks : List Bool) (queue : List ℕ) : Type 0 where
  pub each : (number : ℕ) → slice_index_or marks number false ≡ stands_in queue number
  pub distinct : IsDistinct nat_eq queue

-- the queue has grown at its end by numbers of these, and has each of them
pub record HasGrown (numbers old new : List ℕ) : Type 0 where
  pub extra : List ℕ
  pub longer : new ≡ old ++ extra
  pub there : (number : ℕ) → HasNumber number numbers → stands_in new number ≡ true
  pub from : (number : ℕ) → stands_in new number ≡ true → (stands_in old number ≡ true) ⊎ HasNumber number numbers

-- each in the queue is led to, what the first mentions is in it, and so is what the numbers at places below this one mention
pub record IsSearched (lists : List (List ℕ)) (start next : ℕ) (queue : List ℕ) : Type 0 where
  pub sound : (number : ℕ) → stands_in queue number ≡ true → LeadsTo lists start number
  pub first : (number : ℕ) → HasNumber number (mentioned lists start) → stands_in queue number ≡ true
  pub done : (place : ℕ)
      → place < next
      → place < length queue
      → (number : ℕ)
      → HasNumber number (mentioned lists (slice_index_or queue place 0))
      → stands_in queue number ≡ true

-- the marks of exactly the numbers that the first leads to
pub record AreReached (lists : List (List ℕ)) (start : ℕ) (marks : List Bool) : Type 0 where
  pub sound : (number : ℕ) → slice_index_or marks number false ≡ true → LeadsTo lists start number
  pub first : (number : ℕ) → HasNumber number (mentioned lists start) → slice_index_or marks number false ≡ true
  pub closed : (last number : ℕ) → slice_index_or marks last false ≡ true → HasNumber number (mentioned lists last) → slice_index_or marks number false ≡ true

-- each of these numbers has that rank or a higher one; a number without a rank has 0
abbrev pub AreFrom : List ℕ → ℕ → List ℕ → Type 0
AreFrom ranks low numbers = (number : ℕ) → HasNumber number numbers → low ≤ slice_index_or ranks number 0

-- each of these numbers has a higher rank
abbrev pub AreAbove : List ℕ → ℕ → List ℕ → Type 0
AreAbove ranks low numbers = (number : ℕ) → HasNumber number numbers → low < slice_index_or ranks number 0

-- no number mentions one of a lower rank
abbrev pub IsRising : List (List ℕ) → List ℕ → Type 0
IsRising lists ranks = (last : ℕ) → AreFrom ranks (slice_index_or ranks last 0) (mentioned lists last)
