-- Says how the code reads: how the block that can have an address is found.
use Rattle.std.specs.Prelude.{◌≡◌, ℕ, ◌+◌, ◌*◌, ◌/◌, ◌%◌, ◌<◌, ◌≤◌, List, [], ◌∷◌, ◌++◌, length, nat_eq, true, Option, Some, None, Result, Ok, Err, slice_index_or, if◌then◌else◌}
use Rattle.ir_tables.specs.declared.undefined_kind.UndefinedKind.{UndefinedKind}
use Rattle.ir_memory.specs.declared.access.BlockPlace.{BlockPlace}
use Rattle.ir_memory.specs.declared.kept.KeptBlock.{KeptBlock}
use Rattle.ir_memory.specs.MemoryBlock.{MemoryBlock}
use Rattle.ir_memory.specs.Numbered.{row}

-- where the first block of each page began, of 64 numbers each: a live block of the page begins there or behind it, and
-- one of an earlier page ends before it
pub record AreStarts (starts : List ℕ) (blocks : List MemoryBlock) : Type 0 where
  pub enough : length blocks ≤ 64 * length starts
  pub few : 64 * length starts < length blocks + 64
  pub rising : (p q : ℕ) → p ≤ q → q < length starts → slice_index_or starts p 0 ≤ slice_index_or starts q 0
  pub low : (k : ℕ) (d : MemoryBlock) → k < length blocks → (slice_index_or blocks k d).live ≡ true → slice_index_or starts (k / 64) 0 ≤ (slice_index_or blocks k d).start
  pub high : (k p : ℕ) (d : MemoryBlock)
      → k < length blocks
      → (slice_index_or blocks k d).live ≡ true
      → k / 64 < p
      → p < length starts
      → (slice_index_or blocks k d).start + (slice_index_or blocks k d).size < slice_index_or starts p 0

-- no page starts behind the address
abbrev pub AreBefore : List ℕ → ℕ → Type 0
AreBefore starts address = (p : ℕ) → p < length starts → slice_index_or starts p 0 ≤ address

-- the block of a number begins there: where it is the first of a page, the page does
abbrev pub noted : ℕ → ℕ → List ℕ → List ℕ
noted index start starts = if nat_eq (index % 64) 0 then starts ++ start ∷ [] else starts

-- so many pages start at or below the address, and the others above it
pub record IsSplit (starts : List ℕ) (address below : ℕ) : Type 0 where
  pub within : below ≤ length starts
  pub low : (p : ℕ) → p < below → slice_index_or starts p 0 ≤ address
  pub high : (p : ℕ) → below ≤ p → p < length starts → address < slice_index_or starts p 0

-- no live block from one number up to another begins at or below the address
abbrev pub HasNone : List KeptBlock → ℕ → ℕ → ℕ → Type 0
HasNone kept from to address = (k : ℕ) → from ≤ k → k < to → (row kept k).live ≡ true → address < (row kept k).start

-- the last live block up to a number that begins at or below the address, or none of those from a number on does
abbrev pub IsLast : List KeptBlock → ℕ → ℕ → ℕ → Option ℕ → Type 0
IsLast kept from to address None = HasNone kept from to address
IsLast kept from to address (Some i) = (i < to) × ((row kept i).live ≡ true) × ((row kept i).start ≤ address) × HasNone kept (i + 1) to address

-- no other live block has the address in it or at its end
abbrev pub HasOnly : List MemoryBlock → ℕ → Option ℕ → Type 0
HasOnly blocks address place =
    (k : ℕ) (d : MemoryBlock) → k < length blocks → (slice_index_or blocks k d).live ≡ true → (slice_index_or blocks k d).start ≤ address
    → address ≤ (slice_index_or blocks k d).start + (slice_index_or blocks k d).size → place ≡ Some k

-- the place is that of the block, or no other block than that at the place has the address
abbrev pub IsOnly : List MemoryBlock → Option ℕ → ℕ → Option ℕ → Type 0
IsOnly blocks (Some i) address place = place ≡ Some i
IsOnly blocks None address place = HasOnly blocks address place

-- the answer of an access of at least one byte
abbrev pub place_there : Result BlockPlace UndefinedKind → Result (Option BlockPlace) UndefinedKind
place_there (Ok place) = Ok (Some place)
place_there (Err kind) = Err kind
