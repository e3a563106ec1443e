-- For `take` and `must_read` of `Input`: the bytes that wait, and what a read does to them.
use Rattle.std.specs.Prelude.{◌≡◌, ◌⊎◌, ◌↔◌, ℕ, ◌≤◌, Bool, true, false, List, [], ◌∷◌, ◌++◌, length, Option, Some, None, IfSome, if◌then◌else◌}
use Rattle.ir_base.specs.Outside.{Lost}
use Rattle.run_rules.specs.declared.traffic.input.TheConstants.{INPUT_PIECE}

-- what was read and is not used yet, and whether nothing is read any more
pub record Waiting : Type 0 where
  pub unused : List ℕ
  pub closed : Bool

-- no byte waits, and one may be read
abbrev pub IsWaiting : Waiting → Type 0
IsWaiting w = (w.unused ≡ []) × (w.closed ≡ false)

-- the input that a run still has, where the source has `rest` left
abbrev pub bytes_left : Waiting → List ℕ → List ℕ
bytes_left w rest = w.unused ++ (if w.closed then [] else rest)

-- the first of the bytes, or None where there is none; the others are left
abbrev pub IsNext : List ℕ → Option ℕ → List ℕ → Type 0
IsNext [] byte others = (byte ≡ None) × (others ≡ [])
IsNext (b ∷ bs) byte others = (byte ≡ Some b) × (others ≡ bs)

-- a read has given what now waits, at most 65,536 bytes; none exactly where from now on none are read, and the source has none left
pub record IsHeard (before now : Option (List ℕ)) (new : Waiting) : Type 0 where
  pub lost : Lost before now new.unused
  pub few : length new.unused ≤ INPUT_PIECE
  pub closes : (new.closed ≡ true) ↔ (new.unused ≡ [])
  pub at_end : new.closed ≡ true → IfSome now (λ rest. rest ≡ [])

-- These bytes were read for a byte that was asked for while none waited. At most 65,536 came, and none exactly where from now on
-- none are read, and the source has none left
pub record HasHeard (old new : Waiting) (heard : List ℕ) (now : Option (List ℕ)) : Type 0 where
  pub waits : IsWaiting old
  pub few : length heard ≤ INPUT_PIECE
  pub closes : (new.closed ≡ true) ↔ (heard ≡ [])
  pub at_end : new.closed ≡ true → IfSome now (λ rest. rest ≡ [])

-- The byte is the first of the input that the run still has, whatever the source has left behind the bytes that were read; where
-- this call has found its end, that is nothing. Bytes are read only where none wait
pub record Takes (old : Waiting) (byte : Option ℕ) (new : Waiting) (before now : Option (List ℕ)) : Type 0 where
  pub heard : List ℕ
  pub lost : Lost before now heard
  pub reads : ((heard ≡ []) × (new.closed ≡ old.closed)) ⊎ HasHeard old new heard now
  pub next : (rest : List ℕ) → (old.closed ≡ false → new.closed ≡ true → rest ≡ []) → IsNext (bytes_left old (heard ++ rest)) byte (bytes_left new rest)
