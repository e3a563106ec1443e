-- For `place_main`: what is made of the arguments of main.
use Rattle.std.specs.Prelude.{◌≡◌, ℕ, ◌+◌, ◌*◌, ◌<◌, ◌≤◌, false, List, [], ◌∷◌, length, slice_get, Option, Some, None, Result, Ok, Err}
use Rattle.std.specs.List.{All}
use Rattle.ir_eval.specs.declared.value.Pointer.{Pointer}
use Rattle.ir_eval.specs.declared.value.Scalar.TheVariants as scalar
use Rattle.ir_memory.specs.declared.kind.BlockKind.TheVariants as kind
use Rattle.ir_memory.specs.declared.leaf.Leaf.TheVariants as leaf
use Rattle.ir_memory.specs.Given.{IsKnown}
use Rattle.ir_memory.specs.Memory.{Blocks, byte_limit, reach, slack}
use Rattle.run_rules.specs.Access.{next_block}
use Rattle.run_rules.specs.Opening.{made}
use Rattle.run_rules.specs.Plan.{Contents}
use Rattle.run_rules.specs.declared.end.End.{End}
use Rattle.run_rules.specs.declared.end.End.TheVariants.{MemoryLimit}
use Rattle.run_rules.specs.State.{Due}
use Rattle.run_names.specs.Spots.{variables_end}
use Rattle.run_acts.specs.Dues.{due_of}
use Rattle.run_acts.specs.declared.due.DueCall.{DueCall}

-- the blocks that were there are as they were, and it is sealed if it was
pub record KeepsBlocks (m n : Blocks) : Type 0 where
  pub sealed : n.sealed ≡ m.sealed
  pub more : length m.list ≤ length n.list
  pub same : (j : ℕ) → j < length m.list → slice_get n.list j ≡ slice_get m.list j

-- a block more, and its pointer, or too many bytes would live
abbrev pub MakesBlock : ℕ → ℕ → Option Pointer → Blocks → Blocks → Type 0
MakesBlock size align (Some p) old new = (made size align (kind.Variable false) old ≡ Ok new) × (p ≡ next_block align old)
MakesBlock size align None old new = made size align (kind.Variable false) old ≡ Err MemoryLimit

-- what was to be made was made, and its pointer is to a block
pub record Places (expected : Result (Blocks × Pointer) End) (p : Pointer) (old new : Blocks) : Type 0 where
  pub made : expected ≡ Ok (new, p)
  pub known : IsKnown new.list p
  pub kept : KeepsBlocks old new

-- the same, or too many bytes would live
abbrev pub MakesWith : Result (Blocks × Pointer) End → Option Pointer → Blocks → Blocks → Type 0
MakesWith expected (Some p) old new = Places expected p old new
MakesWith expected None old new = expected ≡ Err MemoryLimit

-- as far as the next address may be once all variables have their blocks: none ends further on than there are addresses
-- of variables, and behind them the greatest alignment and the gap fit
abbrev pub behind_variables : ℕ
behind_variables = variables_end + slack

-- the same of several, which are no more than bytes may live; the next address is no further off than so many blocks allow
pub record PlacesAll (expected : Result (Blocks × List Pointer) End) (ps : List Pointer) (old new : Blocks) : Type 0 where
  pub made : expected ≡ Ok (new, ps)
  pub known : All (IsKnown new.list) ps
  pub few : length ps ≤ byte_limit
  pub near : new.next ≤ old.next + length ps * reach
  pub kept : KeepsBlocks old new

-- pointers in a row, from that place on
abbrev pub pointers_at : ℕ → List Pointer → Contents
pointers_at place [] = []
pointers_at place (p ∷ ps) = (record { offset = place * 8; leaf = leaf.Ptr }, scalar.Ptr p) ∷ pointers_at (place + 1) ps

-- main as it is due, or too many bytes would live
abbrev pub MakesMain : Result (Blocks × Due) End → Option DueCall → Blocks → Blocks → Type 0
MakesMain expected (Some call) old new = (expected ≡ Ok (new, due_of call)) × KeepsBlocks old new
MakesMain expected None old new = expected ≡ Err MemoryLimit
