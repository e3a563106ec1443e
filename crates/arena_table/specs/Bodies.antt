-- Says how the code reads: the bodies of functions that the table makes.
use Rattle.std.specs.Prelude.{ℕ, ◌<◌, List, [], ◌∷◌, Some, None}
use Rattle.ir_tables.specs.Flags.{flags_with}
use Rattle.ir_tables.specs.declared.flag.Flag.TheVariants as flag
use Rattle.ir_tables.specs.declared.opcode.Opcode.TheVariants as opcode
use Rattle.ir_tables.specs.declared.predicate.Predicate.TheVariants as predicate
use Rattle.module_arena.specs.declared.entry.Block.{Block}
use Rattle.module_arena.specs.declared.entry.LocalName.TheVariants.{Numbered}
use Rattle.module_arena.specs.declared.instruction.Ending.{Ending}
use Rattle.module_arena.specs.declared.instruction.Ending.TheVariants as ending
use Rattle.module_arena.specs.declared.instruction.Inst.{Inst}
use Rattle.module_arena.specs.declared.instruction.Inst.TheVariants as inst
use Rattle.module_arena.specs.declared.instruction.Operand.{Operand}
use Rattle.module_arena.specs.declared.instruction.Value.{Value}
use Rattle.module_arena.specs.declared.instruction.Value.TheVariants.{Local, Known}
use Rattle.arena_table.specs.declared.arena.body.Parts.{Parts}

-- the types and the constants are below these counts
pub record KnowsParts (types constants : ℕ) (p : Parts) : Type 0 where
  pub ty_known : p.ty < types
  pub pointer_known : p.pointer < types
  pub bit_known : p.bit < types
  pub start_known : p.start < constants
  pub limit_known : p.limit < constants
  pub step_known : p.step < constants

-- a result at a type
abbrev pub at : ℕ → ℕ → Operand
at ty number = record { ty = ty; value = Local number }

-- a place on the stack
abbrev pub slots : Parts → ℕ → Inst
slots p number = inst.Alloca number p.ty None (Some 4)

-- a store
abbrev pub stores : Parts → Value → ℕ → Inst
stores p value address = inst.Store 0 (record { ty = p.ty; value = value }) (at p.pointer address) (Some 4)

-- a load
abbrev pub loads : Parts → ℕ → ℕ → Inst
loads p number address = inst.Load 0 number p.ty (at p.pointer address) (Some 4)

-- an addition
abbrev pub adds : Parts → ℕ → ℕ → Value → Inst
adds p number left right = inst.Binary opcode.Add (flags_with 0 flag.Nsw) number (at p.ty left) right

-- a comparison
abbrev pub compares : Parts → ℕ → ℕ → Value → Inst
compares p number left right = inst.Compare 0 predicate.Slt number (at p.ty left) right

-- a block without a name of its own
abbrev pub block : ℕ → List Inst → Ending → Block
block number instructions end = record { name = Numbered number; instructions = instructions; end = end }

-- the block of a small function
abbrev pub small_blocks : Parts → List Block
small_blocks p =
    block 0 (slots p 0 ∷ stores p (Known p.start) 0 ∷ loads p 1 0 ∷ adds p 2 1 (Known p.step) ∷ stores p (Local 2) 0 ∷ []) (ending.Return (at p.ty 2))
    ∷ []

-- the blocks of a loop
abbrev pub entry_block : Parts → Block
entry_block p =
    block 0 (slots p 0 ∷ slots p 1 ∷ slots p 2 ∷ stores p (Known p.start) 0 ∷ stores p (Known p.start) 1 ∷ stores p (Known p.start) 2 ∷ []) (ending.Jump 1)

-- the second block: whether the counter is below the limit
abbrev pub test_block : Parts → Block
test_block p = block 4 (loads p 3 2 ∷ compares p 4 3 (Known p.limit) ∷ []) (ending.Branch (at p.bit 4) 2 4)

-- the third block: the counter is added to the sum
abbrev pub turn_block : Parts → Block
turn_block p = block 7 (loads p 5 2 ∷ loads p 6 1 ∷ adds p 7 6 (Local 5) ∷ stores p (Local 7) 1 ∷ []) (ending.Jump 3)

-- the fourth block: the counter goes up by the step
abbrev pub step_block : Parts → Block
step_block p = block 11 (loads p 8 2 ∷ adds p 9 8 (Known p.step) ∷ stores p (Local 9) 2 ∷ []) (ending.Jump 1)

-- the last block: the sum is returned
abbrev pub last_block : Parts → Block
last_block p = block 14 (loads p 10 1 ∷ []) (ending.Return (at p.ty 10))

-- the blocks of the function that sums
abbrev pub sum_blocks : Parts → List Block
sum_blocks p = entry_block p ∷ test_block p ∷ turn_block p ∷ step_block p ∷ last_block p ∷ []
