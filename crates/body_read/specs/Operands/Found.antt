-- For `read_value`, `read_operand`, `read_operands` and `read_types`: what is found, that the arena has it, and what it is.
use Rattle.std.specs.Prelude.{◌≡◌, ◌<◌, ℕ, false, List, length, map, All, ⊤, Option, Some, None}
use Rattle.std.specs.Option.{option_map}
use Rattle.type_table.specs.Tree.{Tree}
use Rattle.type_table.specs.Types.{tree, trees}
use Rattle.module_arena.specs.declared.instruction.Operand as the_operand
use Rattle.module_arena.specs.declared.instruction.Value as the_value
use Rattle.module_arena.specs.Known as known
use Rattle.module_arena.specs.Lists.{Lists}
use Rattle.module_arena.specs.Module as m
use Rattle.module_arena.specs.View.{constants_of, block_name, operand_view, value_view}
use Rattle.record_table.specs.Constants.{value}
use Rattle.record_table.specs.Fields.{Numbering}
use Rattle.record_table.specs.Lines.{operand}
use Rattle.record_table.specs.Walk.{Walk}
use Rattle.record_read.specs.Reader.{is_broken}
use Rattle.type_read.specs.declared.arena.counts.LocalCounts.{LocalCounts}
use Rattle.type_read.specs.declared.arena.module_reader.ModuleReader.{ModuleReader}
use Rattle.type_read.specs.Arena.Growing.{Growing, Grows}
use Rattle.type_read.specs.Arena.Kept.{Goes, IsThere}
use Rattle.type_read.specs.Arena.Numbered.{Numbers, IsDeclared}

-- it holds of the arena, and goes on to hold while constants are added
abbrev pub Always : Growing → (Lists → Type 0) → Type 0
Always now P = (later : Growing) → Grows now later → P later.arena

-- Operands in front were read; the arena got constants alone, and nothing else changed. What is found is there, and there is
-- none only where a rule is broken. Where no rule is, and all entries are declared, it is what the operands stand for.
pub record Finds {A B : Type 0} (has : LocalCounts → Lists → B → Type 0) (seen : Numbering → Lists → B → A)
    (read : Numbering → Walk → A × Walk) (old new : ModuleReader) (found : Option B) : Type 0 where
  pub goes : Goes old new
  pub there : Always new.growing (λ a. IsThere (has new.locals a) found new.reader.walk)
  pub walk : (k : Numbering) → Numbers old k → new.reader.walk ≡ (read k old.reader.walk).1
  pub kept : (k : Numbering) → Numbers old k → IsDeclared old k
      → is_broken new.reader.walk ≡ false
      → Always new.growing (λ a. option_map (seen k a) found ≡ Some (read k old.reader.walk).0)

-- both, where both are found
abbrev pub both : {B D : Type 0} → Option B → Option D → Option (B × D)
both (Some x) (Some y) = Some (x, y)
both _ _ = None

-- ---- what the arena and the body have

-- a type of the arena
abbrev pub HasType : LocalCounts → Lists → ℕ → Type 0
HasType l a id = id < length a.table.types

-- a block of the body
abbrev pub HasBlock : LocalCounts → Lists → ℕ → Type 0
HasBlock l a id = id < l.blocks

-- a constant of the arena, or a parameter or result of the body
abbrev pub HasValue : LocalCounts → Lists → the_value.Value → Type 0
HasValue l a v = known.HasValue (length a.constants) l.values v

-- the same behind a type of the arena
abbrev pub HasOperand : LocalCounts → Lists → the_operand.Operand → Type 0
HasOperand l a o = known.HasOperand (length a.table.types) (length a.constants) l.values o

-- an operand that may be left out
abbrev pub HasRoom : LocalCounts → Lists → Option the_operand.Operand → Type 0
HasRoom l a None = ⊤
HasRoom l a (Some o) = HasOperand l a o

-- types of the arena
abbrev pub HasTypes : LocalCounts → Lists → List ℕ → Type 0
HasTypes l a ids = All (HasType l a) ids

-- operands that the arena and the body have
abbrev pub HasOperands : LocalCounts → Lists → List the_operand.Operand → Type 0
HasOperands l a os = All (HasOperand l a) os

-- ---- what it is

-- the type of that number
abbrev pub type_in : Numbering → Lists → ℕ → Tree
type_in k a id = tree a.table id

-- the block of that number
abbrev pub block_in : Numbering → Lists → ℕ → m.LocalName
block_in k a id = block_name (trees a.table) (constants_of a) k.values k.blocks id

-- the value that is kept so
abbrev pub value_in : Numbering → Lists → the_value.Value → m.Value
value_in k a v = value_view (trees a.table) (constants_of a) k.values k.blocks v

-- the operand that is kept so
abbrev pub operand_in : Numbering → Lists → the_operand.Operand → m.Operand
operand_in k a o = operand_view (trees a.table) (constants_of a) k.values k.blocks o

-- the same, where one is written
abbrev pub room_in : Numbering → Lists → Option the_operand.Operand → Option m.Operand
room_in k a room = option_map (operand_in k a) room

-- the types of these numbers
abbrev pub types_in : Numbering → Lists → List ℕ → List Tree
types_in k a ids = map (type_in k a) ids

-- the operands that are kept so
abbrev pub operands_in : Numbering → Lists → List the_operand.Operand → List m.Operand
operands_in k a os = map (operand_in k a) os

-- ---- operands

-- a type and a value, as they are kept
abbrev pub kept_operand : ℕ × the_value.Value → the_operand.Operand
kept_operand (t, v) = record { ty = t; value = v }

-- a value of that type, as an operand
abbrev pub operand_at : Numbering → Tree → Walk → m.Operand × Walk
operand_at k t w = let v = (value k t).read w in (operand t v.0, v.1)
