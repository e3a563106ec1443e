-- For `read_integer`, `read_address` and all that reads by `ModuleReader` into its arena: what is kept, and how it is
-- meant.
use Rattle.std.specs.Prelude.{◌≡◌, ℕ, ◌<◌, true, false, length, Option, Some, None}
use Rattle.type_table.specs.Tree.{Tree, void}
use Rattle.type_table.specs.Types.{Types, tree}
use Rattle.module_arena.specs.declared.constant.Const.{Const}
use Rattle.module_arena.specs.Lists.{Lists}
use Rattle.record_table.specs.Fields.{Numbering, ty}
use Rattle.record_table.specs.Walk.{Walk}
use Rattle.record_read.specs.Reader.{IsKept, IsBroken, is_broken}
use Rattle.type_read.specs.declared.arena.module_reader.ModuleReader.{ModuleReader}
use Rattle.type_read.specs.Arena.Growing.{AddsConstant, Grows}
use Rattle.type_read.specs.Arena.Numbered.{IsDeclared}

-- The arena got constants alone, operands were taken, and nothing else changed. A rule that is broken stays so.
pub record Goes (old new : ModuleReader) : Type 0 where
  pub grows : Grows old.growing new.growing
  pub rest : new ≡ record old { growing = new.growing; reader = record old.reader { walk = new.reader.walk } }
  pub lasts : IsBroken old.reader.walk → IsBroken new.reader.walk

-- operands were taken, and nothing else changed; a rule that is broken stays so
pub record TakesOnly (old new : ModuleReader) : Type 0 where
  pub rest : new ≡ record old { reader = record old.reader { walk = new.reader.walk } }
  pub lasts : IsBroken old.reader.walk → IsBroken new.reader.walk

-- what is kept is there; none only where a rule is broken
abbrev pub IsThere : {B : Type 0} → (B → Type 0) → Option B → Walk → Type 0
IsThere there None w = IsBroken w
IsThere there (Some kept) w = there kept

-- the same, and what is kept is in the arena
pub record Keeps {B : Type 0} (is_there : Lists → B → Type 0) (old new : ModuleReader) (answer : Option B) : Type 0 where
  pub goes : Goes old new
  pub there : IsThere (is_there new.growing.arena) answer new.reader.walk

-- The operands in front stand for that value, with that walk behind them. Where all entries are declared, what is kept is
-- meant so; and none only where a rule is broken.
pub record IsRead {A B : Type 0} (k : Numbering) (means : Lists → B → A → Type 0) (read : A × Walk) (old new : ModuleReader) (answer : Option B) : Type 0 where
  pub walk : new.reader.walk ≡ read.1
  pub kept : IsDeclared old k → IsKept (means new.growing.arena) answer read.0 new.reader.walk

-- a constant of the arena
abbrev pub HasConstant : Lists → ℕ → Type 0
HasConstant a id = id < length a.constants

-- a type of the arena; none only where a rule is broken
abbrev pub IsKnownType : ModuleReader → Option ℕ → Type 0
IsKnownType m ty = IsThere (λ id. id < length m.growing.arena.table.types) ty m.reader.walk

-- a constant is added, or there already, and nothing else changed
pub record KeepsOne (old : ModuleReader) (c : Const) (new : ModuleReader) (id : ℕ) : Type 0 where
  pub unbroken : is_broken old.reader.walk ≡ false
  pub adds : AddsConstant old.growing c new.growing id
  pub rest : new ≡ record old { growing = new.growing }

-- a constant is kept where no rule is broken
abbrev pub KeepsConstant : ModuleReader → Const → ModuleReader → Option ℕ → Type 0
KeepsConstant old c new None = (is_broken old.reader.walk ≡ true) × (new ≡ old)
KeepsConstant old c new (Some id) = KeepsOne old c new id

-- ---- types at which constants stand

-- no type stands for `void`
abbrev pub tree_at : Types → Option ℕ → Tree
tree_at t None = void
tree_at t (Some id) = tree t id

-- The operand in front stands for that type; none stands for `void`. Nothing else changed.
pub record ReadsType (k : Numbering) (old new : ModuleReader) (answer : Option ℕ) : Type 0 where
  pub tree_is : tree_at old.growing.arena.table answer ≡ ((ty k).read old.reader.walk).0
  pub reader : new.reader ≡ record old.reader { walk = ((ty k).read old.reader.walk).1 }
