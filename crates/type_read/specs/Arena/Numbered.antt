-- For `read_global`, `read_target`, `read_local` and all that reads by `ModuleReader`: what indices stand for while a
-- module is read, by the ids of the arena in the making.
use Rattle.std.specs.Prelude.{◌≡◌, ℕ, ◌+◌, ◌-◌, ◌<◌, nat_lt, [], length, take, slice_index_or, Option, if◌then◌else◌}
use Rattle.type_table.specs.Types.{trees, structs}
use Rattle.module_arena.specs.declared.entry.GlobalId.{GlobalId}
use Rattle.module_arena.specs.declared.entry.GlobalId.TheVariants as global
use Rattle.module_arena.specs.Known.{HasGlobal, counts}
use Rattle.module_arena.specs.Lists.{Lists, name_at}
use Rattle.module_arena.specs.Module.{Bytes, LocalName}
use Rattle.record_table.specs.Fields.{Numbering}
use Rattle.record_table.specs.Layout.{Layout}
use Rattle.record_read.specs.Reader.{IsKept}
use Rattle.type_read.specs.declared.arena.counts.GlobalCounts.{GlobalCounts}
use Rattle.type_read.specs.declared.arena.module_reader.ModuleReader.{ModuleReader}

-- how many entries there are
abbrev pub global_count : GlobalCounts → ℕ
global_count n = n.variables + n.functions + n.aliases

-- These are what the indices stand for. Where all variables, functions and aliases of the module are declared, an index
-- stands for the one at its place; where they are not, a record that is read later will be refused.
pub record Numbers (m : ModuleReader) (k : Numbering) : Type 0 where
  pub types : k.types ≡ take m.growing.types (trees m.growing.arena.table)
  pub structs_are : k.structs ≡ structs m.growing.arena.table
  pub targets : k.targets ≡ take (m.globals.variables + m.globals.functions) k.globals
  pub globals : length k.globals ≡ global_count m.globals
  pub values : length k.values ≡ m.locals.values
  pub blocks : length k.blocks ≡ m.locals.blocks

-- the entry of that index: variables come first, then functions, then aliases
abbrev pub global_of : GlobalCounts → ℕ → GlobalId
global_of n index =
    if nat_lt index n.variables then global.Variable index
    else (if nat_lt index (n.variables + n.functions) then global.Function (index - n.variables)
    else global.Alias (index - n.variables - n.functions))

-- the entry of that name
pub record IsGlobal (a : Lists) (id : GlobalId) (name : Bytes) : Type 0 where
  pub known : HasGlobal (counts a) id
  pub named : name_at a id ≡ name

-- each index stands for the entry at its place
abbrev pub IsDeclared : ModuleReader → Numbering → Type 0
IsDeclared m k = (index : ℕ) → index < length k.globals → IsGlobal m.growing.arena (global_of m.globals index) (slice_index_or k.globals index [])

-- The operands in front stand for that name, and nothing else changed. Where all entries are declared it is that entry, and
-- there is none only where a rule is broken.
pub record ReadsGlobal (k : Numbering) (l : Layout Bytes) (old new : ModuleReader) (answer : Option GlobalId) : Type 0 where
  pub reader : new.reader ≡ record old.reader { walk = (l.read old.reader.walk).1 }
  pub kept : IsDeclared old k → IsKept (IsGlobal old.growing.arena) answer (l.read old.reader.walk).0 new.reader.walk

-- the block of that name
pub record IsBlock (k : Numbering) (id : ℕ) (name : LocalName) : Type 0 where
  pub known : id < length k.blocks
  pub named : slice_index_or k.blocks id (LocalName.Numbered 0) ≡ name

-- the parameter or result of that name
pub record IsLocal (k : Numbering) (id : ℕ) (name : LocalName) : Type 0 where
  pub known : id < length k.values
  pub named : slice_index_or k.values id (LocalName.Numbered 0) ≡ name
