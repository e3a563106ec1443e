-- For `declare_variables`: the module as far as it is made.
use Rattle.std.specs.Prelude.{◌≡◌, length, List}
use Rattle.type_table.specs.Types.{structs}
use Rattle.module_arena.specs.Lists.{Lists}
use Rattle.module_arena.specs.Module.{Bytes, Variable, Module}
use Rattle.entry_copy.specs.Copies.{CopiesTypes}
use Rattle.entry_copy.specs.Tables.{Tables}

-- structs keep their names
abbrev pub same_name : Bytes → Bytes
same_name name = name

-- the module with these variables
abbrev pub with_variables : Module → List Variable → Module
with_variables m variables = record m { variables = variables }

-- Each type of a is copied to b, under the new ids of t, and the structs are the same.
pub record HasTypes (a b : Lists) (t : Tables) : Type 0 where
  pub structs : structs b.table ≡ structs a.table
  pub copies : CopiesTypes same_name a b t
  pub all : length t.types ≡ length a.table.types
