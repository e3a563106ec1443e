-- For `read_items`: the forms of the items of a text: parts as their phrases have them.
use Rattle.std.specs.Prelude.{◌≡◌, Bool, true, false, not, List, Option, Some, None, is_some}
use Rattle.ir_tables.specs.declared.linkage.Linkage.{Linkage}
use Rattle.ir_tables.specs.declared.linkage.Linkage.TheVariants as linkage
use Rattle.ir_phrases.specs.Constants.Tree.{ConstantTree}
use Rattle.ir_phrases.specs.Constants.Forms.{AllAre, IsNotEmpty, IsFormed}
use Rattle.ir_phrases.specs.Instructions.Forms.{IsBlockFormed}
use Rattle.ir_syntax.specs.Tree.{ItemTree, Variable, Definition}

-- the linkages of variables that have no initialiser
abbrev pub is_declaring : Option Linkage → Bool
is_declaring (Some linkage.External) = true
is_declaring (Some linkage.ExternWeak) = true
is_declaring _ = false

-- an initialiser, where there is one, has its phrase's form
abbrev pub IsInitialiserFormed : Option ConstantTree → Type 0
IsInitialiserFormed (Some constant) = IsFormed constant
IsInitialiserFormed None = Unit {0}

-- an initialiser is there exactly where the linkage asks for one, a body has a block, and each constant and instruction
-- is as its phrase has it
abbrev pub IsItemFormed : ItemTree → Type 0
IsItemFormed (Variable variable) = (is_some variable.initialiser ≡ not (is_declaring variable.linkage)) × IsInitialiserFormed variable.initialiser
IsItemFormed (Definition place head parameters blocks) = IsNotEmpty blocks × AllAre IsBlockFormed blocks
IsItemFormed _ = Unit {0}

-- each item is
pub record AreItemsFormed (items : List ItemTree) : Type 0 where
  pub each : AllAre IsItemFormed items
