-- For `put_operand`, `put_value` and all calls by a `Numbering`: what the ids of an arena stand for as operands.
use Rattle.std.specs.Prelude.{◌≡◌, ℕ, List}
use Rattle.type_table.specs.Types.{trees}
use Rattle.module_arena.specs.declared.constant.TypedConst.{TypedConst}
use Rattle.module_arena.specs.declared.entry.Function.{Function}
use Rattle.module_arena.specs.declared.instruction.Case as the_case
pub use Rattle.module_arena.specs.FunctionView.{values_in, labels_in, label_of, value_of, operand_of, incoming_of}
use Rattle.module_arena.specs.Lists.{Lists}
use Rattle.module_arena.specs.Module as m
use Rattle.module_arena.specs.View.{module_of, constants_of, constant_at, constants_at, case_view}
use Rattle.record_table.specs.Fields.{Texts, Numbering}
use Rattle.record_table.specs.StringTable.{once_each}
use Rattle.record_table.specs.Mentions.{mentioned}
use Rattle.record_table.specs.Spelling.{numbering, texts_in, texts_of}
use Rattle.record_write.specs.Order.Table.{PlacedTexts, Holds}
use Rattle.record_write.specs.Order.Order.{Order, listed_trees}

-- the types and texts are those of the module that the lists stand for
pub record IsNumbering (a : Lists) (o : Order) (t : PlacedTexts) : Type 0 where
  pub types : o.types ≡ a.table
  pub listed : listed_trees o ≡ mentioned (module_of a)
  pub texts : Holds t (once_each (texts_of (module_of a)))

module _ (a : Lists) where
  -- what indices stand for outside bodies, and how texts stand
  abbrev pub indices : Numbering
  indices = numbering (module_of a)

  -- how texts and names stand in its records
  abbrev pub texts : Texts
  texts = texts_in (module_of a)

  -- the parts that are meant
  abbrev pub constant_of : ℕ → m.Constant
  constant_of id = constant_at (constants_of a) id

  -- constants with their types
  abbrev pub constants_in : List TypedConst → m.Constants
  constants_in parts = constants_at (trees a.table) (constants_of a) parts

  -- what indices stand for in the body of a function
  module _ (f : Function) where
    -- the same numbering, with what its parameters and results and its blocks are called
    abbrev pub inside : Numbering
    inside = record (indices) { values = values_in a f; blocks = labels_in a f }

    -- a case of a switch
    abbrev pub case_in : the_case.Case → m.Case
    case_in c = case_view (trees a.table) (constants_of a) (values_in a f) (labels_in a f) c
