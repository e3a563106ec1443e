-- For `what_is_read_is_narrow`: the law.
use Rattle.std.specs.Prelude.{ℕ, List}
use Rattle.ir_syntax.specs.Answers.{HasItems}
use Rattle.ir_syntax.specs.Tree.{ItemTree}
use Rattle.item_build.specs.Buildable.Narrow.{AreItemsNarrow}

-- the items of a text have integer types of 1 to 128 bits, and no result of a store
abbrev pub ReadsNarrow : Type 0
ReadsNarrow = (text : List ℕ) (items : List ItemTree) → HasItems text items → AreItemsNarrow items
