-- For `items_without_a_break_are_buildable`: the law of building.
use Rattle.std.specs.Prelude.{◌≡◌, ◌≤◌, List, None}
use Rattle.ir_syntax.specs.Tree.{ItemTree}
use Rattle.ir_syntax.specs.Forms.{AreItemsFormed}
use Rattle.ir_syntax.specs.Counts.{counted, most_counted}
use Rattle.name_rules.specs.Breaks.{first_break}
use Rattle.item_build.specs.Buildable.Narrow.{AreItemsNarrow}
use Rattle.item_build.specs.Buildable.Laws.{AreBuildable}

-- an arena can be built from items as their phrases have them, not too many, of which nothing breaks a rule
abbrev pub CanBuild : Type 0
CanBuild = (items : List ItemTree) → AreItemsFormed items → AreItemsNarrow items → counted items ≤ most_counted → first_break items ≡ None → AreBuildable items
