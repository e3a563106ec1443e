-- Types of a part fit where some structs of the linked module have no body yet.
use Rattle.std.proofs.lemmas.List.Elements.{All-weaker}
use Rattle.type_table.specs.Limits.{IsWithinLimits}
use Rattle.type_table.specs.Shape.{shape}
use Rattle.type_table.specs.Tree.{Structs}
use Rattle.type_table.specs.Types.{structs, trees}
use Rattle.module_arena.specs.Lists.{Lists}
use Rattle.module_arena.specs.Module.{Bytes}
use Rattle.module_arena.specs.Renamed.{renamed_tree}
use Rattle.item_build.specs.Partly.{IsPartly}
use Rattle.item_build.proofs.Lessened.{within_less}
use Rattle.item_build.proofs.Partly.{are_less}
use Rattle.entry_copy.specs.Copies as copies

pub part_fits : (naming : Bytes → Bytes) (whole : Structs) (a b : Lists) → IsPartly whole b → copies.AllFit naming whole a → copies.AllFit naming (structs b.table) a
part_fits naming whole a b is fit =
    All-weaker (λ x. IsWithinLimits (shape whole (renamed_tree naming x))) (λ x. IsWithinLimits (shape (structs b.table) (renamed_tree naming x)))
    (λ x h. within_less (structs b.table) whole (are_less whole b is) (renamed_tree naming x) h) (trees a.table) fit
