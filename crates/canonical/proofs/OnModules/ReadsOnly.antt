-- Canonical text reads to its module alone.
use Rattle.std.proofs.Common.{◌≡◌, List, map, sym, ap, ◌∙◌}
use Rattle.ir_syntax.specs.Answers.{HasItems}
use Rattle.ir_syntax.specs.Tree.{ItemTree}
use Rattle.module_arena.specs.Module.{Module}
use Rattle.canonical.specs.Canonical.{canon}
use Rattle.canonical.specs.Items.Unplaced.{unplaced}
use Rattle.canonical.specs.Items.Items.{canon_items, HasItemsAs}
use Rattle.canonical.specs.Law.Texts.{IsWritable}
use Rattle.canonical.proofs.OnLaw.WholeTexts.{items_are_read, items_are_once}
use Rattle.name_rules.specs.ModuleOf.{module_of_items}
use Rattle.name_rules.specs.Reads.{Reads}
use Rattle.canonical.specs.Modules.Exact.{IsExactModule}
use Rattle.canonical.proofs.OnModules.Places.{module_unseen}
use Rattle.canonical.proofs.OnModules.Modules.{module_back}

-- whatever items the canonical text has, they join to the module
pub joins_to : (m : Module) → IsWritable 64 m → IsExactModule m → (items : List ItemTree) → HasItems (canon m) items → module_of_items items ≡ m
joins_to m w e items h =
    let own : HasItemsAs (canon m) (map unplaced items) = record { placed = items; has = h; same = λ i. map unplaced items } in
    sym (module_unseen items) ∙ ap module_of_items (items_are_once (canon m) (map unplaced items) (canon_items m) own (items_are_read m w)) ∙ module_back m e

-- canonical text reads to no other module
pub reads_only : (m n : Module) → IsWritable 64 m → IsExactModule m → Reads (canon m) n → n ≡ m
reads_only m n w e r = r.resolves.joined ∙ joins_to m w e r.items r.has_items

-- it has items, and they join to the module
pub has_items : (m : Module) → IsWritable 64 m → IsExactModule m → (items : List ItemTree) × HasItems (canon m) items × (module_of_items items ≡ m)
has_items m w e = let r = items_are_read m w in (r.placed, r.has, joins_to m w e r.placed r.has)
