-- For `items_stand_for_their_module` and `canon_reads_to_no_other`: the laws of the items of canonical text.
use Rattle.std.specs.Prelude.{◌≡◌}
use Rattle.type_table.specs.declared.measure.TheConstants.{NESTING_LIMIT}
use Rattle.module_arena.specs.Module.{Module}
use Rattle.canonical.specs.Canonical.{canon}
use Rattle.canonical.specs.Items.Items.{canon_items}
use Rattle.name_rules.specs.ModuleOf.{module_of_items}
use Rattle.name_rules.specs.Reads.{Reads}
use Rattle.canonical.specs.Law.Texts.{IsWritable}
use Rattle.canonical.specs.Modules.Exact.{IsExactModule}

-- a module that its items can stand for is that of its canonical items
abbrev pub ItemsStandForIt : Type 0
ItemsStandForIt = (m : Module) → IsExactModule m → module_of_items (canon_items m) ≡ m

-- the canonical text of such a module, where it can be written, reads to no other
abbrev pub ReadsToNoOther : Type 0
ReadsToNoOther = (m n : Module) → IsWritable NESTING_LIMIT m → IsExactModule m → Reads (canon m) n → n ≡ m
