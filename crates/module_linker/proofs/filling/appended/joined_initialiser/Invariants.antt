use Rattle.std.proofs.Common.{take}
use Rattle.linkage_rules.specs.Ids.{modules}
use Rattle.item_build.specs.Types.Stands.{AreTyped}
use Rattle.module_linker.specs.Stages.Definitions.{entries_defined}
use Rattle.module_linker.specs.Filling.Elements.{elements_of_all}
use Rattle.module_linker.proofs.filling.appended.joined_initialiser.Given as goal

abbrev pub invariant-entries : goal.invariant-entries
invariant-entries l = AreTyped l.into.arena l.elements.items (elements_of_all (modules l.parts) (entries_defined l.parts (take l.id-index l.ids)))
