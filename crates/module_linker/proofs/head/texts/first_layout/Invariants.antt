use Rattle.std.proofs.Common.{◌≡◌, drop}
use Rattle.linkage_rules.specs.Ids.{modules}
use Rattle.module_arena.specs.Module.{Module}
use Rattle.link_rules.specs.Linked.{first_of}
use Rattle.module_linker.proofs.head.texts.first_layout.Given as goal

abbrev pub invariant-parts : goal.invariant-parts
invariant-parts l = first_of (λ (m : Module). m.layout) (modules l.parts) ≡ first_of (λ (m : Module). m.layout) (modules (drop l.part-index l.parts))
