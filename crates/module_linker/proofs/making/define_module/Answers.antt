use Rattle.std.proofs.Common.{sym, ap, ◌∙◌, subst}
use Rattle.module_arena.specs.Lists.{Lists}
use Rattle.module_arena.specs.View.{module_of}
use Rattle.item_build.specs.Types.Declarations.{AreUntargeted}
use Rattle.module_linker.specs.Stages.Copied.{AreCopied}
use Rattle.module_linker.specs.Stages.NewIds.{AllHaveNewIds}
use Rattle.module_linker.proofs.making.define_module.Goals as goal

pub define_symbols-defined-requires-clause-declared : goal.define_symbols-defined-requires-clause-declared
define_symbols-defined-requires-clause-declared c =
    ap module_of c.resume_building-into.ensures ∙ c.requires.declared

pub define_symbols-defined-requires-clause-untargeted : goal.define_symbols-defined-requires-clause-untargeted
define_symbols-defined-requires-clause-untargeted c =
    subst (AreUntargeted 0) (sym c.resume_building-into.ensures) c.requires.untargeted

pub define_symbols-defined-requires-clause-copied : goal.define_symbols-defined-requires-clause-copied
define_symbols-defined-requires-clause-copied c =
    let parts = c.args.parts.items in
    let copiers = c.args.made.entries.copiers.items in
    let same = sym c.resume_building-into.ensures in
    rw c.deref.ensures.value (subst (λ (b : Lists). AreCopied parts b copiers) same c.requires.copied)

pub define_symbols-defined-requires-clause-new : goal.define_symbols-defined-requires-clause-new
define_symbols-defined-requires-clause-new c =
    let parts = c.args.parts.items in
    let copiers = c.args.made.entries.copiers.items in
    let same = sym c.resume_building-into.ensures in
    rw c.deref.ensures.value (subst (λ (b : Lists). AllHaveNewIds parts b copiers) same c.requires.new)

pub define_symbols-defined-requires-clause-ids : goal.define_symbols-defined-requires-clause-ids
define_symbols-defined-requires-clause-ids c = c.deref-2.ensures.value ∙ c.requires.ids
