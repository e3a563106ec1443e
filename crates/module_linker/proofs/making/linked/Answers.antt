use Rattle.std.proofs.Common.{List, ap, ◌∙◌, subst}
use Rattle.linkage_rules.specs.Ids.{modules}
use Rattle.module_arena.specs.Lists.{Lists}
use Rattle.module_linker.specs.Stages.Copied.{AreCopied}
use Rattle.module_linker.specs.Stages.Declared.{declared, ids_of}
use Rattle.module_linker.specs.Stages.NewIds.{AllHaveNewIds}
use Rattle.module_linker.proofs.making.linked.Goals as goal

pub declare_module-requires-clause-can : goal.declare_module-requires-clause-can
declare_module-requires-clause-can c = rw c.as_slice-all.ensures.value c.requires.can

pub declare_module-requires-clause-resolved : goal.declare_module-requires-clause-resolved
declare_module-requires-clause-resolved c = rw c.as_slice-all.ensures.value c.requires.resolved

pub declare_module-requires-clause-names : goal.declare_module-requires-clause-names
declare_module-requires-clause-names c = rw c.as_slice-all.ensures.value c.requires.names

pub declare_module-requires-clause-numbers : goal.declare_module-requires-clause-numbers
declare_module-requires-clause-numbers c = rw c.as_slice-all.ensures.value c.requires.numbers

pub define_module-requires-clause-declared : goal.define_module-requires-clause-declared
define_module-requires-clause-declared c =
    c.in_ok-made.ensures.module
    ∙ ap (λ (ps : List Lists). declared (modules ps)) c.as_slice-all.ensures.value

pub define_module-requires-clause-copied : goal.define_module-requires-clause-copied
define_module-requires-clause-copied c =
    let made = c.in_ok-made.made in
    subst (λ (ps : List Lists). AreCopied ps made.arena made.entries.copiers.items)
    c.as_slice-all.ensures.value
    c.in_ok-made.ensures.copied

pub define_module-requires-clause-new : goal.define_module-requires-clause-new
define_module-requires-clause-new c =
    let made = c.in_ok-made.made in
    subst (λ (ps : List Lists). AllHaveNewIds ps made.arena made.entries.copiers.items)
    c.as_slice-all.ensures.value
    c.in_ok-made.ensures.new

pub define_module-requires-clause-ids : goal.define_module-requires-clause-ids
define_module-requires-clause-ids c =
    c.in_ok-made.ensures.ids
    ∙ ap (λ (ps : List Lists). ids_of (modules ps)) c.as_slice-all.ensures.value
