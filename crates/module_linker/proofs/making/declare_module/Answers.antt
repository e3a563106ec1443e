use Rattle.std.proofs.Common.{sym, ap, ◌∙◌, subst}
use Rattle.module_arena.specs.Lists.{Lists}
use Rattle.module_arena.specs.View.{module_of}
use Rattle.item_build.specs.Types.Declarations.{AreUntargeted}
use Rattle.module_linker.specs.Stages.Copied.{AreCopied}
use Rattle.module_linker.specs.Stages.NewIds.{AllHaveNewIds}
use Rattle.module_linker.proofs.making.declare_module.Goals as goal

pub returns-clause-module : goal.returns-clause-module
returns-clause-module c = ap module_of c.take_arena-arena.ensures ∙ c.in_ok-entries.ensures.module

pub returns-clause-untargeted : goal.returns-clause-untargeted
returns-clause-untargeted c =
    subst (AreUntargeted 0) (sym c.take_arena-arena.ensures) c.in_ok-entries.ensures.untargeted

pub returns-clause-copied : goal.returns-clause-copied
returns-clause-copied c =
    let copiers = c.in_ok-entries.entries.copiers.items in
    subst (λ (b : Lists). AreCopied c.args.parts.now b copiers)
    (sym c.take_arena-arena.ensures)
    c.in_ok-entries.ensures.copied

pub returns-clause-new : goal.returns-clause-new
returns-clause-new c =
    let copiers = c.in_ok-entries.entries.copiers.items in
    subst (λ (b : Lists). AllHaveNewIds c.args.parts.now b copiers)
    (sym c.take_arena-arena.ensures)
    c.in_ok-entries.ensures.new
