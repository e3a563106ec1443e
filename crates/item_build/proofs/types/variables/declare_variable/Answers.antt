use Rattle.std.proofs.Common.{None, sym, subst, ap, ◌∙◌}
use Rattle.module_arena.specs.declared.entry.Variable as the_variable
use Rattle.module_arena.specs.Changes.{with_variable}
use Rattle.module_arena.specs.Known.{counts}
use Rattle.module_arena.specs.Lists.{Lists}
use Rattle.item_build.specs.Types.Declarations.{IsFree}
use Rattle.item_build.proofs.OnTypes.Declaring.{memory_alone, free_still, few_still}
use Rattle.item_build.proofs.types.variables.declare_variable.Goals as goal

pub entry_out_of_memory-requires : goal.entry_out_of_memory-requires
entry_out_of_memory-requires c =
    let a = c.args.builder.now.arena in
    let b = c.add_type.new.self.arena in
    let grows = c.in_ok-ty.ensures.grows in
    let v : the_variable.Variable = record { name = c.in_ok-name.name; linkage = c.linkage_of.result; constant = c.args.written.now.constant; ty = c.in_ok-ty.ty; alignment = c.alignment_of.result; initialiser = None } in
    memory_alone b c.in_ok-name.name (counts (with_variable b v)) c.in-Err.fault c.in-Err.ensures.fault
    (subst (IsFree b) (sym c.in_ok-name.ensures) (free_still a b grows c.args.written.now.name.name c.requires.free))
    (few_still a b grows v c.requires.few)

pub returns-in-Ok-clause-aliases : goal.returns-in-Ok-clause-aliases
returns-in-Ok-clause-aliases c = ap (λ (a : Lists). a.aliases) c.in-Ok.ensures.ok ∙ c.in_ok-ty.ensures.grows.aliases
