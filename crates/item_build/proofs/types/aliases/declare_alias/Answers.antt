use Rattle.std.proofs.Common.{[], ◌∷◌, ◌++◌, None, refl, sym, subst, ap, ◌∙◌}
use Rattle.module_arena.specs.declared.entry.Alias as the_alias
use Rattle.module_arena.specs.Changes.{with_alias}
use Rattle.module_arena.specs.Known.{counts}
use Rattle.module_arena.specs.Lists.{Lists}
use Rattle.item_build.specs.Types.Declarations.{IsFree}
use Rattle.item_build.proofs.OnTypes.Declaring.{memory_alone, free_still, few_aliases_still}
use Rattle.item_build.proofs.OnTypes.Untargeted.{untargeted_more}
use Rattle.item_build.proofs.types.aliases.declare_alias.Goals as goal

pub entry_out_of_memory-requires : goal.entry_out_of_memory-requires
entry_out_of_memory-requires c =
    let a = c.args.builder.now.arena in
    let b = c.add_alias_type.new.builder.arena in
    let grows = c.in_ok-ty.ensures.grows in
    let x : the_alias.Alias = record { name = c.in_ok-name.name; linkage = c.linkage_of.result; ty = c.in_ok-ty.ty; target = None } in
    memory_alone b c.in_ok-name.name (counts (with_alias b x)) c.in-Err.fault c.in-Err.ensures.fault
    (subst (IsFree b) (sym c.in_ok-name.ensures) (free_still a b grows c.args.written.now.name.name c.requires.free))
    (few_aliases_still a b grows x c.requires.few)

pub returns-in-Ok-clause-untargeted : goal.returns-in-Ok-clause-untargeted
returns-in-Ok-clause-untargeted c old =
    let a = c.args.builder.now.arena in
    let b = c.add_alias_type.new.builder.arena in
    let x : the_alias.Alias = record { name = c.in_ok-name.name; linkage = c.linkage_of.result; ty = c.in_ok-ty.ty; target = None } in
    untargeted_more a c.declare_alias.new.self x refl (ap (λ (w : Lists). w.aliases) c.in-Ok.ensures.ok ∙ ap (λ xs. xs ++ x ∷ []) c.in_ok-ty.ensures.grows.aliases) old
