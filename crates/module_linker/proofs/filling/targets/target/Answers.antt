use Rattle.std.proofs.Common.{◌≡◌, IsSome, Some, slice_get, sym, subst, ◌∙◌, le_refl}
use Rattle.linkage_rules.specs.Ids.{modules}
use Rattle.module_arena.specs.Changes.{alias_in}
use Rattle.module_arena.specs.View.{module_of}
use Rattle.link_rules.specs.Linked.{linked_alias}
use Rattle.module_arena.specs.declared.entry.GlobalId.TheVariants as global
use Rattle.item_build.proofs.OnTypes.Untargeted.{untargeted_set}
use Rattle.linkage_rules.proofs.OnResolving.Targets.{some_target}
use Rattle.module_linker.specs.Filling.Filling.{IsBare}
use Rattle.module_linker.proofs.OnFilling.Aliases.{alias_written, new_known, new_there, target_written}
use Rattle.module_linker.proofs.OnFilling.Bare.{alias_there}
use Rattle.module_linker.proofs.OnFilling.Keeping.{targeted_keeps}
use Rattle.module_linker.proofs.filling.targets.target.Goals as goal

pub unwrap-target-requires : goal.unwrap-target-requires
unwrap-target-requires c =
    let a = c.args.arena.now in
    let x = c.alias.result.now in
    some_target a c.requires.well_formed c.args.home.number x (subst (λ n. slice_get a.aliases n ≡ Some x) c.new.ensures c.alias.ensures)

pub unwrap-new-requires : goal.unwrap-new-requires
unwrap-new-requires c =
    let a = c.args.arena.now in
    let x = c.alias.result.now in
    let at = subst (λ n. slice_get a.aliases n ≡ Some x) c.new.ensures c.alias.ensures in
    let d = c.requires.declared in
    let h = d.4 in
    subst IsSome (sym c.new_global.ensures)
    (new_there d.0 c.args.home a h.there c.requires.alias x at c.variable_count-good.ensures.good c.unwrap-target.result c.unwrap-target.ensures
    c.args.into.now.arena d.1 c.args.copier.now h.copied h.new_ids h.copied_by)

pub set_target-requires-clause-known : goal.set_target-requires-clause-known
set_target-requires-clause-known c =
    let a = c.args.arena.now in
    let b = c.args.into.now.arena in
    let x = c.alias.result.now in
    let at = subst (λ n. slice_get a.aliases n ≡ Some x) c.new.ensures c.alias.ensures in
    let d = c.requires.declared in
    let h = d.4 in
    alias_there b c.args.id (linked_alias (modules d.0) d.3 c.args.home.part (alias_in a x)) (subst (IsBare b (global.Alias c.args.id)) (alias_written d.0 c.args.home a h.there c.requires.alias x at d.2 d.3) h.is_bare)

pub set_target-requires-clause-untargeted : goal.set_target-requires-clause-untargeted
set_target-requires-clause-untargeted c = λ x there. c.requires.untargeted c.args.id x (le_refl c.args.id) there

pub set_target-requires-clause-target : goal.set_target-requires-clause-target
set_target-requires-clause-target c =
    let a = c.args.arena.now in
    let x = c.alias.result.now in
    let at = subst (λ n. slice_get a.aliases n ≡ Some x) c.new.ensures c.alias.ensures in
    let d = c.requires.declared in
    let h = d.4 in
    new_known d.0 c.args.home a h.there c.requires.alias x at c.variable_count-good.ensures.good c.unwrap-target.result c.unwrap-target.ensures
    c.args.into.now.arena d.1 c.args.copier.now h.copied h.new_ids h.copied_by c.unwrap-new.result (sym c.new_global.ensures ∙ c.unwrap-new.ensures)

pub returns-clause-module : goal.returns-clause-module
returns-clause-module c = λ parts tables ids name h.
    let a = c.args.arena.now in
    let b = c.args.into.now.arena in
    let x = c.alias.result.now in
    let at = subst (λ n. slice_get a.aliases n ≡ Some x) c.new.ensures c.alias.ensures in
    c.set_target.ensures.module
    ∙ target_written parts c.args.home a h.there c.requires.alias x at c.variable_count-good.ensures.good c.unwrap-target.result c.unwrap-target.ensures
    b tables c.args.copier.now h.copied h.new_ids h.copied_by c.unwrap-new.result (sym c.new_global.ensures ∙ c.unwrap-new.ensures) (module_of b) c.args.id ids name

pub returns-clause-keeps : goal.returns-clause-keeps
returns-clause-keeps c = targeted_keeps c.args.into.now.arena c.set_target.new.self c.args.id c.unwrap-new.result c.set_target.ensures.set

pub returns-clause-untargeted : goal.returns-clause-untargeted
returns-clause-untargeted c = untargeted_set c.args.into.now.arena c.set_target.new.self c.args.id c.unwrap-new.result c.set_target.ensures.set c.requires.untargeted
