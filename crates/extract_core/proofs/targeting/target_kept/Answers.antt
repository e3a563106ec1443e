use Rattle.std.proofs.Common.{◌≡◌, [], refl, sym, subst, ap, ◌∙◌, arith}
use Rattle.std.specs.Prelude.{IsSome}
use Rattle.std.specs.Option.{option_map_or}
use Rattle.std.proofs.lemmas.Option.{same_Some}
use Rattle.module_arena.specs.Changes.{alias_in, targeted}
use Rattle.module_arena.specs.Lists.{name_at}
use Rattle.module_arena.specs.Module.{Alias}
use Rattle.module_arena.specs.View.{module_of}
use Rattle.item_build.proofs.OnTypes.Untargeted.{untargeted_set}
use Rattle.entry_copy.specs.Tables.{new_global}
use Rattle.extract_rules.proofs.Entries.{known_target}
use Rattle.extract_rules.proofs.Keeping.{alias_at}
use Rattle.extract_core.specs.declared.fates.fates.Fate.TheVariants.{Kept}
use Rattle.extract_core.specs.Fates.Fates.{alias_as}
use Rattle.extract_core.proofs.OnEntries.NewIds.{entries_named}
use Rattle.extract_core.specs.Defining.Filling.{targeted_as}
use Rattle.extract_core.proofs.OnDefining.Changed.{targeted_keeps}
use Rattle.extract_core.proofs.NewIds.{new_ids_stay}
use Rattle.extract_core.proofs.targeting.target_kept.Goals as goal

pub unwrap-old-requires : goal.unwrap-old-requires
unwrap-old-requires c =
    let t = c.requires.target c.alias.result.now c.alias.ensures refl in
    subst IsSome (sym t.1) refl

pub unwrap-target-requires : goal.unwrap-target-requires
unwrap-target-requires c =
    let t = c.requires.target c.alias.result.now c.alias.ensures refl in
    let same : t.0 ≡ c.unwrap-old.result = same_Some t.0 c.unwrap-old.result (sym t.1 ∙ c.unwrap-old.ensures) in
    subst IsSome (ap (new_global c.args.copier.now) same ∙ sym c.new_global.ensures) t.2

pub set_target-requires-clause-untargeted : goal.set_target-requires-clause-untargeted
set_target-requires-clause-untargeted c = λ x at. c.requires.untargeted c.args.new x (omega arith) at

pub set_target-requires-clause-target : goal.set_target-requires-clause-target
set_target-requires-clause-target c =
    let a = c.args.from.now in
    let old = c.unwrap-old.result in
    let has = known_target a c.variable_count-good.ensures.good c.args.id c.alias.result.now old c.alias.ensures c.unwrap-old.ensures in
    (entries_named a c.requires.ids.0 c.args.into.now.arena c.args.copier.now c.requires.ids.1 old c.unwrap-target.result has (sym c.new_global.ensures ∙ c.unwrap-target.ensures)).0

pub returns-clause-module : goal.returns-clause-module
returns-clause-module c = λ w seen.
    let a = c.args.from.now in
    let b = c.args.into.now.arena in
    let m = module_of b in
    let x = c.alias.result.now in
    let old = c.unwrap-old.result in
    let has = known_target a c.variable_count-good.ensures.good c.args.id x old c.alias.ensures c.unwrap-old.ensures in
    let named = (entries_named a c.requires.ids.0 b c.args.copier.now c.requires.ids.1 old c.unwrap-target.result has (sym c.new_global.ensures ∙ c.unwrap-target.ensures)).1 in
    let same : alias_in a x ≡ w = same_Some (alias_in a x) w (sym (alias_at a c.args.id x c.alias.ensures) ∙ seen) in
    c.set_target.ensures.module
    ∙ ap (targeted m c.args.new) (named ∙ sym (ap (λ o. option_map_or (name_at a) o []) c.unwrap-old.ensures))
    ∙ ap (λ (y : Alias). targeted_as m c.args.new (alias_as Kept y)) same

pub returns-clause-untargeted : goal.returns-clause-untargeted
returns-clause-untargeted c = untargeted_set c.args.into.now.arena c.set_target.new.self c.args.new c.unwrap-target.result c.set_target.ensures.set c.requires.untargeted

pub returns-clause-ids : goal.returns-clause-ids
returns-clause-ids c = λ fates h.
    let b = c.args.into.now.arena in
    new_ids_stay c.args.from.now fates b c.set_target.new.self c.args.copier.now (targeted_keeps b c.set_target.new.self c.args.new c.unwrap-target.result c.set_target.ensures.set) h
