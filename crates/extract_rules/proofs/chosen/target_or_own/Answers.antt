use Rattle.std.proofs.Common.{sym, ap, ◌∙◌}
use Rattle.std.specs.Option.{option_map}
use Rattle.module_arena.specs.declared.entry.GlobalId.TheVariants as global
use Rattle.extract_rules.specs.Entries.{target_or_own}
use Rattle.extract_rules.proofs.Entries.{some_target, known_target, target_is, name_is}
use Rattle.extract_rules.proofs.chosen.target_or_own.Goals as goal

pub unwrap-requires : goal.unwrap-requires
unwrap-requires c = some_target c.args.arena.now c.requires.well_formed c.in-Alias.alias c.alias.result.now c.alias.ensures

pub name-requires : goal.name-requires
name-requires c = known_target c.args.arena.now c.variable_count-count.ensures.good c.in-Alias.alias c.alias.result.now c.unwrap.result c.alias.ensures c.unwrap.ensures

pub returns-in-Alias : goal.returns-in-Alias
returns-in-Alias c =
    target_is c.args.arena.now c.in-Alias.alias c.alias.result.now c.unwrap.result c.name.result.now c.alias.ensures c.unwrap.ensures c.name.ensures
    ∙ ap (target_or_own c.args.arena.now) (sym c.in-Alias.is)

pub returns-in-Variable : goal.returns-in-Variable
returns-in-Variable c =
    let a = c.args.arena.now in
    sym (name_is a (global.Variable c.in-Variable.variable) c.variable.result.now.name (ap (option_map (λ v. v.name)) c.variable.ensures)) ∙ ap (target_or_own a) (sym c.in-Variable.is)

pub returns-in-Function : goal.returns-in-Function
returns-in-Function c =
    let a = c.args.arena.now in
    sym (name_is a (global.Function c.in-Function.function) c.function.result.now.name (ap (option_map (λ f. f.name)) c.function.ensures)) ∙ ap (target_or_own a) (sym c.in-Function.is)
