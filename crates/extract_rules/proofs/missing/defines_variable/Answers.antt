use Rattle.std.proofs.Common.{false, sym, ap, ◌∙◌}
use Rattle.std.specs.Option.{option_map_or}
use Rattle.module_arena.specs.declared.entry.GlobalId.{GlobalId}
use Rattle.extract_rules.specs.Entries.{is_variable_with_initialiser}
use Rattle.extract_rules.proofs.Entries.{found_known, variable_defined}
use Rattle.extract_rules.proofs.missing.defines_variable.Goals as goal

pub is_variable_with_initialiser-requires : goal.is_variable_with_initialiser-requires
is_variable_with_initialiser-requires c = found_known c.args.arena.now c.args.name.now c.lookup.result c.in-Some.id c.lookup.ensures c.in-Some.is

pub returns-in-Some : goal.returns-in-Some
returns-in-Some c =
    let a = c.args.arena.now in
    let test = λ (g : GlobalId). is_variable_with_initialiser a g in
    c.is_variable_with_initialiser.ensures ∙ sym (variable_defined a c.args.name.now c.lookup.result c.lookup.ensures ∙ ap (λ o. option_map_or test o false) c.in-Some.is)

pub returns-in-None : goal.returns-in-None
returns-in-None c =
    let a = c.args.arena.now in
    let test = λ (g : GlobalId). is_variable_with_initialiser a g in
    sym (variable_defined a c.args.name.now c.lookup.result c.lookup.ensures ∙ ap (λ o. option_map_or test o false) c.in-None.is)
