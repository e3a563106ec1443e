use Rattle.std.proofs.Common.{false, sym, ap, ◌∙◌}
use Rattle.std.specs.Option.{option_map_or}
use Rattle.module_arena.specs.declared.entry.GlobalId.{GlobalId}
use Rattle.extract_rules.specs.Entries.{is_function_with_body}
use Rattle.extract_rules.proofs.Entries.{found_known, function_defined}
use Rattle.extract_rules.proofs.missing.defines_function.Goals as goal

pub is_function_with_body-requires : goal.is_function_with_body-requires
is_function_with_body-requires c = found_known c.args.arena.now c.args.name.now c.lookup.result c.in-Some.id c.lookup.ensures c.in-Some.is

pub returns-in-Some : goal.returns-in-Some
returns-in-Some c =
    let a = c.args.arena.now in
    let test = λ (g : GlobalId). is_function_with_body a g in
    c.is_function_with_body.ensures ∙ sym (function_defined a c.args.name.now c.lookup.result c.lookup.ensures ∙ ap (λ o. option_map_or test o false) c.in-Some.is)

pub returns-in-None : goal.returns-in-None
returns-in-None c =
    let a = c.args.arena.now in
    let test = λ (g : GlobalId). is_function_with_body a g in
    sym (function_defined a c.args.name.now c.lookup.result c.lookup.ensures ∙ ap (λ o. option_map_or test o false) c.in-None.is)
