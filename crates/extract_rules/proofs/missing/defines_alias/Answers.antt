use Rattle.std.proofs.Common.{false, sym, ap, ◌∙◌}
use Rattle.std.specs.Option.{option_map_or}
use Rattle.module_arena.specs.declared.entry.GlobalId.{GlobalId}
use Rattle.extract_rules.specs.Entries.{is_alias}
use Rattle.extract_rules.proofs.Entries.{alias_defined}
use Rattle.extract_rules.proofs.missing.defines_alias.Goals as goal

pub returns-in-Some : goal.returns-in-Some
returns-in-Some c =
    let a = c.args.arena.now in
    let test = λ (g : GlobalId). is_alias g in
    c.is_alias.ensures ∙ sym (alias_defined a c.args.name.now c.lookup.result c.lookup.ensures ∙ ap (λ o. option_map_or test o false) c.in-Some.is)

pub returns-in-None : goal.returns-in-None
returns-in-None c =
    let a = c.args.arena.now in
    let test = λ (g : GlobalId). is_alias g in
    sym (alias_defined a c.args.name.now c.lookup.result c.lookup.ensures ∙ ap (λ o. option_map_or test o false) c.in-None.is)
