use Rattle.std.proofs.Common.{sym, ap, ◌∙◌}
use Rattle.std.specs.Option.{option_map_or}
use Rattle.extract_rules.specs.Entries.{target_or_own}
use Rattle.extract_rules.proofs.Entries.{found_known, behind_found}
use Rattle.extract_rules.proofs.chosen.name_behind.Goals as goal

pub target_or_own-requires-clause-known : goal.target_or_own-requires-clause-known
target_or_own-requires-clause-known c = found_known c.args.arena.now c.args.name.now c.lookup.result c.in-Some.id c.lookup.ensures c.in-Some.is

pub returns-in-Some : goal.returns-in-Some
returns-in-Some c =
    let a = c.args.arena.now in
    c.target_or_own.ensures ∙ sym (behind_found a c.args.name.now c.lookup.result c.lookup.ensures ∙ ap (λ o. option_map_or (target_or_own a) o c.args.name.now) c.in-Some.is)

pub returns-in-None : goal.returns-in-None
returns-in-None c =
    let a = c.args.arena.now in
    sym (behind_found a c.args.name.now c.lookup.result c.lookup.ensures ∙ ap (λ o. option_map_or (target_or_own a) o c.args.name.now) c.in-None.is)
