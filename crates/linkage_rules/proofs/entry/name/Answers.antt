use Rattle.std.proofs.Common.{◌≡◌, Some, subst}
use Rattle.module_arena.specs.Lists.{global_name}
use Rattle.linkage_rules.proofs.Seen.{name_seen}
use Rattle.linkage_rules.proofs.entry.name.Goals as goal

pub returns : goal.returns
returns c =
    let a = c.arena_of.result.now in
    name_seen c.args.parts.now c.args.id a c.arena_of.ensures.arena c.name.result.now (subst (λ g. global_name a g ≡ Some c.name.result.now) c.global.ensures c.name.ensures)
