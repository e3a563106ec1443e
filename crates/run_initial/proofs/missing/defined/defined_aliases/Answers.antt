use Rattle.std.proofs.Common.{◌<◌, length, true, refl, arith}
use Rattle.extract_rules.proofs.Keeping.{flags_more}
use Rattle.module_arena.specs.declared.entry.Alias.{Alias}
use Rattle.linkage_rules.proofs.Seen.{get_within}
use Rattle.run_initial.proofs.missing.defined.defined_aliases.Goals as goal

pub aliases-preserved : goal.aliases-preserved
aliases-preserved c =
    let a = c.args.arena.now in
    let there : c.aliases._number < length a.aliases = omega arith in
    let x = get_within a.aliases c.aliases._number there in
    flags_more (λ (x : Alias). true) a.aliases c.aliases._number x.0 c.aliases.flags c.push.new.self true x.1 c.aliases.invariant c.in_ok-push.ensures.ok refl
