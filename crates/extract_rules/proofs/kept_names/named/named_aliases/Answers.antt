use Rattle.std.proofs.Common.{◌≡◌, length, Some, slice_get, subst, arith}
use Rattle.type_table.specs.Types.{trees}
use Rattle.module_arena.specs.Lists.{name_at}
use Rattle.module_arena.specs.Module.{Alias}
use Rattle.module_arena.specs.View.{module_of, alias_view}
use Rattle.extract_rules.specs.Selected.{is_among}
use Rattle.extract_rules.proofs.Keeping.{flags_more, flags_whole, alias_at, aliases_length}
use Rattle.extract_rules.proofs.kept_names.named.named_aliases.Goals as goal

pub loop-number-preserved : goal.loop-number-preserved
loop-number-preserved c =
    let a = c.args.arena.now in
    let x = c.alias.result.now in
    let at : slice_get a.aliases c.loop-number.number ≡ Some x = subst (λ n. slice_get a.aliases n ≡ Some x) c.new.ensures c.alias.ensures in
    flags_more (λ (y : Alias). is_among c.args.names.now.keys y.name) (module_of a).aliases c.loop-number.number (alias_view (trees a.table) (name_at a) x) c.loop-number.flags c.push.new.self c.contains-is_named.result
    (alias_at a c.loop-number.number x at) c.loop-number.invariant c.in_ok-push.ensures.ok c.contains-is_named.ensures

pub returns : goal.returns
returns c =
    let a = c.args.arena.now in
    let long = aliases_length a in
    let end : c.loop-number.number ≡ length (module_of a).aliases = omega (arith, c.loop-number-test.false, c.loop-number.auto.number-end, c.alias_count-number-end.ensures, long) in
    flags_whole (λ (y : Alias). is_among c.args.names.now.keys y.name) (module_of a).aliases c.loop-number.number c.loop-number.flags end c.loop-number.invariant
