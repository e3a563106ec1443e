use Rattle.std.proofs.Common.{◌≡◌, ◌<◌, length, ap, arith, ◌∙◌}
use Rattle.type_table.specs.Types.{trees}
use Rattle.module_arena.specs.declared.entry.GlobalId.TheVariants as global
use Rattle.module_arena.specs.Lists.{name_at}
use Rattle.module_arena.specs.View.{module_of, alias_view}
use Rattle.extract_rules.specs.Entries.{target_or_own}
use Rattle.extract_rules.specs.Selected.{keeps_alias}
use Rattle.extract_rules.proofs.Entries.{get_within}
use Rattle.extract_rules.proofs.Keeping.{flags_more, flags_whole, alias_at, aliases_length, kept_alias}
use Rattle.extract_rules.proofs.kept.kept_aliases.Goals as goal

pub loop-number-preserved : goal.loop-number-preserved
loop-number-preserved c =
    let a = c.args.arena.now in
    let s = c.args.selection.now in
    let n = c.loop-number.number in
    let lt : n < length a.aliases = omega (arith, c.loop-number-test.true, c.alias_count-number-end.ensures) in
    let x = get_within a.aliases n lt in
    flags_more (keeps_alias (module_of a) s) (module_of a).aliases n (alias_view (trees a.table) (name_at a) x.0) c.loop-number.flags c.push.new.self c.keeps-is_kept.result
    (alias_at a n x.0 x.1) c.loop-number.invariant c.in_ok-push.ensures.ok
    (kept_alias a s c.args.names.now.keys c.requires.names n x.0 c.target_or_own-target.result.now c.keeps-is_kept.result x.1 (c.target_or_own-target.ensures ∙ ap (λ k. target_or_own a (global.Alias k)) c.new.ensures) c.keeps-is_kept.ensures)

pub returns : goal.returns
returns c =
    let a = c.args.arena.now in
    let long = aliases_length a in
    let end : c.loop-number.number ≡ length (module_of a).aliases = omega (arith, c.loop-number-test.false, c.loop-number.auto.number-end, c.alias_count-number-end.ensures, long) in
    flags_whole (keeps_alias (module_of a) c.args.selection.now) (module_of a).aliases c.loop-number.number c.loop-number.flags end c.loop-number.invariant
