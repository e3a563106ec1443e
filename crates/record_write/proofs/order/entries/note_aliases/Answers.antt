use Rattle.std.proofs.Common.{◌≡◌, length, slice_get, Some, arith}
use Rattle.module_arena.specs.Known.{KnowsAlias, counts}
use Rattle.record_write.proofs.OnOrder.KnownParts.{entry_known}
use Rattle.record_write.proofs.OnOrder.Going.{goes_none, goes_at, goes_all}
use Rattle.record_write.specs.Order.Written.{in_alias_type}
use Rattle.record_write.proofs.order.entries.note_aliases.Goals as goal

pub loop-number-init : goal.loop-number-init
loop-number-init c = goes_none c.requires

pub note_alias-requires : goal.note_alias-requires
note_alias-requires c =
    let at : slice_get c.args.arena.now.aliases c.loop-number.number ≡ Some c.alias.result.now = cc in
    record { ready = c.loop-number.invariant.ready; types = (entry_known (KnowsAlias (length c.args.arena.now.table.types) (counts c.args.arena.now)) c.args.arena.now.aliases c.loop-number.number c.alias.result.now at c.variable_count-count.ensures.good.aliases).types_known }

pub loop-number-preserved : goal.loop-number-preserved
loop-number-preserved c =
    let at : slice_get c.args.arena.now.aliases c.loop-number.number ≡ Some c.alias.result.now = cc in
    goes_at (λ x. in_alias_type c.args.arena.now x.ty) c.args.arena.now.aliases c.loop-number.number c.alias.result.now at c.loop-number.invariant c.in_ok-note_alias.ensures

pub returns : goal.returns
returns c = goes_all (λ x. in_alias_type c.args.arena.now x.ty) c.args.arena.now.aliases c.loop-number.number (omega arith) c.loop-number.invariant
