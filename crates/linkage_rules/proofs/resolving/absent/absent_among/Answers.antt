use Rattle.std.proofs.Common.{sym, subst, All}
use Rattle.linkage_rules.specs.Ids.{IsEntryId}
use Rattle.linkage_rules.proofs.resolving.absent.absent_among.Goals as goal

pub are_extern_weak-is_absent-requires : goal.are_extern_weak-is_absent-requires
are_extern_weak-is_absent-requires c = subst (All (IsEntryId c.args.parts.now)) (sym c.entries.ensures) (c.requires.groups.known c.symbol-item.result)
