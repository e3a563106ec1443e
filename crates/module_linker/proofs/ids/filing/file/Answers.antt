use Rattle.module_linker.proofs.OnIds.Once.{filed_next, filed_none, place_stays}
use Rattle.module_linker.proofs.ids.filing.file.Goals as goal

pub entries-init : goal.entries-init
entries-init c = filed_none c.args.ids.now c.args.new.now

pub file_one-requires : goal.file_one-requires
file_one-requires c = place_stays c.args.ids.now c.entries.ids _ c.entries.invariant.room (c.requires c.entries.entry-index _ c.entries-test.true)

pub entries-preserved : goal.entries-preserved
entries-preserved c =
    filed_next c.args.ids.now c.entries.ids c.file_one.new.ids c.args.entries.now c.entries.entry-index _ c.args.new.now c.entries-test.true c.entries.invariant c.file_one.ensures
