use Rattle.ir_syntax.specs.View.{items_view}
use Rattle.ir_resolve.proofs.Few.{few_entries}
use Rattle.ir_resolve.proofs.Whole.{structs_told, all_there}
use Rattle.ir_resolve.specs.Whole.{without_entries}
use Rattle.ir_resolve.proofs.building.build_all.Goals as goal

pub build_entries-requires-clause-few : goal.build_entries-requires-clause-few
build_entries-requires-clause-few c = few_entries (items_view c.args.items.now) c.requires.unbroken

pub build_entries-requires-clause-structs : goal.build_entries-requires-clause-structs
build_entries-requires-clause-structs c =
    structs_told _ (without_entries (items_view c.args.items.now)) c.in_ok-begin.ensures.module

pub returns : goal.returns
returns c =
    all_there _ _ (items_view c.args.items.now) c.in_ok-begin.ensures.module
    c.in_ok-build_entries.ensures
