use Rattle.ir_syntax.specs.View.{items_view}
use Rattle.module_arena.specs.View.{module_of}
use Rattle.name_rules.proofs.OnReading.WellFormed.{reads_well}
use Rattle.ir_resolve.proofs.resolving.resolve.Goals as goal

pub returns-clause-well_formed : goal.returns-clause-well_formed
returns-clause-well_formed c text bytes has =
    reads_well text (module_of c.in_ok-build.field-0) bytes
    (record { items = items_view c.args.items.now; has_items = has; resolves = record { unbroken = c.in_ok-judge.ensures; joined = c.in_ok-build.ensures } })
