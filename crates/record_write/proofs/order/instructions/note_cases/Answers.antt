use Rattle.record_write.proofs.OnOrder.Going.{goes_none, goes_more, goes_all}
use Rattle.record_write.specs.Order.Written.{in_case}
use Rattle.record_write.specs.Order.Known.{KnowsCase}
use Rattle.record_write.proofs.OnOrder.KnownParts.{item_known}
use Rattle.record_write.proofs.order.instructions.note_cases.Goals as goal

pub loop-case-init : goal.loop-case-init
loop-case-init c = goes_none c.requires.ready

pub note_case-requires : goal.note_case-requires
note_case-requires c = record { ready = c.loop-case.invariant.ready; case = item_known (KnowsCase c.args.arena.now) c.args.cases.now c.loop-case.case-index c.case-item.result c.loop-case-test.true c.case-item.is c.requires.cases }

pub loop-case-preserved : goal.loop-case-preserved
loop-case-preserved c = goes_more (in_case c.args.arena.now) c.args.cases.now c.loop-case.case-index c.case-item.result c.loop-case-test.true c.case-item.is c.loop-case.invariant c.in_ok-note_case.ensures

pub returns : goal.returns
returns c = goes_all (in_case c.args.arena.now) c.args.cases.now c.loop-case.case-index c.loop-case-test.false c.loop-case.invariant
