use Rattle.record_write.proofs.OnOrder.Going.{goes_none, goes_more, goes_all}
use Rattle.record_write.specs.Order.Written.{in_incoming, KnowsValue}
use Rattle.record_write.proofs.OnOrder.KnownParts.{item_known}
use Rattle.record_write.proofs.order.instructions.note_incoming.Goals as goal

pub loop-one-init : goal.loop-one-init
loop-one-init c = goes_none c.requires.ready

pub note_value-requires : goal.note_value-requires
note_value-requires c = record { ready = c.loop-one.invariant.ready; value = item_known (λ i. KnowsValue c.args.arena.now i.value) c.args.incoming.now c.loop-one.one-index c.one-item.result c.loop-one-test.true c.one-item.is c.requires.values }

pub loop-one-preserved : goal.loop-one-preserved
loop-one-preserved c = goes_more (in_incoming c.args.arena.now) c.args.incoming.now c.loop-one.one-index c.one-item.result c.loop-one-test.true c.one-item.is c.loop-one.invariant c.in_ok-note_value.ensures

pub returns : goal.returns
returns c = goes_all (in_incoming c.args.arena.now) c.args.incoming.now c.loop-one.one-index c.loop-one-test.false c.loop-one.invariant
