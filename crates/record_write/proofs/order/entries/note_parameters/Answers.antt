use Rattle.record_write.proofs.OnOrder.Going.{goes_none, goes_more, goes_all}
use Rattle.record_write.specs.Order.Written.{in_type, KnowsType}
use Rattle.record_write.proofs.OnOrder.KnownParts.{item_known}
use Rattle.record_write.proofs.order.entries.note_parameters.Goals as goal

pub loop-parameter-init : goal.loop-parameter-init
loop-parameter-init c = goes_none c.requires.ready

pub note_type-requires : goal.note_type-requires
note_type-requires c = record { ready = c.loop-parameter.invariant.ready; ty = item_known (λ p. KnowsType c.args.arena.now p.ty) c.args.parameters.now c.loop-parameter.parameter-index c.parameter-item.result c.loop-parameter-test.true c.parameter-item.is c.requires.parameters }

pub loop-parameter-preserved : goal.loop-parameter-preserved
loop-parameter-preserved c = goes_more (λ p. in_type c.args.arena.now p.ty) c.args.parameters.now c.loop-parameter.parameter-index c.parameter-item.result c.loop-parameter-test.true c.parameter-item.is c.loop-parameter.invariant c.in_ok-note_type.ensures

pub returns : goal.returns
returns c = goes_all (λ p. in_type c.args.arena.now p.ty) c.args.parameters.now c.loop-parameter.parameter-index c.loop-parameter-test.false c.loop-parameter.invariant
