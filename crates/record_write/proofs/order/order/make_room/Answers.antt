use Rattle.std.proofs.Common.{None, ap, ◌∙◌, get_or}
use Rattle.record_write.proofs.OnOrder.Listing.{push_default}
use Rattle.record_write.proofs.order.order.make_room.Goals as goal

pub loop-places-preserved : goal.loop-places-preserved
loop-places-preserved c = λ other. ap (λ xs. get_or xs other None) c.in_ok-push.ensures.items ∙ push_default _ None other ∙ c.loop-places.invariant other
