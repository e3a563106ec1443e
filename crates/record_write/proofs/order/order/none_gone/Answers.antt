use Rattle.std.proofs.Common.{false, length, ap, arith, ◌∙◌, get_or}
use Rattle.std.proofs.lemmas.List.{length_push}
use Rattle.record_write.proofs.OnOrder.Listing.{push_default}
use Rattle.record_write.proofs.order.order.none_gone.Goals as goal

pub loop-constant-preserved : goal.loop-constant-preserved
loop-constant-preserved c = record {
  len = omega (arith, ap length c.in_ok-push.ensures.items, length_push c.loop-constant.gone.items false, c.loop-constant.invariant.len);
  none = λ number. ap (λ xs. get_or xs number false) c.in_ok-push.ensures.items ∙ push_default _ false number ∙ c.loop-constant.invariant.none number;
}
