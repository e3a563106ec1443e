use Rattle.std.proofs.Common.{◌≡◌, length, ap}
use Rattle.bitcode_read.proofs.OnAhead.Due.{none_due, one_due}
use Rattle.bitcode_read.proofs.ahead.bodies.gather_due.Goals as goal

pub returns-in_ok-push-in-Some-clause-unspent : goal.returns-in_ok-push-in-Some-clause-unspent
returns-in_ok-push-in-Some-clause-unspent c = c.in_ok-body-in-Some.ensures.unspent

pub returns-in_ok-push-in-Some-clause-gathers : goal.returns-in_ok-push-in-Some-clause-gathers
returns-in_ok-push-in-Some-clause-gathers c = λ held others before.
    let body = c.in_ok-body-in-Some.ensures.ahead held others before in
    let place : length c.as_slice-place.result.now ≡ length c.args.bodies.now.items = ap (λ l. length l) c.as_slice-place.ensures.value in
    (one_due _ c.args.voids.now c.args.due.now held c.args.bodies.now.items _ c.in-Some.count (length c.as_slice-place.result.now) c.in_ok-body-in-Some.body c.in-Some.ensures place c.in_ok-push-in-Some.ensures.items body.0, body.1)

pub returns-in_ok-pass_block-in-None-clause-unspent : goal.returns-in_ok-pass_block-in-None-clause-unspent
returns-in_ok-pass_block-in-None-clause-unspent c = c.in_ok-pass_block-in-None.ensures.0

pub returns-in_ok-pass_block-in-None-clause-gathers : goal.returns-in_ok-pass_block-in-None-clause-gathers
returns-in_ok-pass_block-in-None-clause-gathers c = λ held others before.
    let place : length c.as_slice-place.result.now ≡ length c.args.bodies.now.items = ap (λ l. length l) c.as_slice-place.ensures.value in
    (none_due _ c.args.voids.now c.args.due.now held c.args.bodies.now.items (length c.as_slice-place.result.now) c.in-None.ensures place, c.in_ok-pass_block-in-None.ensures.3 held others before)
