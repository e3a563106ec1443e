use Rattle.std.proofs.Common.{length, ap, ◌∙◌}
use Rattle.run_rules.specs.Frame.{moved_on, with_value}
use Rattle.run_actions.specs.Stack.UnderWay.{changed, newest}
use Rattle.run_actions.proofs.Carried.{position_after, running_after, twice}
use Rattle.run_actions.proofs.Wide.{fits_from}
use Rattle.run_actions.proofs.result.give_all.Goals as goal

pub set_all-requires : goal.set_all-requires
set_all-requires c = fits_from (length (newest c.args.stack.now.frames).leaves) c.args.to c.args.value.now c.requires.places

pub move_on-requires-clause-running : goal.move_on-requires-clause-running
move_on-requires-clause-running c = rw c.set_all.ensures (running_after _ c.args.stack.now c.requires.on.running)

pub move_on-requires-clause-room : goal.move_on-requires-clause-room
move_on-requires-clause-room c =
    let stays = position_after c.args.to c.args.value.now c.args.stack.now in
    rw c.set_all.ensures (rw stays c.requires.on.room)

pub returns : goal.returns
returns c = c.move_on.ensures ∙ ap (changed moved_on) c.set_all.ensures ∙ twice moved_on (λ f. with_value f c.args.to c.args.value.now) c.args.stack.now
