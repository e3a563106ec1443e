use Rattle.std.proofs.Common.{[], ◌∷◌, ap, ◌∙◌}
use Rattle.run_rules.specs.Frame.{moved_on, with_value}
use Rattle.run_actions.specs.Stack.UnderWay.{changed}
use Rattle.run_actions.proofs.Carried.{position_after, running_after, twice}
use Rattle.run_actions.proofs.result.give.Goals as goal

pub move_on-requires-clause-running : goal.move_on-requires-clause-running
move_on-requires-clause-running c = rw c.put.ensures (running_after _ c.args.stack.now c.requires.on.running)

pub move_on-requires-clause-room : goal.move_on-requires-clause-room
move_on-requires-clause-room c =
    let stays = position_after c.args.to (c.args.leaf ∷ []) c.args.stack.now in
    rw c.put.ensures (rw stays c.requires.on.room)

pub returns : goal.returns
returns c = c.move_on.ensures ∙ ap (changed moved_on) c.put.ensures ∙ twice moved_on (λ f. with_value f c.args.to (c.args.leaf ∷ [])) c.args.stack.now
