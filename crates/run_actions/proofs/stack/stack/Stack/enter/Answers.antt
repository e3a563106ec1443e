use Rattle.std.proofs.Common.{length, arith}
use Rattle.run_actions.proofs.OnStack.Calls.{begun_pool}
use Rattle.run_actions.proofs.OnStack.Seen.{weight_seen}
use Rattle.run_actions.proofs.OnStack.Weights.{room_is}
use Rattle.run_actions.proofs.stack.stack.Stack.enter.Goals as goal

pub invariant_of-self-in-Ok : goal.invariant_of-self-in-Ok
invariant_of-self-in-Ok c =
    let s = c.self.inside in
    let light = room_is _ c.args.leaves c.has_room.result c.has_room.ensures c.if-not-has_room.false in
    begun_pool s.leaves.items c.fill.new.leaves.items s.allocas.items s.top s.below.items c.push.new.self.items c.args.function c.args.to c.args.leaves c.len.result c.len-2.result c.args.arguments.now
    c.requires c.self.invariant
    (omega (arith, light, weight_seen s.leaves.items s.allocas.items s.top s.below.items (length s.scratch.items) c.args.self.now c.self.view_is c.self.invariant))
    (rw c.in_ok-make_room.ensures.leaves at c.fill.ensures)
    (rw c.in_ok-make_room.ensures.below at c.in-Ok.ensures.items)
    (omega (arith, c.len.ensures, s.leaves.ok.0))
    (omega (arith, c.len-2.ensures, s.allocas.ok.0))
