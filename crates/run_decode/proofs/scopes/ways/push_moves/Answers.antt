use Rattle.std.proofs.Common.{List, map, refl, ap, arith}
use Rattle.std.proofs.lemmas.List.{take_all}
use Rattle.run_rules.specs.Resolve.{moves_to}
use Rattle.run_actions.specs.Stack.Origins.{origin_of}
use Rattle.run_actions.specs.declared.stack.origin.Origin.{Origin}
use Rattle.run_decode.proofs.OnScopes.Wayed.{move_more, moves_same}
use Rattle.run_decode.proofs.scopes.ways.push_moves.Goals as goal

pub leaves-preserved : goal.leaves-preserved
leaves-preserved c = record {
  next = let next = c.in_ok-next.ensures in let before = c.leaves.invariant.next in omega (arith, next, before);
  gained =
      move_more c.args.into.now.items c.leaves.into.items c.push.new.self.items c.args.to c.leaves.next c.args.leaves.now c.leaves.leaf-index _ _
      c.leaves-test.true refl c.leaves.invariant.next c.leaves.invariant.gained c.in_ok-push.ensures.items;
}

pub returns : goal.returns
returns c =
    moves_same c.args.into.now.items c.leaves.into.items _ _
    (ap (λ (l : List Origin). moves_to c.args.to (map origin_of l)) (take_all c.leaves.leaf-index c.args.leaves.now (omega arith))) c.leaves.invariant.gained
