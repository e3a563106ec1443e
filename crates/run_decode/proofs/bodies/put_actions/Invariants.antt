use Rattle.std.proofs.Common.{map, take}
use Rattle.run_decode.specs.Flat.Grown.{Grows}
use Rattle.run_decode.specs.Signatures.Numbers.{AreNumbered, Numbers}
use Rattle.run_decode.specs.Operations.{action_from}
use Rattle.run_decode.specs.Rows.{AddsActions}
use Rattle.run_decode.proofs.bodies.put_actions.Given as goal

-- the actions of the instructions so far are there
abbrev pub invariant-instructions : goal.invariant-instructions
invariant-instructions l = record {
  grows : Grows l.fn.pools l.pools;
  numbers : Numbers l.fn.signatures l.signatures;
  numbered : AreNumbered l.signatures l.scope.lists l.pools;
  actions : AddsActions l.scope l.pools l.fn.actions l.actions (map (action_from l.scope) (take l.instruction-index l.instructions));
}
