use Rattle.std.proofs.Common.{take}
use Rattle.run_decode.specs.Flat.Grown.{Adds}
use Rattle.run_decode.specs.Operands.Open.{AreOpen}
use Rattle.run_decode.proofs.operands.terms.put_terms.Given as goal

-- the terms of the steps so far are there
abbrev pub invariant-steps : goal.invariant-steps
invariant-steps l = record {
  grows : Adds l.fn.pools l.pools;
  terms : AreOpen l.pools (take l.step-index l.steps) l.terms.items;
}
