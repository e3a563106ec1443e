use Rattle.std.proofs.Common.{arith, below_more}
use Rattle.std.proofs.lemmas.Bool.{iff_false}
use Rattle.run_decode.specs.Signatures.Met.{written_as}
use Rattle.run_decode.proofs.OnSignatures.Kept.{none_at_all}
use Rattle.run_decode.proofs.signatures.signatures.Signatures.find.Goals as goal

pub known-preserved : goal.known-preserved
known-preserved c = below_more _ _ c.known.invariant (iff_false c.is_shape_of.ensures c.if-is_shape_of.false)

pub returns : goal.returns
returns c =
    let s = c.self.inside in
    none_at_all c.args.self.now s.program.now s.parameters s.written c.self.view_is c.self.invariant (written_as c.args.self.now.lists c.args.returns c.args.parameters.now c.args.variadic) c.known.number (omega arith) c.known.invariant
