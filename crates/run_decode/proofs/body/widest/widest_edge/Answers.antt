use Rattle.std.proofs.Common.{arith}
use Rattle.run_decode.proofs.OnBody.Wider.{wider_all, wider_more}
use Rattle.run_decode.proofs.body.widest.widest_edge.Goals as goal

pub edges-preserved : goal.edges-preserved
edges-preserved c =
    wider_more c.args.edges.now c.edges.edge-index _ c.edges.widest c.max-widest.result c.moves_of.result c.edges-test.true c.edges.invariant c.moves_of.ensures (omega arith) (omega arith)

pub returns : goal.returns
returns c = wider_all c.args.edges.now c.edges.edge-index c.edges.widest (omega arith) c.edges.invariant
