use Rattle.run_actions.specs.Edges.{way_of}
use Rattle.run_actions.proofs.Going.{jumps}
use Rattle.run_actions.proofs.ways.jump.Goals as goal

pub returns : goal.returns
returns c = jumps (way_of c.args.pool.now c.args.edge.now) c.args.stack.now c.go.new.stack c.requires.running c.go.ensures
