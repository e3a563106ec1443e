use Rattle.run_acts.proofs.OnProgram.Loading.{body_of}
use Rattle.run_acts.proofs.program.program.Program.body.Goals as goal

pub returns-clause-body : goal.returns-clause-body
returns-clause-body c =
    let s = c.self.inside in
    body_of c.args.self.now s.names s.signatures s.heads.items s.bodies.items c.self.view_is c.self.invariant c.args.function c.index.result.now c.in-Some.body c.requires.0 c.requires.1 c.index.ensures c.in-Some.is
