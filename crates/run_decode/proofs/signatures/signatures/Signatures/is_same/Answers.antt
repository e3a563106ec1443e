use Rattle.run_decode.proofs.OnSignatures.Once.{same_numbers}
use Rattle.run_decode.proofs.signatures.signatures.Signatures.is_same.Goals as goal

pub returns : goal.returns
returns c = λ s t at there. same_numbers c.args.self.now c.self.inside.program.now c.self.inside.parameters c.self.inside.written c.self.view_is c.self.invariant c.args.first c.args.second s t at there
