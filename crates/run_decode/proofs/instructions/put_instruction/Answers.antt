use Rattle.run_decode.proofs.OnScopes.Answered.{on_also}
use Rattle.run_decode.specs.Flat.Grown.{Adds, Grows}
use Rattle.run_decode.specs.Signatures.Numbers.{AreNumbered}
use Rattle.run_decode.proofs.OnSignatures.Numbered.{calls_numbered, numbers_none}
use Rattle.run_decode.proofs.instructions.put_instruction.Goals as goal

pub returns-in_default-clause-grows : goal.returns-in_default-clause-grows
returns-in_default-clause-grows c =
    let p = c.args.pools.now in
    let q = c.put_operation.new.pools in
    on_also c.put_operation.result (Adds p q) (Grows p q) c.put_operation.ensures.grows (λ g. g.grows)

pub returns-in_default-clause-numbered : goal.returns-in_default-clause-numbered
returns-in_default-clause-numbered c =
    let m = c.args.signatures.now in
    let a = c.args.scope.now.lists in
    let p = c.args.pools.now in
    let q = c.put_operation.new.pools in
    on_also c.put_operation.result (Adds p q) (AreNumbered m a q) c.put_operation.ensures.grows (λ g. calls_numbered m m a p q (numbers_none m) g c.requires.numbered)
