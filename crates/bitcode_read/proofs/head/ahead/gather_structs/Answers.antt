use Rattle.bitcode_read.proofs.head.ahead.gather_structs.Goals as goal

pub returns-clause-gathers : goal.returns-clause-gathers
returns-clause-gathers c = λ inside others before.
    let g = c.in_ok-types.ensures.gathered inside others before in
    record { structs = g.0; left = g.2 }
