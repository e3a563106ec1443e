use Rattle.std.proofs.Common.{length, sym, subst, ℕ}
use Rattle.run_acts.specs.Program.Loaded.{IsReady}
use Rattle.run_acts.proofs.Hosts.{parameters_in, parameters_known, returns_known, row_answers, row_may, row_refused, shapes_in, shapes_known}
use Rattle.run_acts.proofs.address.call_row.Goals as goal

pub body-requires : goal.body-requires
body-requires c =
    let may = c.requires.call in
    (may.body, subst (λ (n : ℕ). IsReady c.args.program.now n may.body) (sym c.function.ensures) may.ready)

pub in_span-parameters-requires : goal.in_span-parameters-requires
in_span-parameters-requires c =
    let k = c.args.call.now in
    parameters_in c.args.program.now c.args.stack.now k.parts k.to k.arguments.now (length c.args.memory.now.list) c.requires.call c.function.result c.function.ensures c.body.result.now c.body.ensures.ready c.types-types.result.now c.types-types.ensures c.pools-pools.result.now c.pools-pools.ensures

pub fits_row-requires-clause-returns : goal.fits_row-requires-clause-returns
fits_row-requires-clause-returns c =
    let k = c.args.call.now in
    returns_known c.args.program.now c.args.stack.now k.parts k.to k.arguments.now (length c.args.memory.now.list) c.requires.call c.function.result c.function.ensures c.body.result.now c.body.ensures.ready c.types-types.result.now c.types-types.ensures c.pools-pools.result.now c.pools-pools.ensures

pub fits_row-requires-clause-parameters : goal.fits_row-requires-clause-parameters
fits_row-requires-clause-parameters c =
    let k = c.args.call.now in
    parameters_known c.args.program.now c.args.stack.now k.parts k.to k.arguments.now (length c.args.memory.now.list) c.requires.call c.function.result c.function.ensures c.body.result.now c.body.ensures.ready c.types-types.result.now c.types-types.ensures c.pools-pools.result.now c.pools-pools.ensures
    c.in_span-parameters.result.now c.in_span-parameters.ensures

pub returns-then-not-fits_row-clause-called : goal.returns-then-not-fits_row-clause-called
returns-then-not-fits_row-clause-called c =
    let k = c.args.call.now in
    row_refused c.args.program.now c.args.stack.now k.parts k.to k.arguments.now (length c.args.memory.now.list) c.requires.call c.function.result c.function.ensures c.body.result.now c.body.ensures.ready c.types-types.result.now c.types-types.ensures c.pools-pools.result.now c.pools-pools.ensures
    c.args.row c.in_span-parameters.result.now c.in_span-parameters.ensures c.fits_row.result c.fits_row.ensures c.if-not-fits_row.true c.fails.result c.fails.ensures c.args.memory.now c.args.written.now.items

pub returns-then-not-fits_row-clause-ready : goal.returns-then-not-fits_row-clause-ready
returns-then-not-fits_row-clause-ready c = λ p h. h

pub in_span-shapes-requires : goal.in_span-shapes-requires
in_span-shapes-requires c =
    let k = c.args.call.now in
    shapes_in c.args.program.now c.args.stack.now k.parts k.to k.arguments.now (length c.args.memory.now.list) c.requires.call c.function.result c.function.ensures c.body.result.now c.body.ensures.ready c.types-types.result.now c.types-types.ensures c.pools-pools.result.now c.pools-pools.ensures

pub call_host-requires-clause-types : goal.call_host-requires-clause-types
call_host-requires-clause-types c =
    let k = c.args.call.now in
    shapes_known c.args.program.now c.args.stack.now k.parts k.to k.arguments.now (length c.args.memory.now.list) c.requires.call c.function.result c.function.ensures c.body.result.now c.body.ensures.ready c.types-types.result.now c.types-types.ensures c.pools-pools.result.now c.pools-pools.ensures
    c.in_span-shapes.result.now c.in_span-shapes.ensures

pub call_host-requires-clause-may : goal.call_host-requires-clause-may
call_host-requires-clause-may c =
    let k = c.args.call.now in
    row_may c.args.program.now c.args.stack.now k.parts k.to k.arguments.now (length c.args.memory.now.list) c.requires.call c.function.result c.function.ensures c.body.result.now c.body.ensures.ready c.types-types.result.now c.types-types.ensures c.pools-pools.result.now c.pools-pools.ensures
    c.args.row c.in_span-parameters.result.now c.in_span-parameters.ensures c.fits_row.result c.fits_row.ensures c.if-not-fits_row.false c.in_span-shapes.result.now c.in_span-shapes.ensures

pub returns-clause-called : goal.returns-clause-called
returns-clause-called c =
    let k = c.args.call.now in
    let r = c.call_host in
    row_answers c.args.program.now c.args.stack.now k.parts k.to k.arguments.now (length c.args.memory.now.list) c.requires.call c.function.result c.function.ensures c.body.result.now c.body.ensures.ready c.types-types.result.now c.types-types.ensures c.pools-pools.result.now c.pools-pools.ensures
    c.args.row c.in_span-parameters.result.now c.in_span-parameters.ensures c.fits_row.result c.fits_row.ensures c.if-not-fits_row.false c.in_span-shapes.result.now c.in_span-shapes.ensures
    r.new.stack c.args.memory.now r.new.memory r.new.written.items r.result r.ensures.called
