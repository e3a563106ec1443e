use Rattle.std.proofs.Common.{sym}
use Rattle.run_acts.proofs.AskedCalls.{inner_here, may_act_in, outer_here, outer_matched, some_body, stands}
use Rattle.run_acts.proofs.instruction.calls_or_returns.Goals as goal

-- ---- the instruction

pub body-decoded-requires : goal.body-decoded-requires
body-decoded-requires c = some_body c.args.program.now c.args.stack.now c.requires.0 c.requires.1 c.function.result c.function.ensures

pub action-flat-requires : goal.action-flat-requires
action-flat-requires c =
    let b = c.body-decoded in
    stands c.args.program.now c.args.stack.now c.requires.0 c.requires.1 c.function.result c.function.ensures b.result.now b.ensures.ready b.ensures.body c.block.result c.position.result c.block.ensures c.position.ensures

-- ---- a call, or a return

pub returns-in-Call : goal.returns-in-Call
returns-in-Call c =
    let p = c.args.program.now in
    let s = c.args.stack.now in
    let m = c.requires.0 in
    let b = c.body-decoded in
    let x = c.action-flat in
    let may =
    may_act_in p s m c.requires.1 c.function.result c.function.ensures b.result.now b.ensures.ready b.ensures.body c.block.result c.position.result c.block.ensures c.position.ensures x.result.now x.ensures.action x.ensures.within
    x.ensures.fits
    in
    sym (outer_here p b.result.now x.result.now s m may (outer_matched b.result.now.pools p.lists x.result.now c.in-Call.is))

-- ---- any other

pub returns-in_default : goal.returns-in_default
returns-in_default c =
    let p = c.args.program.now in
    let s = c.args.stack.now in
    let m = c.requires.0 in
    let b = c.body-decoded in
    let x = c.action-flat in
    let may =
    may_act_in p s m c.requires.1 c.function.result c.function.ensures b.result.now b.ensures.ready b.ensures.body c.block.result c.position.result c.block.ensures c.position.ensures x.result.now x.ensures.action x.ensures.within
    x.ensures.fits
    in
    sym (inner_here p b.result.now x.result.now s m may c.in_default.not-Call c.in_default.not-Return)
