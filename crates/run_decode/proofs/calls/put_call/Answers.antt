use Rattle.run_decode.proofs.OnFlat.Growth.{grows_then}
use Rattle.run_decode.proofs.OnSignatures.Numbered.{calls_numbered, numbers_none}
use Rattle.run_decode.proofs.Called.{call_meant}
use Rattle.run_decode.proofs.calls.put_call.Goals as goal

pub put_call_parts-requires-clause-numbered : goal.put_call_parts-requires-clause-numbered
put_call_parts-requires-clause-numbered c =
    calls_numbered c.args.signatures.now c.args.signatures.now c.args.scope.now.lists c.args.pools.now c.put_callee.new.pools (numbers_none c.args.signatures.now) c.in_ok-callee.ensures.grows c.requires.numbered

pub returns-clause-grows : goal.returns-clause-grows
returns-clause-grows c = grows_then c.args.pools.now c.put_callee.new.pools c.put_call_parts.new.pools c.in_ok-callee.ensures.grows.grows c.in_ok-parts.ensures.grows

pub returns-clause-action : goal.returns-clause-action
returns-clause-action c =
    call_meant c.args.scope.now c.put_callee.new.pools c.put_call_parts.new.pools c.args.call.now c.to.result c.in_ok-parts.parts c.in_ok-callee.callee c.in_ok-parts.ensures.grows c.to.ensures c.in_ok-callee.ensures.leaf c.in_ok-parts.ensures.call
