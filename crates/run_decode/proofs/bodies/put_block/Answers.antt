use Rattle.std.proofs.Common.{All, List, map, sym, subst}
use Rattle.module_arena.specs.declared.instruction.Inst.{Inst}
use Rattle.run_decode.proofs.OnFlat.Growth.{grows_then}
use Rattle.run_decode.proofs.OnSignatures.Numbered.{calls_numbered, numbers_none}
use Rattle.run_decode.specs.Operands.Suits.{Suits}
use Rattle.run_decode.specs.Operations.{action_from}
use Rattle.run_decode.specs.Rows.{AddsActions}
use Rattle.run_decode.proofs.Rowed.{block_longer, block_suits, block_within, on_any, row_put, same_row}
use Rattle.run_decode.proofs.bodies.put_block.Goals as goal

pub put_actions-requires-clause-suits : goal.put_actions-requires-clause-suits
put_actions-requires-clause-suits c =
    let s = c.args.scope.now in
    let suits = block_suits s c.args.id c.block-block.result.now c.requires.suits c.block-block.ensures.block in
    subst (All (Suits s)) (sym c.as_slice.ensures) suits.instructions

pub put_ending-requires-clause-end : goal.put_ending-requires-clause-end
put_ending-requires-clause-end c = let suits = block_suits c.args.scope.now c.args.id c.block-block.result.now c.requires.suits c.block-block.ensures.block in suits.end

pub returns-clause-grows : goal.returns-clause-grows
returns-clause-grows c = on_any c.since.result (grows_then c.args.pools.now c.put_actions.new.pools c.put_ending.new.pools c.in_ok-put_actions.ensures.grows c.in_ok-end.ensures.grows.grows)

pub returns-clause-kept : goal.returns-clause-kept
returns-clause-kept c =
    let s = c.args.scope.now in
    let p = c.put_actions.new.pools in
    let old = c.args.actions.now in
    let now = c.put_actions.new.actions in
    let block = c.block-block.result.now in
    let added = subst (λ (is : List Inst). AddsActions s p old now (map (action_from s) is)) c.as_slice.ensures c.in_ok-put_actions.ensures.actions in
    on_any c.since.result (block_longer s c.args.id block c.block-block.ensures.block p c.put_ending.new.pools c.in_ok-end.ensures.grows.grows old now c.push.new.self c.in_ok-end.end added c.in_ok-push.ensures.items c.in_ok-end.ensures.action)

pub returns-clause-numbered : goal.returns-clause-numbered
returns-clause-numbered c =
    let n = c.put_actions.new.signatures in
    on_any c.since.result (calls_numbered n n c.args.scope.now.lists c.put_actions.new.pools c.put_ending.new.pools (numbers_none n) c.in_ok-end.ensures.grows c.in_ok-put_actions.ensures.numbered)

pub returns-clause-within : goal.returns-clause-within
returns-clause-within c =
    let s = c.args.scope.now in
    let p = c.put_actions.new.pools in
    let q = c.put_ending.new.pools in
    let old = c.args.actions.now in
    let now = c.put_actions.new.actions in
    let block = c.block-block.result.now in
    let added = subst (λ (is : List Inst). AddsActions s p old now (map (action_from s) is)) c.as_slice.ensures c.in_ok-put_actions.ensures.actions in
    on_any c.since.result
    (block_within s c.args.id block c.block-block.ensures.block p q c.in_ok-end.ensures.grows.grows old now c.push.new.self c.in_ok-end.end added c.in_ok-push.ensures.items c.in_ok-end.ensures.action
    c.args.pools.now (grows_then c.args.pools.now p q c.in_ok-put_actions.ensures.grows c.in_ok-end.ensures.grows.grows) c.requires.within)

pub returns-clause-row : goal.returns-clause-row
returns-clause-row c = λ b at.
    let s = c.args.scope.now in
    let p = c.put_actions.new.pools in
    let q = c.put_ending.new.pools in
    let old = c.args.actions.now in
    let now = c.put_actions.new.actions in
    let new = c.push.new.self in
    let block = c.block-block.result.now in
    let added = subst (λ (is : List Inst). AddsActions s p old now (map (action_from s) is)) c.as_slice.ensures c.in_ok-put_actions.ensures.actions in
    same_row s q new c.args.id block b c.since.result c.block-block.ensures.block at
    (row_put s c.args.id block c.block-block.ensures.block p q c.in_ok-end.ensures.grows.grows old now new c.in_ok-end.end added c.in_ok-push.ensures.items c.in_ok-end.ensures.action c.since.result c.len-first.result c.len-first.ensures c.since.ensures)
