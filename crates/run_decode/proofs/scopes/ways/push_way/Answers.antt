use Rattle.std.proofs.Common.{◌≡◌, ℕ, List, All, length, map, sym, ap, ◌∙◌, subst}
use Rattle.std.proofs.lemmas.Option.{get_or_from_slice_get, slice_get_within}
use Rattle.module_arena.specs.declared.entry.Block.{Block}
use Rattle.module_arena.specs.declared.instruction.Inst.{Inst}
use Rattle.module_arena.specs.Lists.{function_blocks}
use Rattle.run_rules.specs.Action as actions
use Rattle.run_rules.specs.Resolve.{edge_in, phis}
use Rattle.run_decode.specs.Scopes.Scopes.{instruction_of, label_of, scope_in}
use Rattle.run_decode.specs.Scopes.Ways.{GainsMoves, PhiSuits, gets}
use Rattle.run_decode.proofs.OnScopes.Answered.{if_also, on_also}
use Rattle.run_decode.proofs.OnScopes.Wayed.{moves_same, way_is}
use Rattle.run_decode.proofs.scopes.ways.push_way.Goals as goal

pub push_phis-requires-clause-phis : goal.push_phis-requires-clause-phis
push_phis-requires-clause-phis c =
    let s = c.args.scope.now in
    let b = c.block-block.result.now in
    let at = c.block-block.ensures.block in
    let all = c.requires.suits c.args.to b (slice_get_within (function_blocks s.function) c.args.to b at) in
    let here = subst (λ (x : Block). All (PhiSuits s) x.instructions) (get_or_from_slice_get (function_blocks s.function) c.args.to b b at) all in
    subst (All (PhiSuits s)) (sym c.as_slice.ensures) here

pub returns-clause-block : goal.returns-clause-block
returns-clause-block c =
    let s = c.args.scope.now in
    ap (λ (e : actions.Edge). e.block) (way_is s.lists s.function c.block-block.ensures.apart c.args.to c.block-block.result.now c.block-block.ensures.block (label_of s.lists s.function c.args.from))

pub returns-clause-position : goal.returns-clause-position
returns-clause-position c =
    let s = c.args.scope.now in
    let meant = instruction_of s.lists s.function in
    let way = way_is s.lists s.function c.block-block.ensures.apart c.args.to c.block-block.result.now c.block-block.ensures.block (label_of s.lists s.function c.args.from) in
    let same = ap (λ (is : List Inst). length (phis (map meant is))) c.as_slice.ensures ∙ sym (ap (λ (e : actions.Edge). e.position) way) in
    if_also c.push_phis.result (λ (n : ℕ). n ≡ length (phis (map meant c.as_slice.result.now)))
    (λ (n : ℕ). n ≡ (edge_in (scope_in s.lists s.function) (label_of s.lists s.function c.args.from) (label_of s.lists s.function c.args.to)).position)
    c.push_phis.ensures.count (λ n h. h ∙ same)

pub returns-clause-moves : goal.returns-clause-moves
returns-clause-moves c =
    let s = c.args.scope.now in
    let meant = instruction_of s.lists s.function in
    let way = way_is s.lists s.function c.block-block.ensures.apart c.args.to c.block-block.result.now c.block-block.ensures.block (label_of s.lists s.function c.args.from) in
    let old = c.args.into.now.items in
    let new = c.push_phis.new.into.items in
    let same = ap (λ (is : List Inst). gets s c.args.from (phis (map meant is))) c.as_slice.ensures ∙ sym (ap (λ (e : actions.Edge). e.moves) way) in
    on_also c.push_phis.result (GainsMoves old new (gets s c.args.from (phis (map meant c.as_slice.result.now))))
    (GainsMoves old new (edge_in (scope_in s.lists s.function) (label_of s.lists s.function c.args.from) (label_of s.lists s.function c.args.to)).moves)
    c.push_phis.ensures.moves (λ h. moves_same old new _ _ same h)
