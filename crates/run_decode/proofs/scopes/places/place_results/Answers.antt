use Rattle.std.proofs.Common.{◌≤◌, List, flat_map, length, map, append-nil, ap, arith}
use Rattle.std.proofs.lemmas.List.{take_all}
use Rattle.module_arena.specs.declared.instruction.Inst.{Inst}
use Rattle.run_initial.specs.Constants.Sound.{names_of}
use Rattle.run_rules.specs.Scope.{result_of}
use Rattle.run_decode.specs.Scopes.Scopes.{instruction_of}
use Rattle.run_decode.proofs.OnScopes.Added.{added_same, added_step, mapped_join}
use Rattle.run_decode.proofs.scopes.places.place_results.Goals as goal

pub instructions-preserved : goal.instructions-preserved
instructions-preserved c = λ f.
    let a = c.args.arena.now in
    let x = c.instruction-item.result in
    added_step (λ (i : Inst). result_of (names_of a) (instruction_of a f i)) (λ (is : List Inst). flat_map (result_of (names_of a)) (map (instruction_of a f) is))
    (mapped_join (result_of (names_of a)) (instruction_of a f)) (λ i. append-nil (result_of (names_of a) (instruction_of a f i)))
    c.as_slice-instruction-items.result.now c.args.block.now.instructions c.as_slice-instruction-items.ensures
    c.instructions.instruction-index x x c.args.first c.instructions.next c.in_ok-next.next c.args.places.now.items c.instructions.places.items c.place_result.new.places.items
    c.instructions-test.true c.instruction-item.is (c.instructions.invariant f) (c.in_ok-next.ensures f)

pub returns : goal.returns
returns c = λ f.
    let a = c.args.arena.now in
    let is = c.args.block.now.instructions in
    let many = ap length c.as_slice-instruction-items.ensures in
    let passed : length is ≤ c.instructions.instruction-index = omega (arith, many) in
    added_same c.args.first c.instructions.next _ _ c.args.places.now.items c.instructions.places.items
    (ap (λ (l : List Inst). flat_map (result_of (names_of a)) (map (instruction_of a f) l)) (take_all c.instructions.instruction-index is passed)) (c.instructions.invariant f)
