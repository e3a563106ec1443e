use Rattle.std.proofs.Common.{◌≤◌, List, flat_map, length, map, refl, ap, arith}
use Rattle.module_arena.specs.declared.instruction.Inst.{Inst}
use Rattle.run_initial.specs.Constants.Sound.{names_of}
use Rattle.run_rules.specs.Scope.{result_of, results_of}
use Rattle.run_decode.specs.Scopes.Places.{end_from}
use Rattle.run_decode.specs.Scopes.Scopes.{block_of, instruction_of}
use Rattle.run_acts.proofs.OnProgram.Counted.{counted_all, counted_more}
use Rattle.run_acts.proofs.program.leaves.with_block.Goals as goal

pub instructions-preserved : goal.instructions-preserved
instructions-preserved c = λ f.
    let a = c.args.arena.now in
    let b = c.args.block.now in
    counted_more (λ (is : List Inst). flat_map (result_of (names_of a)) (map (instruction_of a f) is)) (λ (i : Inst). result_of (names_of a) (instruction_of a f i)) (λ x xs. refl)
    c.as_slice-instruction-items.result.now b.instructions c.as_slice-instruction-items.ensures
    c.instructions.instruction-index c.instruction-item.result c.instructions.end c.in_ok-end.end (end_from c.args.before (results_of (names_of a) (block_of a f b)))
    c.instructions-test.true c.instruction-item.is (c.instructions.invariant f) (c.in_ok-end.ensures f)

pub returns : goal.returns
returns c = λ f.
    let a = c.args.arena.now in
    let b = c.args.block.now in
    let many = ap length c.as_slice-instruction-items.ensures in
    let passed : length b.instructions ≤ c.instructions.instruction-index = omega (arith, many) in
    counted_all (λ (is : List Inst). flat_map (result_of (names_of a)) (map (instruction_of a f) is)) (λ (i : Inst). result_of (names_of a) (instruction_of a f i)) (λ x xs. refl) refl
    b.instructions c.instructions.instruction-index c.instructions.end (end_from c.args.before (results_of (names_of a) (block_of a f b))) passed (c.instructions.invariant f)
