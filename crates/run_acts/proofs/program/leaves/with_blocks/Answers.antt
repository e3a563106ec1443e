use Rattle.std.proofs.Common.{List, flat_map, map, refl, arith}
use Rattle.module_arena.specs.declared.entry.Block.{Block}
use Rattle.run_initial.specs.Constants.Sound.{names_of}
use Rattle.run_rules.specs.Scope.{results_of}
use Rattle.run_decode.specs.Scopes.Places.{end_from}
use Rattle.run_decode.specs.Scopes.Scopes.{block_of}
use Rattle.run_acts.proofs.OnProgram.Counted.{counted_all, counted_more}
use Rattle.run_acts.proofs.program.leaves.with_blocks.Goals as goal

pub counted-preserved : goal.counted-preserved
counted-preserved c = λ f.
    let a = c.args.arena.now in
    let bs = c.args.blocks.now in
    counted_more (λ (xs : List Block). flat_map (results_of (names_of a)) (map (block_of a f) xs)) (λ (b : Block). results_of (names_of a) (block_of a f b)) (λ x xs. refl) bs bs refl
    c.counted.block-index c.block-item.result c.counted.end c.in_ok-end.end (end_from c.args.before (flat_map (results_of (names_of a)) (map (block_of a f) bs)))
    c.counted-test.true c.block-item.is (c.counted.invariant f) (c.in_ok-end.ensures f)

pub returns : goal.returns
returns c = λ f.
    let a = c.args.arena.now in
    let bs = c.args.blocks.now in
    counted_all (λ (xs : List Block). flat_map (results_of (names_of a)) (map (block_of a f) xs)) (λ (b : Block). results_of (names_of a) (block_of a f b)) (λ x xs. refl) refl
    bs c.counted.block-index c.counted.end (end_from c.args.before (flat_map (results_of (names_of a)) (map (block_of a f) bs))) (omega arith) (c.counted.invariant f)
