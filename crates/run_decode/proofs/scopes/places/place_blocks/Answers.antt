use Rattle.std.proofs.Common.{List, flat_map, map, append-nil, refl, ap, arith}
use Rattle.std.proofs.lemmas.List.{take_all}
use Rattle.module_arena.specs.declared.entry.Block.{Block}
use Rattle.run_initial.specs.Constants.Sound.{names_of}
use Rattle.run_rules.specs.Scope.{results_of}
use Rattle.run_decode.specs.Scopes.Scopes.{block_of}
use Rattle.run_decode.proofs.OnScopes.Added.{added_same, added_step, mapped_join}
use Rattle.run_decode.proofs.scopes.places.place_blocks.Goals as goal

pub placed-preserved : goal.placed-preserved
placed-preserved c = λ f.
    let a = c.args.arena.now in
    let x = c.block-item.result in
    added_step (λ (b : Block). results_of (names_of a) (block_of a f b)) (λ (bs : List Block). flat_map (results_of (names_of a)) (map (block_of a f) bs))
    (mapped_join (results_of (names_of a)) (block_of a f)) (λ b. append-nil (results_of (names_of a) (block_of a f b)))
    c.args.blocks.now c.args.blocks.now refl
    c.placed.block-index x x c.args.first c.placed.next c.in_ok-next.next c.args.places.now.items c.placed.places.items c.place_results.new.places.items
    c.placed-test.true c.block-item.is (c.placed.invariant f) (c.in_ok-next.ensures f)

pub returns : goal.returns
returns c = λ f.
    let a = c.args.arena.now in
    added_same c.args.first c.placed.next _ _ c.args.places.now.items c.placed.places.items
    (ap (λ (l : List Block). flat_map (results_of (names_of a)) (map (block_of a f) l)) (take_all c.placed.block-index c.args.blocks.now (omega arith))) (c.placed.invariant f)
