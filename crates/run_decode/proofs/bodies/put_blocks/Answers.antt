use Rattle.std.proofs.Common.{◌<◌, List, length, take, sym, ap, ◌∙◌, subst, arith}
use Rattle.std.proofs.lemmas.List.{take_all}
use Rattle.std.specs.List.{AllZip}
use Rattle.std.specs.Prelude.{slice_get}
use Rattle.module_arena.specs.declared.entry.Block as the_block
use Rattle.module_arena.specs.Lists.{function_blocks}
use Rattle.run_decode.specs.declared.flat.leaf.Span.{Span}
use Rattle.run_decode.proofs.OnSignatures.Numbered.{numbers_none, numbers_then}
use Rattle.run_decode.specs.Rows.{IsRow}
use Rattle.run_decode.proofs.Rowed.{block_there, rows_more}
use Rattle.run_decode.proofs.bodies.put_blocks.Goals as goal

pub placed-init : goal.placed-init
placed-init c = record {
  numbers = numbers_none c.args.signatures.now;
  numbered = c.requires.numbered;
  rows = subst (λ (rows : List Span). AllZip (IsRow c.args.scope.now c.args.pools.now c.args.actions.now) rows (take 0 (function_blocks c.args.scope.now.function))) (sym c.new-rows.ensures) tt;
  within = c.requires.within;
}

pub put_block-requires-clause-lists : goal.put_block-requires-clause-lists
put_block-requires-clause-lists c = c.placed.invariant.numbers.lists ∙ c.requires.lists

pub placed-preserved : goal.placed-preserved
placed-preserved c =
    let s = c.args.scope.now in
    let bs = function_blocks s.function in
    let k = c.placed.number in
    let lt : k < length bs = omega arith in
    let there = block_there bs k lt in
    record {
      numbers = numbers_then c.args.signatures.now c.placed.signatures c.put_block.new.signatures c.placed.invariant.numbers c.put_block.ensures.numbers;
      numbered = c.in_ok-row.ensures.numbered;
      rows =
          rows_more s c.placed.pools c.put_block.new.pools c.placed.actions c.put_block.new.actions c.placed.rows c.push.new.self c.in_ok-row.row bs k there.0 c.in_ok-row.ensures.grows c.in_ok-row.ensures.kept there.1 c.in_ok-push.ensures.items
          (c.in_ok-row.ensures.row there.0 (ap (slice_get bs) c.new.ensures ∙ there.1)) c.placed.invariant.rows;
      within = c.in_ok-row.ensures.within;
    }

pub returns-clause-rows : goal.returns-clause-rows
returns-clause-rows c =
    let s = c.args.scope.now in
    let bs = function_blocks s.function in
    record {
      rows = subst (λ (xs : List the_block.Block). AllZip (IsRow s c.placed.pools c.placed.actions) c.placed.rows xs) (take_all c.placed.number bs (omega arith)) c.placed.invariant.rows;
      within = c.placed.invariant.within;
    }
