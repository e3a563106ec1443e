use Rattle.std.proofs.Common.{◌+◌, ℕ, sym, ap, ◌∙◌, arith}
use Rattle.std.proofs.lemmas.List.{length-map}
use Rattle.std.proofs.lemmas.Result.{err_from_is_err_and}
use Rattle.module_arena.specs.Changes.{function_in}
use Rattle.module_arena.specs.Lists.{function_blocks}
use Rattle.module_arena.specs.View.{module_of}
use Rattle.instruction_verify.specs.Uses.Uses.{instruction_in}
use Rattle.path_verify.specs.Ready.{block_in, blocks_in}
use Rattle.path_verify.proofs.InModule.{block_at}
use Rattle.path_verify.proofs.Ordered.{block_fails, block_holds, blocks_end}
use Rattle.path_verify.proofs.Ready.{few_blocks}
use Rattle.path_verify.proofs.blocks.judge_blocks.Goals as goal

pub in_order-init : goal.in_order-init
in_order-init c = record { sourced = c.requires.sourced; leads = λ r j. j }

pub overflow_cast-index : goal.overflow_cast-index
overflow_cast-index c = omega (arith, few_blocks c.args.facts.now.judge.now c.args.facts.now.function.now c.requires.ready.known, c.in_order-test.true, c.block_count-index-end.ensures)

pub judge_block-requires-clause-sourced : goal.judge_block-requires-clause-sourced
judge_block-requires-clause-sourced c = c.in_order.invariant.sourced

pub in_order-preserved : goal.in_order-preserved
in_order-preserved c =
    let a = c.args.facts.now.judge.now in
    let f = c.args.facts.now.function.now in
    let b = c.block-block.result.now in
    let at = block_at a f c.in_order.index b (rw c.new-id.ensures at c.block-block.ensures) in
    let behind = ap (λ (n : ℕ). c.in_order.number + n + 1) (sym (length-map b.instructions (instruction_in a f))) in
    record {
      sourced = c.judge_block.ensures.sourced;
      leads = block_holds (module_of a) (function_in a f) (blocks_in a f) c.in_order.index c.in_order.number _ (block_in a f b) _ at (c.in_ok-next.ensures ∙ behind) c.in_ok-judge_block.ensures.judged c.in_order.invariant.leads;
    }

pub returns-in_err-judge_block : goal.returns-in_err-judge_block
returns-in_err-judge_block c =
    let a = c.args.facts.now.judge.now in
    let f = c.args.facts.now.function.now in
    let b = c.block-block.result.now in
    let at = block_at a f c.in_order.index b (rw c.new-id.ensures at c.block-block.ensures) in
    let p = err_from_is_err_and c.from_residual-in_err-judge_block.result c.from_residual-in_err-judge_block.ensures.1 in
    rw (p.1, p.2) (block_fails (module_of a) (function_in a f) (blocks_in a f) c.in_order.index c.in_order.number (block_in a f b) _ _ at c.in_err-judge_block.ensures.judged c.in_order.invariant.leads)

pub returns : goal.returns
returns c =
    let a = c.args.facts.now.judge.now in
    let f = c.args.facts.now.function.now in
    blocks_end (module_of a) (function_in a f) (blocks_in a f) c.in_order.index c.in_order.number _ (omega (arith, c.in_order-test.false, c.block_count-index-end.ensures, length-map (function_blocks f) (block_in a f))) c.in_order.invariant.leads
