use Rattle.std.proofs.Common.{◌≡◌, ◌&&◌, length, refl, sym, ◌∙◌}
use Rattle.std.proofs.lemmas.List.{length-map}
use Rattle.std.proofs.lemmas.Option.{slice_get_within}
use Rattle.std.proofs.lemmas.Result.{err_from_is_err_and}
use Rattle.module_arena.specs.Changes.{function_in}
use Rattle.module_arena.specs.InstructionRules.{is_phi}
use Rattle.module_arena.specs.Lists.{function_blocks}
use Rattle.module_arena.specs.View.{module_of}
use Rattle.instruction_verify.specs.Uses.Uses.{instruction_in}
use Rattle.path_verify.specs.Ready.{block_in}
use Rattle.path_verify.proofs.InModule.{instruction_at, name_told}
use Rattle.path_verify.proofs.Ordered.{all_then, end_judged, instruction_fails, instruction_holds, instructions_begin}
use Rattle.path_verify.proofs.Ready.{ending_known, instruction_known}
use Rattle.path_verify.proofs.blocks.judge_block.Goals as goal

pub instructions-init : goal.instructions-init
instructions-init c =
    let a = c.args.facts.now.judge.now in
    let f = c.args.facts.now.function.now in
    let b = block_in a f c.args.block.now in
    record { sourced = c.requires.sourced; behind = refl; leads = instructions_begin (module_of a) (function_in a f) b c.args.first b.instructions }

pub judge_instruction-requires-clause-sourced : goal.judge_instruction-requires-clause-sourced
judge_instruction-requires-clause-sourced c = c.instructions.invariant.sourced

pub judge_instruction-requires-clause-block : goal.judge_instruction-requires-clause-block
judge_instruction-requires-clause-block c = slice_get_within (function_blocks c.args.facts.now.function.now) c.args.id c.args.block.now c.requires.block

pub judge_instruction-requires-clause-known : goal.judge_instruction-requires-clause-known
judge_instruction-requires-clause-known c =
    instruction_known c.args.facts.now.judge.now c.args.facts.now.function.now c.requires.ready.known c.args.id c.args.block.now c.requires.block c.instructions.before c.at-instruction.result.now c.at-instruction.ensures

pub instructions-preserved : goal.instructions-preserved
instructions-preserved c =
    let a = c.args.facts.now.judge.now in
    let f = c.args.facts.now.function.now in
    let b = block_in a f c.args.block.now in
    let i = instruction_in a f c.at-instruction.result.now in
    let here = instruction_at a f c.args.block.now c.instructions.before c.at-instruction.result.now c.at-instruction.ensures in
    let named = name_told a f c.args.id c.args.block.now c.requires.block in
    record {
      sourced = c.judge_instruction.ensures.sourced;
      behind = (λ j. c.instructions.invariant.behind j && c.is_phi-behind_phis.ensures a f j) ∙ all_then is_phi b.instructions c.instructions.before i here;
      leads = instruction_holds (module_of a) (function_in a f) b c.args.first b.instructions c.instructions.before i _ here (c.in_ok-judge_instruction.ensures.judged b named c.instructions.invariant.behind) c.instructions.invariant.leads;
    }

pub returns-in_err-judge_instruction-clause-judged : goal.returns-in_err-judge_instruction-clause-judged
returns-in_err-judge_instruction-clause-judged c =
    let a = c.args.facts.now.judge.now in
    let f = c.args.facts.now.function.now in
    let b = block_in a f c.args.block.now in
    let i = instruction_in a f c.at-instruction.result.now in
    let here = instruction_at a f c.args.block.now c.instructions.before c.at-instruction.result.now c.at-instruction.ensures in
    let named = name_told a f c.args.id c.args.block.now c.requires.block in
    let p = err_from_is_err_and c.from_residual.result c.from_residual.ensures.1 in
    rw (p.1, p.2) (instruction_fails (module_of a) (function_in a f) b c.args.first b.instructions c.instructions.before i _ _ here (c.in_err-judge_instruction.ensures.judged b named c.instructions.invariant.behind) c.instructions.invariant.leads)

pub judge_ending-requires-clause-block : goal.judge_ending-requires-clause-block
judge_ending-requires-clause-block c = slice_get_within (function_blocks c.args.facts.now.function.now) c.args.id c.args.block.now c.requires.block

pub judge_ending-requires-clause-known : goal.judge_ending-requires-clause-known
judge_ending-requires-clause-known c =
    ending_known c.args.facts.now.judge.now c.args.facts.now.function.now c.requires.ready.known c.args.id c.args.block.now c.requires.block

pub returns-clause-judged : goal.returns-clause-judged
returns-clause-judged c =
    let a = c.args.facts.now.judge.now in
    let f = c.args.facts.now.function.now in
    let b = block_in a f c.args.block.now in
    let named = name_told a f c.args.id c.args.block.now c.requires.block in
    let many : length b.instructions ≡ c.len-count.result = length-map c.args.block.now.instructions (instruction_in a f) ∙ sym c.len-count.ensures in
    end_judged (module_of a) (function_in a f) b c.args.first b.instructions c.instructions.before c.len-count.result _ c.judge_ending.result many c.instructions-test.false (c.instructions.auto.before-end) c.instructions.invariant.leads
    (c.judge_ending.ensures b named refl (sym many))
