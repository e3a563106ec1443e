use Rattle.std.proofs.Common.{List, sym, subst}
use Rattle.std.proofs.lemmas.Result.{err_from_is_err_and}
use Rattle.module_arena.specs.Changes.{function_in}
use Rattle.module_arena.specs.View.{module_of}
use Rattle.path_rows.specs.Numbers.{names_of}
use Rattle.instruction_verify.specs.Uses.Uses.{block_named, blocks_named, ending_in}
use Rattle.instruction_verify.specs.declared.last.local_type.LocalType.{LocalType}
use Rattle.instruction_verify.specs.Last.ValuesById.{AreLocalTypes}
use Rattle.path_verify.proofs.Joined.{end_first_fails, end_last_judges, end_paths_fail}
use Rattle.path_verify.proofs.instructions.judge_ending_in_order.Goals as goal

pub returns-in_err-judge_ending_first : goal.returns-in_err-judge_ending_first
returns-in_err-judge_ending_first c block named ended stands =
    let a = c.args.facts.now.judge.now in
    let f = c.args.facts.now.function.now in
    let p = err_from_is_err_and c.from_residual.result c.from_residual.ensures.1 in
    rw (p.1, p.2) (end_first_fails (module_of a) (function_in a f) block c.args.site.now.number (block_named f c.args.site.now.block) named (ending_in a f c.args.ending.now) ended c.args.site.now.before stands _
    (c.in_err-judge_ending_first.ensures (names_of f) (blocks_named f)))

pub returns-in_err-judge_ending_uses : goal.returns-in_err-judge_ending_uses
returns-in_err-judge_ending_uses c block named ended stands =
    let a = c.args.facts.now.judge.now in
    let f = c.args.facts.now.function.now in
    let p = err_from_is_err_and c.from_residual-in_err-judge_ending_uses.result c.from_residual-in_err-judge_ending_uses.ensures.1 in
    rw (p.1, p.2) (end_paths_fail (module_of a) (function_in a f) block c.args.site.now.number (block_named f c.args.site.now.block) named (ending_in a f c.args.ending.now) ended c.args.site.now.before stands _
    (c.in_ok-judge_ending_first.ensures (names_of f) (blocks_named f))
    (c.in_err-judge_ending_uses.ensures a c.args.ending.now c.requires.gathered c.requires.ready.reflects))

pub returns : goal.returns
returns c block named ended stands =
    let a = c.args.facts.now.judge.now in
    let f = c.args.facts.now.function.now in
    let types : AreLocalTypes a (function_in a f) (names_of f) c.deref.result.now =
    subst (λ (ts : List LocalType). AreLocalTypes a (function_in a f) (names_of f) ts) (sym c.deref.ensures.value) c.requires.ready.types_told in
    end_last_judges (module_of a) (function_in a f) block c.args.site.now.number (block_named f c.args.site.now.block) named (ending_in a f c.args.ending.now) ended c.args.site.now.before stands c.judge_ending_last.result
    (c.in_ok-judge_ending_first.ensures (names_of f) (blocks_named f))
    (c.in_ok-judge_ending_uses.ensures a c.args.ending.now c.requires.gathered c.requires.ready.reflects)
    (c.judge_ending_last.ensures (names_of f) (blocks_named f) types)
