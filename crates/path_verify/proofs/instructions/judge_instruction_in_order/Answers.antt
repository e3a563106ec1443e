use Rattle.std.proofs.Common.{List, length, sym, subst}
use Rattle.std.proofs.lemmas.Result.{err_from_is_err_and}
use Rattle.module_arena.specs.Changes.{function_in}
use Rattle.module_arena.specs.Lists.{function_blocks, value_names}
use Rattle.module_arena.specs.View.{module_of}
use Rattle.path_rows.specs.Numbers.{names_of}
use Rattle.instruction_verify.specs.Uses.Uses.{block_named, blocks_named, instruction_in}
use Rattle.instruction_verify.specs.declared.last.local_type.LocalType.{LocalType}
use Rattle.instruction_verify.specs.Last.ValuesById.{AreLocalTypes}
use Rattle.path_verify.proofs.Joined.{first_fails, last_judges, paths_fail, phi_fails}
use Rattle.path_verify.proofs.Listed.{classes_known, inst_within, uses_known}
use Rattle.path_verify.proofs.Ready.{few_blocks, targets_known}
use Rattle.path_verify.proofs.instructions.judge_instruction_in_order.Goals as goal

pub judge_instruction_first-requires : goal.judge_instruction_first-requires
judge_instruction_first-requires c =
    let a = c.args.facts.now.judge.now in
    let f = c.args.facts.now.function.now in
    inst_within a (length (value_names f)) (length (function_blocks f)) c.args.instruction.now c.requires.known

pub judge_phi-requires-clause-targets : goal.judge_phi-requires-clause-targets
judge_phi-requires-clause-targets c = targets_known c.args.facts.now.judge.now c.args.facts.now.function.now c.requires.ready.known

pub judge_phi-requires-clause-few : goal.judge_phi-requires-clause-few
judge_phi-requires-clause-few c = few_blocks c.args.facts.now.judge.now c.args.facts.now.function.now c.requires.ready.known

pub judge_phi-requires-clause-known : goal.judge_phi-requires-clause-known
judge_phi-requires-clause-known c =
    let f = c.args.facts.now.function.now in
    uses_known c.args.facts.now.judge.now (length (value_names f)) (length (function_blocks f)) c.args.instruction.now c.requires.known

pub judge_phi-requires-clause-classes : goal.judge_phi-requires-clause-classes
judge_phi-requires-clause-classes c =
    let f = c.args.facts.now.function.now in
    classes_known c.args.facts.now.judge.now (length (value_names f)) (length (function_blocks f)) c.args.instruction.now c.requires.known (length c.args.facts.now.classes.now) c.requires.ready.many_classes

pub judge_uses-requires-clause-known : goal.judge_uses-requires-clause-known
judge_uses-requires-clause-known c =
    let f = c.args.facts.now.function.now in
    uses_known c.args.facts.now.judge.now (length (value_names f)) (length (function_blocks f)) c.args.instruction.now c.requires.known

pub returns-in_err-judge_instruction_first-clause-judged : goal.returns-in_err-judge_instruction_first-clause-judged
returns-in_err-judge_instruction_first-clause-judged c block named behind =
    let a = c.args.facts.now.judge.now in
    let f = c.args.facts.now.function.now in
    let p = err_from_is_err_and c.from_residual.result c.from_residual.ensures.1 in
    rw (p.1, p.2) (first_fails (module_of a) (function_in a f) block c.args.site.now.before c.args.site.now.number (instruction_in a f c.args.instruction.now) (block_named f c.args.site.now.block) named _
    (c.in_err-judge_instruction_first.ensures (names_of f) (blocks_named f)))

pub returns-in_err-judge_phi-clause-judged : goal.returns-in_err-judge_phi-clause-judged
returns-in_err-judge_phi-clause-judged c block named behind =
    let a = c.args.facts.now.judge.now in
    let f = c.args.facts.now.function.now in
    let ready = c.requires.ready in
    let p = err_from_is_err_and c.from_residual-in_err-judge_phi.result c.from_residual-in_err-judge_phi.ensures.1 in
    rw (p.1, p.2) (phi_fails (module_of a) (function_in a f) block c.args.site.now.before c.args.site.now.number (instruction_in a f c.args.instruction.now) (block_named f c.args.site.now.block) named _
    (c.in_ok-judge_instruction_first.ensures (names_of f) (blocks_named f))
    (c.in_err-judge_phi.ensures.judged a c.args.facts.now.rows.graph block ready.reflects ready.apart ready.classes_told named behind))

pub returns-in_err-judge_uses-clause-judged : goal.returns-in_err-judge_uses-clause-judged
returns-in_err-judge_uses-clause-judged c block named behind =
    let a = c.args.facts.now.judge.now in
    let f = c.args.facts.now.function.now in
    let ready = c.requires.ready in
    let p = err_from_is_err_and c.from_residual-in_err-judge_uses.result c.from_residual-in_err-judge_uses.ensures.1 in
    rw (p.1, p.2) (paths_fail (module_of a) (function_in a f) block c.args.site.now.before c.args.site.now.number (instruction_in a f c.args.instruction.now) (block_named f c.args.site.now.block) named _
    (c.in_ok-judge_instruction_first.ensures (names_of f) (blocks_named f))
    (c.in_ok-judge_phi.ensures.judged a c.args.facts.now.rows.graph block ready.reflects ready.apart ready.classes_told named behind)
    (c.in_err-judge_uses.ensures a ready.reflects))

pub returns-clause-judged : goal.returns-clause-judged
returns-clause-judged c block named behind =
    let a = c.args.facts.now.judge.now in
    let f = c.args.facts.now.function.now in
    let ready = c.requires.ready in
    let types : AreLocalTypes a (function_in a f) (names_of f) c.deref.result.now =
    subst (λ (ts : List LocalType). AreLocalTypes a (function_in a f) (names_of f) ts) (sym c.deref.ensures.value) ready.types_told in
    last_judges (module_of a) (function_in a f) block c.args.site.now.before c.args.site.now.number (instruction_in a f c.args.instruction.now) (block_named f c.args.site.now.block) named c.judge_last.result
    (c.in_ok-judge_instruction_first.ensures (names_of f) (blocks_named f))
    (c.in_ok-judge_phi.ensures.judged a c.args.facts.now.rows.graph block ready.reflects ready.apart ready.classes_told named behind)
    (c.in_ok-judge_uses.ensures a ready.reflects)
    (c.judge_last.ensures (names_of f) (blocks_named f) types)
