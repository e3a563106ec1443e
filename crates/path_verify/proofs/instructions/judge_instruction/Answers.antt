use Rattle.std.proofs.Common.{List, Ok, length, sym, ◌∙◌, subst}
use Rattle.std.proofs.lemmas.Bool.{and_parts}
use Rattle.module_arena.specs.Changes.{function_in}
use Rattle.module_arena.specs.Lists.{function_blocks, value_names}
use Rattle.module_arena.specs.View.{module_of}
use Rattle.path_rows.specs.Numbers.{names_of}
use Rattle.instruction_verify.specs.Uses.Uses.{block_named, blocks_named, instruction_in}
use Rattle.instruction_verify.specs.declared.last.local_type.LocalType.{LocalType}
use Rattle.instruction_verify.specs.Last.ValuesById.{AreLocalTypes}
use Rattle.path_verify.proofs.Joined.{last_judges}
use Rattle.path_verify.proofs.Listed.{uses_known}
use Rattle.path_verify.proofs.NoPhi.{no_phi_suits}
use Rattle.path_verify.proofs.instructions.judge_instruction.Goals as goal

pub uses_pass-requires-clause-known : goal.uses_pass-requires-clause-known
uses_pass-requires-clause-known c =
    let f = c.args.facts.now.function.now in
    uses_known c.args.facts.now.judge.now (length (value_names f)) (length (function_blocks f)) c.args.instruction.now c.requires.known

pub returns-then-passes-clause-judged : goal.returns-then-passes-clause-judged
returns-then-passes-clause-judged c block named behind =
    let a = c.args.facts.now.judge.now in
    let f = c.args.facts.now.function.now in
    let ready = c.requires.ready in
    let i = instruction_in a f c.args.instruction.now in
    let n = c.args.site.now.number in
    let passes = and_parts _ _ c.if-passes.true in
    let types : AreLocalTypes a (function_in a f) (names_of f) c.deref.result.now =
    subst (λ (ts : List LocalType). AreLocalTypes a (function_in a f) (names_of f) ts) (sym c.deref.ensures.value) ready.types_told in
    last_judges (module_of a) (function_in a f) block c.args.site.now.before n i (block_named f c.args.site.now.block) named (Ok tt)
    (c.types_pass-typed.ensures.first (names_of f) (blocks_named f) f.name n passes.0)
    (no_phi_suits (function_in a f) block c.args.site.now.before i.operation (sym (c.is_phi.ensures a f) ∙ c.if-not-is_phi.true), tt)
    (c.uses_pass.ensures.held a ready.reflects passes.1)
    (c.types_pass-typed.ensures.last (function_in a f) (names_of f) (blocks_named f) n types passes.0)
