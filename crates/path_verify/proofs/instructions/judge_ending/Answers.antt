use Rattle.std.proofs.Common.{◌≡◌, ◌++◌, List, Ok, sym, ap, ◌∙◌, subst}
use Rattle.std.proofs.lemmas.Bool.{and_parts}
use Rattle.module_arena.specs.Changes.{function_in}
use Rattle.module_arena.specs.View.{module_of}
use Rattle.module_arena.specs.declared.instruction.Operand.{Operand}
use Rattle.path_rows.specs.Operands.{end_operands_of}
use Rattle.path_rows.specs.Numbers.{names_of}
use Rattle.instruction_verify.specs.Uses.Uses.{block_named, blocks_named, ending_in}
use Rattle.instruction_verify.specs.declared.last.local_type.LocalType.{LocalType}
use Rattle.instruction_verify.specs.Last.ValuesById.{AreLocalTypes}
use Rattle.path_verify.proofs.Joined.{end_last_judges}
use Rattle.path_verify.proofs.instructions.judge_ending.Goals as goal

pub returns-then-passes : goal.returns-then-passes
returns-then-passes c block named ended stands =
    let a = c.args.facts.now.judge.now in
    let f = c.args.facts.now.function.now in
    let n = c.args.site.now.number in
    let passes = and_parts _ _ c.if-passes.true in
    let listed : c.deref-3.result.now ≡ end_operands_of c.args.ending.now =
    c.deref-3.ensures.value ∙ c.in_ok-gather_ending.ensures ∙ ap (λ (os : List Operand). os ++ end_operands_of c.args.ending.now) c.clear.ensures.items in
    let types : AreLocalTypes a (function_in a f) (names_of f) c.deref.result.now =
    subst (λ (ts : List LocalType). AreLocalTypes a (function_in a f) (names_of f) ts) (sym c.deref.ensures.value) c.requires.ready.types_told in
    end_last_judges (module_of a) (function_in a f) block n (block_named f c.args.site.now.block) named (ending_in a f c.args.ending.now) ended c.args.site.now.before stands (Ok tt)
    (c.ending_types_pass-typed.ensures.first (names_of f) (blocks_named f) n passes.0)
    (c.ending_uses_pass.ensures.held a c.args.ending.now listed c.requires.ready.reflects passes.1)
    (c.ending_types_pass-typed.ensures.last (names_of f) (blocks_named f) n types passes.0)
