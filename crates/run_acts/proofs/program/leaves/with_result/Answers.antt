use Rattle.std.proofs.Common.{◌≡◌, ℕ, ◌+◌, None, Some, sym, ap, ◌∙◌, refl}
use Rattle.module_arena.specs.declared.entry.Function.{Function}
use Rattle.run_initial.specs.Constants.Sound.{names_of}
use Rattle.run_rules.specs.Scope.{result_of}
use Rattle.run_decode.specs.Scopes.Places.{end_from}
use Rattle.run_decode.specs.Scopes.Scopes.{instruction_of}
use Rattle.run_decode.proofs.OnScopes.Answered.{if_also}
use Rattle.run_acts.proofs.OnProgram.Counted.{with_result}
use Rattle.run_acts.proofs.program.leaves.with_result.Goals as goal

pub returns-in-Some : goal.returns-in-Some
returns-in-Some c =
    let a = c.args.arena.now in
    let i = c.args.instruction.now in
    if_also c.sum_of.result (λ (end : ℕ). end ≡ c.args.before + c.leaves_given.result) (λ (end : ℕ). (f : Function) → end ≡ end_from c.args.before (result_of (names_of a) (instruction_of a f i)))
    c.sum_of.ensures
    (λ end is. λ f. with_result a f i (Some c.in-Some.field-0) c.args.before end c.in-Some.ensures (ap (λ (n : ℕ). c.args.before + n) (sym (c.leaves_given.ensures f)) ∙ sym is))

pub returns-in-None : goal.returns-in-None
returns-in-None c = λ f. with_result c.args.arena.now f c.args.instruction.now None c.args.before c.args.before c.in-None.ensures refl
