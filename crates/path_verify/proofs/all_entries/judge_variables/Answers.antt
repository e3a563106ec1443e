use Rattle.std.proofs.Common.{◌≡◌, Some, length, slice_get, subst, sym, ap, ◌∙◌, arith}
use Rattle.std.proofs.lemmas.Result.{err_from_is_err_and}
use Rattle.module_arena.specs.Changes.{variable_in}
use Rattle.module_arena.specs.Known.{KnowsVariable}
use Rattle.module_arena.specs.Lists.{Lists}
use Rattle.module_arena.specs.Valid.{variable_demands}
use Rattle.module_arena.specs.View.{module_of}
use Rattle.entry_verify.proofs.OnTypes.Judging.{leads_next, fails_next, leads_end}
use Rattle.entry_verify.proofs.OnEntries.EntriesFound.{variable_at, variable_known, so_many_variables}
use Rattle.path_verify.proofs.all_entries.judge_variables.Goals as goal

pub judge_variable-requires : goal.judge_variable-requires
judge_variable-requires c =
    let b = c.arena-arena.result.now in
    subst (λ (d : Lists). KnowsVariable (length d.table.types) (length d.constants) c.variable.result.now) c.arena-arena.ensures
    (variable_known b c.variable_count-count.ensures.good c.new.result c.variable.result.now c.variable.ensures)

pub variables-init : goal.variables-init
variables-init c = λ r j. j

pub variables-preserved : goal.variables-preserved
variables-preserved c =
    let a = c.args.judge.now in
    let at : slice_get a.variables c.variables.number ≡ Some c.variable.result.now = (λ j. slice_get (sym c.arena-arena.ensures j).variables (sym c.new.ensures j)) ∙ c.variable.ensures in
    leads_next (variable_demands (module_of a)) (module_of a).variables c.variables.number (variable_in a c.variable.result.now) (variable_at a c.variables.number c.variable.result.now at) c.in_ok-judge_variable.ensures c.variables.invariant

pub returns-in_err-judge_variable : goal.returns-in_err-judge_variable
returns-in_err-judge_variable c =
    let a = c.args.judge.now in
    let at : slice_get a.variables c.variables.number ≡ Some c.variable.result.now = (λ j. slice_get (sym c.arena-arena.ensures j).variables (sym c.new.ensures j)) ∙ c.variable.ensures in
    let p = err_from_is_err_and c.from_residual.result c.from_residual.ensures.1 in
    rw (p.1, p.2) (fails_next (variable_demands (module_of a)) (module_of a).variables c.variables.number (variable_in a c.variable.result.now) _ (variable_at a c.variables.number c.variable.result.now at) c.in_err-judge_variable.ensures c.variables.invariant)

pub returns : goal.returns
returns c =
    let a = c.args.judge.now in
    let many = so_many_variables a in
    let same = ap (λ (d : Lists). length d.variables) c.arena-arena.ensures in
    leads_end (variable_demands (module_of a)) (module_of a).variables c.variables.number (omega (arith, many, same)) c.variables.invariant
