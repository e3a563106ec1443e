use Rattle.std.proofs.Common.{◌≡◌, ◌&&◌, not, Some, ap, ◌∙◌, subst, arith}
use Rattle.std.specs.Prelude.{slice_get}
use Rattle.extract_rules.proofs.Keeping.{flags_more, flags_whole}
use Rattle.linkage_rules.specs.Linkages.{is_available_externally}
use Rattle.run_names.specs.Standings.{has_code}
use Rattle.run_initial.proofs.missing.defined.defined_functions.Goals as goal

pub functions-preserved : goal.functions-preserved
functions-preserved c =
    let a = c.args.arena.now in
    let x = c.function-function.result.now in
    let at : slice_get a.functions c.functions.number ≡ Some x = subst (λ n. slice_get a.functions n ≡ Some x) c.new.ensures c.function-function.ensures in
    flags_more has_code a.functions c.functions.number x c.functions.flags c.push.new.self c.is_definition-has_code.result at c.functions.invariant c.in_ok-push.ensures.ok
    (c.is_definition-has_code.ensures ∙ ap (λ b. b && not (is_available_externally x.linkage)) c.is_some.ensures)

pub returns : goal.returns
returns c =
    let a = c.args.arena.now in
    flags_whole has_code a.functions c.functions.number c.functions.flags (omega arith) c.functions.invariant
