use Rattle.std.proofs.Common.{◌≡◌, ◌&&◌, not, Some, ap, ◌∙◌, subst, arith}
use Rattle.std.specs.Prelude.{slice_get}
use Rattle.extract_rules.proofs.Keeping.{flags_more, flags_whole}
use Rattle.linkage_rules.specs.Linkages.{is_available_externally}
use Rattle.run_names.specs.Spots.{is_defined}
use Rattle.run_initial.proofs.missing.defined.defined_variables.Goals as goal

pub variables-preserved : goal.variables-preserved
variables-preserved c =
    let a = c.args.arena.now in
    let x = c.variable-variable.result.now in
    let at : slice_get a.variables c.variables.number ≡ Some x = subst (λ n. slice_get a.variables n ≡ Some x) c.new.ensures c.variable-variable.ensures in
    flags_more is_defined a.variables c.variables.number x c.variables.flags c.push.new.self c.is_definition-is_defined.result at c.variables.invariant c.in_ok-push.ensures.ok
    (c.is_definition-is_defined.ensures ∙ ap (λ b. b && not (is_available_externally x.linkage)) c.is_some.ensures)

pub returns : goal.returns
returns c =
    let a = c.args.arena.now in
    flags_whole is_defined a.variables c.variables.number c.variables.flags (omega arith) c.variables.invariant
