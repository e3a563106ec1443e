use Rattle.std.proofs.Common.{◌≡◌, ◌<◌, length, slice_get, Some, refl, sym, ap, ◌∙◌, arith}
use Rattle.module_arena.specs.Changes.{variable_in}
use Rattle.module_arena.specs.Module.{Module, Variable}
use Rattle.module_arena.specs.View.{module_of}
use Rattle.item_build.specs.Types.Declarations.{without_initialiser}
use Rattle.extract_rules.proofs.Entries.{get_within}
use Rattle.extract_rules.proofs.Keeping.{variable_at, variables_length}
use Rattle.extract_core.specs.Fates.Fates.{variable_as}
use Rattle.extract_core.specs.Declaring.Stages.{with_variables}
use Rattle.extract_core.specs.Defining.Filling.{initialised_as}
use Rattle.extract_core.proofs.OnDefining.Changed.{keeps_all_same, keeps_all_on}
use Rattle.extract_core.proofs.OnDefining.Filled.{variables_step, next_found, behind_is, behind_upto, all_done}
use Rattle.extract_core.proofs.OnDefining.Initialisers.{variable_made}
use Rattle.extract_core.proofs.OnDefining.NextEntry.{variable_there, variable_unset}
use Rattle.extract_core.proofs.defining.initialising.initialise_variables.Goals as goal

pub initialise_next-requires-clause-known : goal.initialise_next-requires-clause-known
initialise_next-requires-clause-known c = let e = c.new-id.ensures in omega (arith, e, c.variables-test.true, c.variable_count-number-end.ensures.count)

pub initialise_next-requires-clause-upto : goal.initialise_next-requires-clause-upto
initialise_next-requires-clause-upto c = let e = c.new-id.ensures in let le = c.variables.invariant.before in omega (arith, e, le)

pub initialise_next-requires-clause-here : goal.initialise_next-requires-clause-here
initialise_next-requires-clause-here c = λ there.
    let a = c.args.from.now in
    let n = c.variables.number in
    let old = c.variables.invariant in
    let lt : n < length a.variables = omega (arith, c.variables-test.true, c.variable_count-number-end.ensures.count) in
    let x = get_within a.variables n lt in
    let v : Variable = variable_in a x.0 in
    let w = variable_made c.at.result.now v there in
    let rest = c.requires.declared.0 in
    variable_there c.variables.into.arena c.variables.next (without_initialiser w.0)
    (next_found variable_as without_initialiser c.args.fates.now (module_of a).variables n c.at.result.now v c.at.ensures (variable_at a n x.0 x.1)
    rest (module_of c.variables.into.arena).variables w.0 c.variables.next w.1 (ap (λ (m : Module). m.variables) (old.joined rest c.requires.declared.1)) old.next)

pub initialise_next-requires-clause-undefined : goal.initialise_next-requires-clause-undefined
initialise_next-requires-clause-undefined c = λ there.
    let a = c.args.from.now in
    let n = c.variables.number in
    let old = c.variables.invariant in
    let lt : n < length a.variables = omega (arith, c.variables-test.true, c.variable_count-number-end.ensures.count) in
    let x = get_within a.variables n lt in
    let v : Variable = variable_in a x.0 in
    let w = variable_made c.at.result.now v there in
    let rest = c.requires.declared.0 in
    variable_unset c.variables.into.arena c.variables.next w.0
    (next_found variable_as without_initialiser c.args.fates.now (module_of a).variables n c.at.result.now v c.at.ensures (variable_at a n x.0 x.1)
    rest (module_of c.variables.into.arena).variables w.0 c.variables.next w.1 (ap (λ (m : Module). m.variables) (old.joined rest c.requires.declared.1)) old.next)

pub initialise_next-requires-clause-copies : goal.initialise_next-requires-clause-copies
initialise_next-requires-clause-copies c = c.variables.invariant.keeps.copies c.args.from.now c.args.copier.now c.requires.copies

pub initialise_next-requires-clause-names : goal.initialise_next-requires-clause-names
initialise_next-requires-clause-names c = λ v at. c.requires.names c.variables.number v c.at.result.now (ap (slice_get (module_of c.args.from.now).variables) (sym c.new-id.ensures) ∙ at) c.at.ensures

pub variables-init : goal.variables-init
variables-init c = record {
  upto = omega arith;
  next = refl;
  before = omega arith;
  joined = λ rest begins. ap (with_variables (module_of c.args.into.now.arena)) begins;
  keeps = keeps_all_same c.args.into.now.arena;
}

pub variables-preserved : goal.variables-preserved
variables-preserved c =
    let a = c.args.from.now in
    let b = c.args.into.now.arena in
    let mid = c.variables.into.arena in
    let new = c.initialise_next.new.into.arena in
    let n = c.variables.number in
    let next = c.variables.next in
    let old = c.variables.invariant in
    let step = c.in_ok-behind.ensures in
    let fates = c.args.fates.now in
    let fate = c.at.result.now in
    let lt : n < length a.variables = omega (arith, c.variables-test.true, c.variable_count-number-end.ensures.count) in
    let x = get_within a.variables n lt in
    let v : Variable = variable_in a x.0 in
    let at : slice_get (module_of a).variables n ≡ Some v = variable_at a n x.0 x.1 in
    let here = ap (slice_get (module_of a).variables) c.new-id.ensures ∙ at in
    record {
      upto = omega (arith, lt);
      next = behind_is variable_as without_initialiser fates (module_of a).variables n fate v c.at.ensures at next c.in_ok-behind.behind old.next (step.behind v here);
      before = behind_upto next c.in_ok-behind.behind (variable_as fate v) n (step.behind v here) old.before;
      joined = λ rest begins. step.module v here ∙ ap (λ (m : Module). initialised_as m next (variable_as fate v)) (old.joined rest begins)
          ∙ variables_step (module_of b) fates (module_of a).variables rest n fate v c.at.ensures at next old.next;
      keeps = keeps_all_on b mid new old.keeps step.keeps;
    }

pub returns-clause-module : goal.returns-clause-module
returns-clause-module c = λ rest begins.
    let a = c.args.from.now in
    let n = c.variables.number in
    let old = c.variables.invariant in
    let upto = old.upto in
    let sizes = c.requires.sizes in
    let long = variables_length a in
    let end : n ≡ length a.variables = omega (arith, upto, c.variables-test.false, c.variable_count-number-end.ensures.count) in
    old.joined rest begins
    ∙ ap (with_variables (module_of c.args.into.now.arena)) (all_done variable_as without_initialiser c.args.fates.now (module_of a).variables n (omega (arith, end, sizes)) (omega (arith, end, long)) rest)
