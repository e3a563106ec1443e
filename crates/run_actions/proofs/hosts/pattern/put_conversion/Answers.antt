use Rattle.std.proofs.Common.{◌≡◌, None, true, rules, arith, sym}
use Rattle.std.proofs.lemmas.Grind.{common_steps}
use Rattle.std.specs.Prelude.{slice_get}
use Rattle.run_names.proofs.OnValues.Refusals.{if_fault}
use Rattle.run_actions.specs.Hosts.Printing.{takes_argument}
use Rattle.run_actions.proofs.OnHosts.Walked.{argument_at, first_typed, none_left, refusal_of, refused_at}
use Rattle.run_actions.proofs.hosts.pattern.put_conversion.Goals as goal

pub returns-in_default-first-clause-why : goal.returns-in_default-first-clause-why
returns-in_default-first-clause-why c = λ rest to at.
    let takes : takes_argument c.args.conversion.now.kind ≡ true = first_of (search rules, grind (arith, common_steps)) in
    let none : slice_get c.args.kinds.now 0 ≡ None = first_of (search rules, grind (arith, common_steps)) in
    none_left c.args.memory.now c.args.conversion.now rest c.args.conversion.now.kind to at c.args.kinds.now c.args.arguments.now takes none

pub put_argument-requires-clause-typed : goal.put_argument-requires-clause-typed
put_argument-requires-clause-typed c =
    first_typed c.args.memory.now c.args.conversion.now c.args.kinds.now c.args.arguments.now c.in-Some.kind c.in-Some-first.argument.now c.requires (sym c.in-Some.ensures) (sym c.in-Some-first.ensures.value)

pub returns-in_err-put_argument-clause-why : goal.returns-in_err-put_argument-clause-why
returns-in_err-put_argument-clause-why c =
    let takes : takes_argument c.args.conversion.now.kind ≡ true = first_of (search rules, grind (arith, common_steps)) in
    if_fault c.from_residual-in_err-put_argument.result _ _ c.from_residual-in_err-put_argument.ensures.0 c.from_residual-in_err-put_argument.ensures.1
    (refused_at c.args.memory.now c.args.conversion.now c.args.kinds.now c.args.arguments.now c.in-Some.kind c.in-Some-first.argument.now _ takes (sym c.in-Some.ensures) (sym c.in-Some-first.ensures.value)
    (refusal_of _ _ _ _ c.in_err-put_argument.ensures))

pub returns-clause-ok : goal.returns-clause-ok
returns-clause-ok c =
    let takes : takes_argument c.args.conversion.now.kind ≡ true = first_of (search rules, grind (arith, common_steps)) in
    let wrote = c.in_ok-put_argument.ensures in (
      wrote.0,
      argument_at c.args.memory.now c.args.conversion.now c.args.kinds.now c.args.arguments.now c.in-Some.kind c.in-Some-first.argument.now wrote.0 takes c.requires (sym c.in-Some.ensures)
          (sym c.in-Some-first.ensures.value) wrote.1,
      wrote.2,
    )
