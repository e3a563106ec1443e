use Rattle.std.proofs.Common.{◌≡◌, ℕ, List, [], true, sym, ◌∙◌, subst}
use Rattle.run_rules.specs.State.{Due}
use Rattle.run_rules.specs.Wants.{is_wide, wants_memory}
use Rattle.run_decode.specs.declared.flat.action.Action.TheVariants as flat
use Rattle.run_decode.specs.declared.flat.pools.Pools.{Pools}
use Rattle.run_decode.specs.Flat.Flat.{action_of}
use Rattle.run_decode.specs.Flat.Spans.{IsSpanIn}
use Rattle.run_decode.specs.Body.Bodies.{Decoded}
use Rattle.run_acts.specs.Program.Loaded.{IsReady}
use Rattle.run_acts.specs.declared.next.Next.{Next}
use Rattle.run_acts.specs.Said.{IsLast}
use Rattle.run_acts.proofs.OnClasses.Placed.{on_err}
use Rattle.run_acts.specs.Acting.{CameTo, MayActIn}
use Rattle.run_acts.proofs.AskedCalls.{allocas_known, given_fit, given_there, if_ok, pools_of, ready_returned, return_is, return_wants, spanned_by}
use Rattle.run_acts.proofs.calls.act_on_return.Goals as goal

pub body-decoded-requires : goal.body-decoded-requires
body-decoded-requires c =
    let may = c.requires.may in
    (may.0, subst (λ (n : ℕ). IsReady c.args.program.now n may.0) (sym c.function.ensures) may.1.ready)

pub in_span-leaves-requires : goal.in_span-leaves-requires
in_span-leaves-requires c =
    let a = c.args in
    let may = c.requires.may in
    let q = c.pools-pools.result.now in
    let same = pools_of a.program.now may.0 c.body-decoded.result.now (flat.Return a.value) a.stack.now a.memory.now c.function.result q may.1 c.function.ensures c.body-decoded.ensures.ready c.pools-pools.ensures in
    subst (λ (x : Pools). IsSpanIn x.origins a.value) (sym same) may.1.within

pub return_value-requires : goal.return_value-requires
return_value-requires c =
    let a = c.args in
    let may = c.requires.may in
    let q = c.pools-pools.result.now in
    let same = pools_of a.program.now may.0 c.body-decoded.result.now (flat.Return a.value) a.stack.now a.memory.now c.function.result q may.1 c.function.ensures c.body-decoded.ensures.ready c.pools-pools.ensures in
    let leaves = c.in_span-leaves.result.now in
    let here = spanned_by q may.0.pools a.value leaves same c.in_span-leaves.ensures in
    record {
      running = may.1.here.running;
      there = given_there a.program.now may.0 a.value a.stack.now a.memory.now may.1 leaves here;
      known = allocas_known a.program.now may.0 a.value a.stack.now a.memory.now may.1 leaves here;
      fit = given_fit a.program.now may.0 a.value a.stack.now a.memory.now may.1 leaves here;
    }

pub returns-clause-came : goal.returns-clause-came
returns-clause-came c =
    let a = c.args in
    let q = c.pools-pools.result.now in
    let leaves = c.in_span-leaves.result.now in
    let action = flat.Return a.value in
    let new = c.return_value.new in
    if_ok c.return_value.result _
    (λ (next : Next). (b : Decoded) (due : List Due) → IsLast due a.is_last → MayActIn a.program.now b action a.stack.now a.memory.now → CameTo a.program.now (action_of b.pools a.program.now.lists action) due next a.stack.now new.stack a.memory.now new.memory [])
    (λ next returned b due last may.
    let same = pools_of a.program.now b c.body-decoded.result.now action a.stack.now a.memory.now c.function.result q may c.function.ensures c.body-decoded.ensures.ready c.pools-pools.ensures in
    return_is a.program.now b a.value a.stack.now a.memory.now may leaves (spanned_by q b.pools a.value leaves same c.in_span-leaves.ensures) due ∙ returned due last) c.return_value.ensures.returned

pub returns-clause-ready : goal.returns-clause-ready
returns-clause-ready c = ready_returned c.return_value.result c.args.program.now c.args.stack.now c.return_value.new.stack c.return_value.ensures.ready

pub returns-clause-wants : goal.returns-clause-wants
returns-clause-wants c =
    let a = c.args in
    let q = c.pools-pools.result.now in
    let leaves = c.in_span-leaves.result.now in
    let action = flat.Return a.value in
    on_err c.return_value.result (is_wide leaves ≡ true) ((b : Decoded) → MayActIn a.program.now b action a.stack.now a.memory.now → wants_memory (action_of b.pools a.program.now.lists action) ≡ true)
    (λ wide b may.
    let same = pools_of a.program.now b c.body-decoded.result.now action a.stack.now a.memory.now c.function.result q may c.function.ensures c.body-decoded.ensures.ready c.pools-pools.ensures in
    return_wants a.program.now b a.value a.stack.now a.memory.now may leaves (spanned_by q b.pools a.value leaves same c.in_span-leaves.ensures) wide) c.return_value.ensures.wide
