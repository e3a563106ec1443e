use Rattle.std.proofs.Common.{List, ℕ, ◌≤◌, length, sym, ◌∙◌, subst, All}
use Rattle.ir_eval.specs.declared.value.Scalar.{Scalar}
use Rattle.run_acts.specs.declared.next.Next.{Next}
use Rattle.run_rules.specs.State.{Due}
use Rattle.run_actions.specs.Operands.{IsThere}
use Rattle.run_decode.specs.declared.flat.action.Action.TheVariants as flat
use Rattle.run_decode.specs.Flat.Flat.{action_of}
use Rattle.run_decode.specs.Body.Bodies.{Decoded}
use Rattle.run_acts.specs.Program.Loaded.{IsReady}
use Rattle.run_acts.specs.Made.{StaysReady}
use Rattle.run_acts.proofs.OnClasses.Placed.{on_ok}
use Rattle.run_acts.specs.Acting.{CameTo, MayActIn}
use Rattle.run_acts.proofs.AskedCalls.{arguments_read, call_here, if_ok, keeps_itself, pools_of, ready_behind, still_ready}
use Rattle.run_acts.proofs.calls.act_on_call.Goals as goal

pub body-decoded-requires : goal.body-decoded-requires
body-decoded-requires c =
    let may = c.requires.may in
    (may.0, subst (λ (n : ℕ). IsReady c.args.program.now n may.0) (sym c.function.ensures) may.1.ready)

pub at-parts-requires : goal.at-parts-requires
at-parts-requires c =
    let a = c.args in
    let may = c.requires.may in
    let q = c.pools-pools.result.now in
    let same = pools_of a.program.now may.0 c.body-decoded.result.now (flat.Call a.to a.callee a.place) a.stack.now a.memory.now c.function.result q may.1 c.function.ensures c.body-decoded.ensures.ready c.pools-pools.ensures in
    (call_here a.program.now may.0 q a.to a.callee a.place a.stack.now a.memory.now may.1 same).place_in

pub origin-operand-requires : goal.origin-operand-requires
origin-operand-requires c =
    let a = c.args in
    let may = c.requires.may in
    let q = c.pools-pools.result.now in
    let same = pools_of a.program.now may.0 c.body-decoded.result.now (flat.Call a.to a.callee a.place) a.stack.now a.memory.now c.function.result q may.1 c.function.ensures c.body-decoded.ensures.ready c.pools-pools.ensures in
    (call_here a.program.now may.0 q a.to a.callee a.place a.stack.now a.memory.now may.1 same).leaf_in

pub read-address-requires : goal.read-address-requires
read-address-requires c =
    let a = c.args in
    let may = c.requires.may in
    let q = c.pools-pools.result.now in
    let same = pools_of a.program.now may.0 c.body-decoded.result.now (flat.Call a.to a.callee a.place) a.stack.now a.memory.now c.function.result q may.1 c.function.ensures c.body-decoded.ensures.ready c.pools-pools.ensures in
    (call_here a.program.now may.0 q a.to a.callee a.place a.stack.now a.memory.now may.1 same).callee_there c.origin-operand.result c.origin-operand.ensures

pub in_span-listed-requires : goal.in_span-listed-requires
in_span-listed-requires c =
    let a = c.args in
    let may = c.requires.may in
    let q = c.pools-pools.result.now in
    let same = pools_of a.program.now may.0 c.body-decoded.result.now (flat.Call a.to a.callee a.place) a.stack.now a.memory.now c.function.result q may.1 c.function.ensures c.body-decoded.ensures.ready c.pools-pools.ensures in
    (call_here a.program.now may.0 q a.to a.callee a.place a.stack.now a.memory.now may.1 same).span_in c.at-parts.result.now c.at-parts.ensures

pub read_leaves-requires : goal.read_leaves-requires
read_leaves-requires c =
    let a = c.args in
    let may = c.requires.may in
    let q = c.pools-pools.result.now in
    let same = pools_of a.program.now may.0 c.body-decoded.result.now (flat.Call a.to a.callee a.place) a.stack.now a.memory.now c.function.result q may.1 c.function.ensures c.body-decoded.ensures.ready c.pools-pools.ensures in
    subst (All (IsThere a.stack.now)) (sym c.in_span-listed.ensures) ((call_here a.program.now may.0 q a.to a.callee a.place a.stack.now a.memory.now may.1 same).arguments_there c.at-parts.result.now c.at-parts.ensures)

pub front-requires : goal.front-requires
front-requires c =
    subst (λ (xs : List Scalar). length c.in_span-listed.result.now ≤ length xs) (sym c.deref.ensures.value) c.in_ok-read_leaves.ensures.long

pub move_on-requires : goal.move_on-requires
move_on-requires c = record { running = c.requires.may.1.here.running; room = c.requires.may.1.room }

pub call_address-requires : goal.call_address-requires
call_address-requires c =
    let a = c.args in
    let may = c.requires.may in
    let q = c.pools-pools.result.now in
    let same = pools_of a.program.now may.0 c.body-decoded.result.now (flat.Call a.to a.callee a.place) a.stack.now a.memory.now c.function.result q may.1 c.function.ensures c.body-decoded.ensures.ready c.pools-pools.ensures in
    let here = call_here a.program.now may.0 q a.to a.callee a.place a.stack.now a.memory.now may.1 same in
    let all = arguments_read a.stack.now c.in_span-listed.result.now _ _ c.deref.result.now c.front.result.now c.in_span-listed.ensures c.in_ok-read_leaves.ensures.front c.deref.ensures.value c.front.ensures in
    record {
      typed = may.1.here.typed;
      call = here.may_call c.at-parts.result.now c.at-parts.ensures c.front.result.now c.move_on.new.self all c.move_on.ensures;
      none = c.requires.none;
      memory = may.1.here.memory;
      next = may.1.here.next;
    }

pub returns-clause-came : goal.returns-clause-came
returns-clause-came c =
    let a = c.args in
    let q = c.pools-pools.result.now in
    let new = c.call_address.new in
    let action = flat.Call a.to a.callee a.place in
    let all = arguments_read a.stack.now c.in_span-listed.result.now _ _ c.deref.result.now c.front.result.now c.in_span-listed.ensures c.in_ok-read_leaves.ensures.front c.deref.ensures.value c.front.ensures in
    if_ok c.call_address.result _
    (λ (next : Next). (b : Decoded) (due : List Due) → MayActIn a.program.now b action a.stack.now a.memory.now → CameTo a.program.now (action_of b.pools a.program.now.lists action) due next a.stack.now new.stack a.memory.now new.memory new.written.items)
    (λ next called b due may.
    let same = pools_of a.program.now b c.body-decoded.result.now action a.stack.now a.memory.now c.function.result q may c.function.ensures c.body-decoded.ensures.ready c.pools-pools.ensures in
    let here = call_here a.program.now b q a.to a.callee a.place a.stack.now a.memory.now may same in
    here.call_is c.at-parts.result.now c.at-parts.ensures c.read-address.result c.origin-operand.result c.front.result.now c.move_on.new.self due c.origin-operand.ensures c.read-address.ensures all c.move_on.ensures
    ∙ called b due (ready_behind a.program.now b action a.stack.now c.move_on.new.self a.memory.now may c.move_on.ensures)) c.call_address.ensures.called

pub returns-clause-ready : goal.returns-clause-ready
returns-clause-ready c =
    let p = c.args.program.now in
    let s = c.args.stack.now in
    let after = c.move_on.new.self in
    let new = c.call_address.new in
    on_ok c.call_address.result (StaysReady p after new.program new.stack) (StaysReady p s new.program new.stack)
    (still_ready p new.program s after new.stack c.move_on.ensures c.requires.may.1.here.running) c.call_address.ensures.ready

pub returns-in_err-read_leaves-clause-keeps : goal.returns-in_err-read_leaves-clause-keeps
returns-in_err-read_leaves-clause-keeps c = keeps_itself c.args.program.now
