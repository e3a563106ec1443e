use Rattle.std.proofs.Common.{◌≡◌, [], length, None, Option, refl, Some, sym, subst, true}
use Rattle.ir_memory.specs.Memory.{Blocks}
use Rattle.module_arena.specs.Lists.{Lists}
use Rattle.run_rules.specs.Wants.{wants_memory}
use Rattle.run_decode.specs.declared.flat.action.Action.{Action}
use Rattle.run_decode.specs.declared.flat.pools.Pools.{Pools}
use Rattle.run_decode.specs.Flat.Flat.{action_of}
use Rattle.run_decode.specs.Body.Bodies.{Decoded}
use Rattle.run_acts.specs.Program.Loaded.{Loaded}
use Rattle.run_actions.specs.Stack.UnderWay.{UnderWay}
use Rattle.run_acts.specs.declared.next.Next.{Next}
use Rattle.run_acts.specs.Classes.May.{MayAct}
use Rattle.run_acts.proofs.OnClasses.Placed.{on_err}
use Rattle.run_acts.specs.Acting.{ActsInside, ComesInside, MayActBy, MayActIn, WantsHere}
use Rattle.run_acts.proofs.AskedCalls.{comes_for, if_ok, may_act, may_act_by, outer_here, stands_by, wants_for}
use Rattle.run_acts.proofs.instruction.act_inside.Goals as goal

-- ---- the instruction

pub action-flat-requires : goal.action-flat-requires
action-flat-requires c =
    stands_by c.requires.may.0 c.args.decoded.now c.args.stack.now c.args.memory.now c.requires.may.1 c.block.result c.position.result c.block.ensures c.position.ensures

pub act_within-requires : goal.act_within-requires
act_within-requires c =
    let p = c.requires.may.0 in
    let b = c.args.decoded.now in
    let s = c.args.stack.now in
    let m = c.args.memory.now in
    let x = c.action-flat in
    let may = may_act_by p b s m c.requires.may.1 c.block.result c.position.result c.block.ensures c.position.ensures x.result.now x.ensures.action x.ensures.within x.ensures.fits in
    record {
      may = subst (λ (q : Pools). MayAct (length m.list) q x.result.now s) (sym c.pools-pools.ensures) (may_act p b x.result.now s m may);
      next = c.requires.may.1.here.next;
    }

-- ---- what comes of it

-- what was said of the action is said of the instruction
inside_for : (p : Loaded) (b : Decoded) (action : Action) (s : UnderWay) (m : Blocks) → MayActIn p b action s m → (next : Option Next) (new : UnderWay) (n : Blocks) → ComesInside (action_of b.pools p.lists action) next s new m n → ActsInside p next s new m n
inside_for p b action s m may None new n h = (h.0, h.1, outer_here p b action s m may h.2)
inside_for p b action s m may (Some next) new n h = (λ due. comes_for p b action s m may due next new n [] refl h.0, h.1)

pub returns-clause-acts : goal.returns-clause-acts
returns-clause-acts c =
    let b = c.args.decoded.now in
    let s = c.args.stack.now in
    let m = c.args.memory.now in
    let x = c.action-flat in
    let new = c.act_within.new in
    let pools = c.pools-pools.result.now in
    if_ok c.act_within.result (λ (next : Option Next). (a : Lists) → ComesInside (action_of pools a x.result.now) next s new.stack m new.memory)
    (λ (next : Option Next). (p : Loaded) → MayActBy p b s m → ActsInside p next s new.stack m new.memory)
    (λ next comes p by.
    let may = may_act_by p b s m by c.block.result c.position.result c.block.ensures c.position.ensures x.result.now x.ensures.action x.ensures.within x.ensures.fits in
    inside_for p b x.result.now s m may next new.stack new.memory (subst (λ (q : Pools). ComesInside (action_of q p.lists x.result.now) next s new.stack m new.memory) c.pools-pools.ensures (comes p.lists)))
    c.act_within.ensures.comes

pub returns-clause-wants : goal.returns-clause-wants
returns-clause-wants c =
    let b = c.args.decoded.now in
    let s = c.args.stack.now in
    let m = c.args.memory.now in
    let x = c.action-flat in
    let pools = c.pools-pools.result.now in
    on_err c.act_within.result ((a : Lists) → wants_memory (action_of pools a x.result.now) ≡ true) ((p : Loaded) → MayActBy p b s m → WantsHere p s)
    (λ wants p by.
    let may = may_act_by p b s m by c.block.result c.position.result c.block.ensures c.position.ensures x.result.now x.ensures.action x.ensures.within x.ensures.fits in
    wants_for p b x.result.now s m may (subst (λ (q : Pools). wants_memory (action_of q p.lists x.result.now) ≡ true) c.pools-pools.ensures (wants p.lists)))
    c.act_within.ensures.wants
