-- What is asked of an instruction that stands at the newest frame of a typed run, class by class.
use Rattle.std.proofs.Common.{◌≡◌, ℕ, ◌+◌, ◌^◌, ◌<◌, ◌≤◌, All, Bool, List, [], ◌∷◌, length, map, Some, Result, Ok, Err, refl, sym, ap, ◌∙◌, subst, inl, inr, ◌⊎◌, arith}
use Rattle.std.specs.Prelude.{IfOk, OnOk, false, nat_lt, slice_get, take, true}
use Rattle.std.specs.List.{AllZip}
use Rattle.std.proofs.lemmas.Bool.{false≢true}
use Rattle.std.proofs.lemmas.List.{length-map}
use Rattle.std.proofs.lemmas.List.Elements.{All-cons, All-tail}
use Rattle.std.proofs.lemmas.Simd.{map-map}
use Rattle.std.proofs.lemmas.Option.{get_or_from_slice_get, same_Some, slice_get_within}
use Rattle.ir_eval.specs.declared.value.Scalar.{Scalar}
use Rattle.ir_memory.specs.declared.leaf.Leaf.TheVariants as leaf
use Rattle.ir_memory.specs.Given.{IsKnown}
use Rattle.ir_memory.specs.Memory.{Blocks}
use Rattle.module_arena.specs.Lists.{Lists}
use Rattle.run_rules.specs.Action as actions
use Rattle.run_rules.specs.Calls.{called_at, Callee, returned}
use Rattle.run_rules.specs.Frame.{moved_on, read, read_all}
use Rattle.run_rules.specs.Look.{table}
use Rattle.run_rules.specs.NeverStuck.{is_stuck}
use Rattle.run_rules.specs.State.{Due, Frame, on_top}
use Rattle.run_rules.specs.Step.{instruction}
use Rattle.run_rules.specs.Wants.{is_wide, may_want_memory, wants_memory}
use Rattle.run_actions.specs.declared.stack.origin.Origin.{Origin}
use Rattle.run_actions.specs.Stack.Origins.{origin_of}
use Rattle.run_actions.specs.Stack.UnderWay.{UnderWay, changed, IsRunning, newest, older, on_newest}
use Rattle.run_actions.specs.Carried.{acted, core_of}
use Rattle.run_actions.specs.Operands as operands
use Rattle.run_actions.specs.Operands.{HasPlaces, IsThere}
use Rattle.run_decode.specs.declared.flat.action.Action.{Action}
use Rattle.run_decode.specs.declared.flat.action.Action.TheVariants.{Call, Return, Passed}
use Rattle.run_decode.specs.declared.flat.action.Action.TheVariants as flat
use Rattle.run_decode.specs.declared.flat.action.CallParts.{CallParts}
use Rattle.run_decode.specs.declared.flat.leaf.LeafAt.{LeafAt}
use Rattle.run_decode.specs.declared.flat.leaf.Span.{Span}
use Rattle.run_decode.specs.declared.flat.pools.Pools.{Pools}
use Rattle.run_decode.specs.Flat.Flat.{action_of, call_of, IsLeafIn, IsWithin, leaf_of, no_call, origins_of, signature_of}
use Rattle.run_decode.specs.Flat.Spans.{IsSpanIn, spanned}
use Rattle.run_decode.proofs.OnFlat.Growth.{longer_none}
use Rattle.run_decode.specs.Body.Bodies.{AreNarrow, Decoded, look_of}
use Rattle.run_acts.specs.Program.Loaded.{IsBody, IsReady, Keeps, Loaded}
use Rattle.run_decode.specs.Signatures.Numbers.{IsNumbered}
use Rattle.run_names.specs.Shapes.Shapes.{shape_in}
use Rattle.typed_runs.specs.Actions.{AreOrigins, IsOrigin, IsTypedAction, Typing}
use Rattle.typed_runs.specs.Kinds.{IsOf, kinds_of, kinds_of_all}
use Rattle.typed_runs.specs.States.{AreTypedFrames, IsTypedFrame}
use Rattle.typed_runs.proofs.Leaves.{read_all_typed, same_lengths}
use Rattle.run_acts.specs.Classes.May.{MayAct}
use Rattle.run_acts.proofs.OnClasses.Placed.{at_within, equally_long, had, places_there}
use Rattle.run_acts.proofs.OnClasses.Wide.{origins_there}
use Rattle.run_acts.specs.Made.{AreReady, FitBelow, IsFunctionReady, MayCall, shapes_of, StaysReady}
use Rattle.run_acts.specs.declared.next.Next.{Next}
use Rattle.run_acts.specs.Said.{next_of}
use Rattle.run_acts.specs.Acting.{ActsFor, CameTo, ComesTo, is_outer, IsOuter, is_outer_here, look_in, MayActBy, MayActHere, MayActIn, table_in, typing_in, WantsHere}

-- ---- the newest frame

module _ (t : Typing) (look : ℕ → ℕ → ℕ → actions.Action) (table : ℕ → Callee) (count : ℕ) where
  newest_typed : (fs : List Frame) → IsRunning fs → AreTypedFrames t look table count fs → IsTypedFrame t look table count (newest fs)
  newest_typed [] running h = absurd running
  newest_typed (f ∷ fs) running h = h.0

newest_ready : (p : Loaded) (widest : ℕ) (fs : List Frame) → IsRunning fs → All (λ (f : Frame). IsFunctionReady p widest f.function) fs → IsFunctionReady p widest (newest fs).function
newest_ready p widest [] running h = absurd running
newest_ready p widest (f ∷ fs) running h = h 0 f (omega arith)

-- its body is there
pub newest_body : (p : Loaded) (s : UnderWay) → IsRunning s.frames → AreReady p s → (function : ℕ) → function ≡ (newest s.frames).function → (b : Decoded) × IsReady p function b
newest_body p s running ready function function_is =
    let there = newest_ready p s.widest s.frames running ready in
    (there.body, subst (λ (n : ℕ). IsReady p n there.body) (sym function_is) there.ready)

-- no edge sets more leaves than more
pub narrow_more : (p : Pools) (least most : ℕ) → least ≤ most → AreNarrow p least → AreNarrow p most
narrow_more p least most le h = record {
  edges = λ k d lt. let le' = h.edges k d lt in omega (arith, le', le);
  cases = λ k d lt. let le' = h.cases k d lt in omega (arith, le', le);
}

-- one function has one body
one_body : (p : Loaded) (function : ℕ) (b c : Decoded) → IsReady p function b → IsReady p function c → b ≡ c
one_body p function b c one two = same_Some b c (same_Some (Some b) (Some c) (sym one ∙ two))

module _ (p : Loaded) (s : UnderWay) (m : Blocks) (here : MayActHere p s m) where
  body_there : IsFunctionReady p s.widest (newest s.frames).function
  body_there = newest_ready p s.widest s.frames here.running here.ready

  pub frame : IsTypedFrame (typing_in p.lists) (look_in p.lists) (table_in p.lists) (length m.list) (newest s.frames)
  frame = newest_typed (typing_in p.lists) (look_in p.lists) (table_in p.lists) (length m.list) s.frames here.running here.frames

  module _ (function : ℕ) (function_is : function ≡ (newest s.frames).function) where
    -- its body is there
    pub some_body : (b : Decoded) × IsReady p function b
    some_body = newest_body p s here.running here.ready function function_is

    module _ (b : Decoded) (ready : IsReady p function b) (is_body : IsBody p function b) (block position : ℕ) (block_is : block ≡ (newest s.frames).block) (position_is : position ≡ (newest s.frames).position) where
      looked : look_of b block position ≡ look_in p.lists (newest s.frames).function (newest s.frames).block (newest s.frames).position
      looked = is_body.look block position ∙ (λ i. look_in p.lists (function_is i) (block_is i) (position_is i))

      -- an instruction stands there
      pub stands : is_stuck (look_of b block position) ≡ false
      stands = ap is_stuck looked ∙ frame.place

      -- and may be carried out
      pub may_act_in : (action : Action) → action_of b.pools b.lists action ≡ look_of b block position → IsWithin b.pools action → position + 1 < 2 ^ 32 → MayActIn p b action s m
      may_act_in action means within fits =
          let ready_here = subst (λ (n : ℕ). IsReady p n b) function_is ready in
          record {
            here = here;
            ready = ready_here;
            is_body = subst (λ (n : ℕ). IsBody p n b) function_is is_body;
            narrow = subst (λ (x : Decoded). x.widest ≤ s.widest) (one_body p (newest s.frames).function body_there.body b body_there.ready ready_here) body_there.narrow;
            means = ap (λ (a : Lists). action_of b.pools a action) (sym is_body.lists) ∙ means ∙ looked;
            within = within;
            room = subst (λ (n : ℕ). n + 1 < 2 ^ 32) position_is fits;
          }

-- the same by the body
module _ (p : Loaded) (b : Decoded) (s : UnderWay) (m : Blocks) (by : MayActBy p b s m) (block position : ℕ) (block_is : block ≡ (newest s.frames).block) (position_is : position ≡ (newest s.frames).position) where
  pub stands_by : is_stuck (look_of b block position) ≡ false
  stands_by = stands p s m by.here (newest s.frames).function refl b by.ready by.is_body block position block_is position_is

  pub may_act_by : (action : Action) → action_of b.pools b.lists action ≡ look_of b block position → IsWithin b.pools action → position + 1 < 2 ^ 32 → MayActIn p b action s m
  may_act_by = may_act_in p s m by.here (newest s.frames).function refl b by.ready by.is_body block position block_is position_is

-- that is what is asked of the body that was found
pub by_found : (p : Loaded) (s : UnderWay) (m : Blocks) → MayActHere p s m → (function : ℕ) → function ≡ (newest s.frames).function → (b : Decoded) → IsReady p function b → IsBody p function b → MayActBy p b s m
by_found p s m here function function_is b ready is_body =
    record { here = here; ready = subst (λ (n : ℕ). IsReady p n b) function_is ready; is_body = subst (λ (n : ℕ). IsBody p n b) function_is is_body }

-- ---- the definition at a frame

-- the instruction that is due is that of the newest frame
pub instruction_is : (look : ℕ → ℕ → ℕ → actions.Action) (table : ℕ → Callee) (fs : List Frame) (due : List Due) (m : Blocks) → IsRunning fs
    → instruction look table fs due m ≡ acted table (look (newest fs).function (newest fs).block (newest fs).position) fs due m
instruction_is look table [] due m running = absurd running
instruction_is look table (f ∷ fs) due m running = refl

pub wants_is : (look : ℕ → ℕ → ℕ → actions.Action) (fs : List Frame) → IsRunning fs → may_want_memory look fs ≡ wants_memory (look (newest fs).function (newest fs).block (newest fs).position)
wants_is look [] running = absurd running
wants_is look (f ∷ fs) running = refl

-- ---- what each class asks for

module _ (p : Loaded) (b : Decoded) (action : Action) (s : UnderWay) (m : Blocks) (may : MayActIn p b action s m) where
  abbrev pub meant_at : actions.Action → Type 0
  meant_at meant = IsTypedAction (typing_in p.lists) (look_in p.lists) (newest s.frames).function (newest s.frames).block (newest s.frames).position meant

  pub typed : meant_at (action_of b.pools p.lists action)
  typed = subst meant_at (sym may.means) (may.here.typed.actions (newest s.frames).function (newest s.frames).block (newest s.frames).position (frame p s m may.here).place)

  -- an instruction that stays in its function
  abbrev pub may_act : MayAct (length m.list) b.pools action s
  may_act = record {
    lists = p.lists;
    typing = typing_in p.lists;
    look = look_in p.lists;
    running = may.here.running;
    leaves = (frame p s m may.here).leaves;
    typed = typed;
    fixed = may.here.fixed;
    within = may.within;
    narrow = narrow_more b.pools b.widest s.widest may.narrow may.is_body.narrow;
    room = may.room;
  }

-- ---- a call

-- the frame that stands behind the call
moved_function : (fs : List Frame) → IsRunning fs → (newest (on_newest moved_on fs)).function ≡ (newest fs).function
moved_function [] h = absurd h
moved_function (f ∷ fs) h = refl

moved_leaves : (fs : List Frame) → IsRunning fs → (newest (on_newest moved_on fs)).leaves ≡ (newest fs).leaves
moved_leaves [] h = absurd h
moved_leaves (f ∷ fs) h = refl

moved_runs : (fs : List Frame) → IsRunning fs → IsRunning (on_newest moved_on fs)
moved_runs [] h = h
moved_runs (f ∷ fs) h = h

moved_ready : (p : Loaded) (widest : ℕ) (fs : List Frame) → All (λ (f : Frame). IsFunctionReady p widest f.function) fs → All (λ (f : Frame). IsFunctionReady p widest f.function) (on_newest moved_on fs)
moved_ready p widest [] h = h
moved_ready p widest (f ∷ fs) h = All-cons (λ (g : Frame). IsFunctionReady p widest g.function) (moved_on f) fs (h 0 f (omega arith)) (All-tail (λ (g : Frame). IsFunctionReady p widest g.function) f fs h)

moved_core : (fs : List Frame) (due : List Due) (m : Blocks) → IsRunning fs → on_top (moved_on (newest fs)) (core_of (older fs) due m) ≡ core_of (on_newest moved_on fs) due m
moved_core [] due m h = absurd h
moved_core (f ∷ fs) due m h = refl

operand_there : (p : Loaded) (b : Decoded) (to : ℕ) (callee : LeafAt) (place : ℕ) (s : UnderWay) (m : Blocks) → MayActIn p b (Call to callee place) s m → (o : Origin) → origin_of o ≡ leaf_of b.pools callee → IsThere s o
operand_there p b to callee place s m may o is =
    (had (length m.list) b.pools (Call to callee place) s (may_act p b (Call to callee place) s m may) leaf.Ptr o (leaf_of b.pools callee) is (typed p b (Call to callee place) s m may).0).there

module _ (p : Loaded) (b : Decoded) (to : ℕ) (callee : LeafAt) (place : ℕ) (s : UnderWay) (m : Blocks) (may : MayActIn p b (Call to callee place) s m) (parts : CallParts) (there : slice_get b.pools.calls place ≡ Some parts) where
  call_meant : call_of b.pools p.lists to (leaf_of b.pools callee) parts ≡ action_of b.pools p.lists (Call to callee place)
  call_meant = ap (call_of b.pools p.lists to (leaf_of b.pools callee)) (sym (get_or_from_slice_get b.pools.calls place parts no_call there))

  call_typed : IsTypedAction (typing_in p.lists) (look_in p.lists) (newest s.frames).function (newest s.frames).block (newest s.frames).position (call_of b.pools p.lists to (leaf_of b.pools callee) parts)
  call_typed =
      subst (IsTypedAction (typing_in p.lists) (look_in p.lists) (newest s.frames).function (newest s.frames).block (newest s.frames).position) (sym call_meant) (typed p b (Call to callee place) s m may)

  -- the operands are there
  leaves_there : All (IsThere s) (spanned b.pools.origins parts.arguments)
  leaves_there =
      origins_there (length m.list) b.pools (Call to callee place) s (may_act p b (Call to callee place) s m may) (kinds_of_all (shapes_of b.pools p.lists parts)) (spanned b.pools.origins parts.arguments) call_typed.1

  may_be_called : (arguments : List Scalar) (after : UnderWay) → arguments ≡ read_all (newest s.frames) (map origin_of (spanned b.pools.origins parts.arguments)) → after ≡ changed moved_on s → MayCall p after parts to arguments (length m.list)
  may_be_called arguments after all is =
      let numbered = may.is_body.numbered in
      let running = may.here.running in
      let IsNumberedHere : CallParts → Type 0 = IsNumbered p.met p.lists b.pools in
      let function_same : (newest after.frames).function ≡ (newest s.frames).function = ap (λ (u : UnderWay). (newest u.frames).function) is ∙ moved_function s.frames running in
      let leaves_same : (newest after.frames).leaves ≡ (newest s.frames).leaves = ap (λ (u : UnderWay). (newest u.frames).leaves) is ∙ moved_leaves s.frames running in
      let kinds = kinds_of (shape_in p.lists.table parts.returns) in
      let places : HasPlaces s to (length kinds) = places_there (length m.list) b.pools (Call to callee place) s (may_act p b (Call to callee place) s m may) to kinds (length kinds) refl call_typed.3 in
      record {
        running = subst (λ (u : UnderWay). IsRunning u.frames) (sym is) (moved_runs s.frames running);
        body = b;
        ready = subst (λ (n : ℕ). IsReady p n b) (sym function_same) may.ready;
        numbered = subst IsNumberedHere (get_or_from_slice_get b.pools.calls place parts no_call there) (numbered place no_call (slice_get_within b.pools.calls place parts there));
        fit = call_typed.2;
        leaves =
            subst (AllZip (IsOf (length m.list)) (kinds_of_all (shapes_of b.pools p.lists parts))) (sym all)
            (read_all_typed (typing_in p.lists) (look_in p.lists) (length m.list) may.here.fixed (newest s.frames) (frame p s m may.here).leaves (kinds_of_all (shapes_of b.pools p.lists parts)) (origins_of b.pools parts.arguments) call_typed.1);
        place = λ some. subst (λ (vs : List Scalar). to + length kinds ≤ length vs) (sym leaves_same) (places some);
      }

  -- what the call comes to is what its action comes to
  comes_to_call : (address : Scalar) (o : Origin) (arguments : List Scalar) (after : UnderWay) (due : List Due) → origin_of o ≡ leaf_of b.pools callee → address ≡ read (newest s.frames) (origin_of o)
      → arguments ≡ read_all (newest s.frames) (map origin_of (spanned b.pools.origins parts.arguments)) → after ≡ changed moved_on s
      → acted (table_in p.lists) (action_of b.pools p.lists (Call to callee place)) s.frames due m
      ≡ called_at (table_in p.lists) address (signature_of b.pools p.lists parts) (shapes_of b.pools p.lists parts) arguments to (core_of after.frames due m)
  comes_to_call address o arguments after due one is_read all is =
      let f = newest s.frames in
      let callee_read : read f (leaf_of b.pools callee) ≡ address = sym (is_read ∙ ap (read f) one) in
      let behind : on_top (moved_on f) (core_of (older s.frames) due m) ≡ core_of after.frames due m = moved_core s.frames due m may.here.running ∙ ap (λ (u : UnderWay). core_of u.frames due m) (sym is) in
      ap (λ (x : actions.Action). acted (table_in p.lists) x s.frames due m) (sym call_meant)
      ∙ (λ i. called_at (table_in p.lists) (callee_read i) (signature_of b.pools p.lists parts) (shapes_of b.pools p.lists parts) (sym all i) to (behind i))

-- what is asked of a call, and said of it, by the pools of the body as they are at hand
pub record IsCallHere (p : Loaded) (b : Decoded) (q : Pools) (to : ℕ) (callee : LeafAt) (place : ℕ) (s : UnderWay) (m : Blocks) : Type 0 where
  pub place_in : place < length q.calls
  pub leaf_in : IsLeafIn q callee
  pub span_in : (parts : CallParts) → slice_get q.calls place ≡ Some parts → IsSpanIn q.origins parts.arguments
  pub callee_there : (o : Origin) → origin_of o ≡ leaf_of q callee → IsThere s o
  pub arguments_there : (parts : CallParts) → slice_get q.calls place ≡ Some parts → All (IsThere s) (spanned q.origins parts.arguments)
  pub may_call : (parts : CallParts) → slice_get q.calls place ≡ Some parts → (arguments : List Scalar) (after : UnderWay) → arguments ≡ read_all (newest s.frames) (map origin_of (spanned q.origins parts.arguments)) → after ≡ changed moved_on s
      → MayCall p after parts to arguments (length m.list)
  pub call_is : (parts : CallParts) → slice_get q.calls place ≡ Some parts → (address : Scalar) (o : Origin) (arguments : List Scalar) (after : UnderWay) (due : List Due) → origin_of o ≡ leaf_of q callee → address ≡ read (newest s.frames) (origin_of o)
      → arguments ≡ read_all (newest s.frames) (map origin_of (spanned q.origins parts.arguments)) → after ≡ changed moved_on s
      → acted (table_in p.lists) (action_of b.pools p.lists (Call to callee place)) s.frames due m
      ≡ called_at (table_in p.lists) address (signature_of b.pools p.lists parts) (shapes_of b.pools p.lists parts) arguments to (core_of after.frames due m)

pub call_here : (p : Loaded) (b : Decoded) (q : Pools) (to : ℕ) (callee : LeafAt) (place : ℕ) (s : UnderWay) (m : Blocks) → MayActIn p b (Call to callee place) s m → q ≡ b.pools → IsCallHere p b q to callee place s m
call_here p b q to callee place s m may is =
    subst (λ (x : Pools). IsCallHere p b x to callee place s m) (sym is)
    (record {
      place_in = slice_get_within b.pools.calls place may.within.1.call may.within.1.there;
      leaf_in = may.within.0;
      span_in = λ parts there. subst (λ (c : CallParts). IsSpanIn b.pools.origins c.arguments) (same_Some may.within.1.call parts (sym may.within.1.there ∙ there)) may.within.1.arguments;
      callee_there = λ o one. operand_there p b to callee place s m may o one;
      arguments_there = λ parts there. leaves_there p b to callee place s m may parts there;
      may_call = λ parts there arguments after all moved. may_be_called p b to callee place s m may parts there arguments after all moved;
      call_is = λ parts there address o arguments after due one is_read all moved. comes_to_call p b to callee place s m may parts there address o arguments after due one is_read all moved;
    })

-- the pools of the newest function's body
pub pools_of : (p : Loaded) (b d : Decoded) (action : Action) (s : UnderWay) (m : Blocks) (function : ℕ) (q : Pools) → MayActIn p b action s m → function ≡ (newest s.frames).function → IsReady p function d → q ≡ d.pools → q ≡ b.pools
pools_of p b d action s m function q may function_is ready is =
    is ∙ ap (λ (x : Decoded). x.pools) (one_body p function d b ready (subst (λ (n : ℕ). IsReady p n b) (sym function_is) may.ready))

-- the body of the function that stands behind the call
pub ready_behind : (p : Loaded) (b : Decoded) (action : Action) (s after : UnderWay) (m : Blocks) → MayActIn p b action s m → after ≡ changed moved_on s → IsReady p (newest after.frames).function b
ready_behind p b action s after m may is =
    subst (λ (n : ℕ). IsReady p n b) (sym (ap (λ (u : UnderWay). (newest u.frames).function) is ∙ moved_function s.frames may.here.running)) may.ready

pub still_ready : (p q : Loaded) (s after new : UnderWay) → after ≡ changed moved_on s → IsRunning s.frames → StaysReady p after q new → StaysReady p s q new
still_ready p q s after new is running stays =
    λ ready. stays (subst (AreReady p) (sym is) (moved_ready p s.widest s.frames ready))

-- ---- a return

module _ (t : Typing) (look : ℕ → ℕ → ℕ → actions.Action) (table : ℕ → Callee) (count : ℕ) where
  fit_below : (fs : List Frame) (n : ℕ) → IsRunning fs → AreTypedFrames t look table count fs → length (t.gives (newest fs).function) ≡ n → FitBelow fs n
  fit_below [] n running h long = absurd running
  fit_below (f ∷ []) n running h long = tt
  fit_below (f ∷ g ∷ gs) n running h long = λ some.
      let within = at_within (t.kinds g.function) f.to (t.gives f.function) h.1 (omega (arith, long, some)) in
      let same = same_lengths count (t.kinds g.function) g.leaves h.2.0.leaves in
      omega (arith, within, same, long)

module _ (p : Loaded) (b : Decoded) (value : Span) (s : UnderWay) (m : Blocks) (may : MayActIn p b (Return value) s m) (leaves : List Origin) (here : leaves ≡ spanned b.pools.origins value) where
  given_typed : AreOrigins (typing_in p.lists) (look_in p.lists) (newest s.frames).function ((typing_in p.lists).gives (newest s.frames).function) (map origin_of leaves)
  given_typed =
      subst (λ (xs : List Origin). AreOrigins (typing_in p.lists) (look_in p.lists) (newest s.frames).function ((typing_in p.lists).gives (newest s.frames).function) (map origin_of xs)) (sym here)
      (typed p b (Return value) s m may)

  pub given_there : All (IsThere s) leaves
  given_there = origins_there (length m.list) b.pools (Return value) s (may_act p b (Return value) s m may) ((typing_in p.lists).gives (newest s.frames).function) leaves given_typed

  pub allocas_known : All (IsKnown m.list) (newest s.frames).allocas
  allocas_known = (frame p s m may.here).allocas

  pub given_fit : FitBelow s.frames (length leaves)
  given_fit =
      let kinds = (typing_in p.lists).gives (newest s.frames).function in
      let long = equally_long (IsOrigin (typing_in p.lists) (look_in p.lists) (newest s.frames).function) kinds (map origin_of leaves) given_typed ∙ length-map leaves origin_of in
      fit_below (typing_in p.lists) (look_in p.lists) (table_in p.lists) (length m.list) s.frames (length leaves) may.here.running may.here.frames long

  pub return_is : (due : List Due) → acted (table_in p.lists) (action_of b.pools p.lists (Return value)) s.frames due m ≡ returned (map (operands.leaf_of s) leaves) (newest s.frames) (core_of (older s.frames) due m)
  return_is due =
      ap (λ (xs : List Origin). returned (read_all (newest s.frames) (map origin_of xs)) (newest s.frames) (core_of (older s.frames) due m)) (sym here)
      ∙ ap (λ (vs : List Scalar). returned vs (newest s.frames) (core_of (older s.frames) due m)) (map-map (read (newest s.frames)) origin_of leaves)

  pub return_wants : is_wide leaves ≡ true → wants_memory (action_of b.pools p.lists (Return value)) ≡ true
  return_wants wide = ap (λ (n : ℕ). nat_lt 1 n) (ap (λ (xs : List Origin). length (map origin_of xs)) (sym here) ∙ length-map leaves origin_of) ∙ wide

-- ---- what was said of an action is said of the instruction

module _ (p : Loaded) (b : Decoded) (action : Action) (s : UnderWay) (m : Blocks) (may : MayActIn p b action s m) where
  pub acts_for : (due : List Due) (next : Next) (new : UnderWay) (n : Blocks) (written : List ℕ) → CameTo p (action_of b.pools p.lists action) due next s new m n written → ActsFor p due next s new m n written
  acts_for due next new n written came =
      instruction_is (look_in p.lists) (table_in p.lists) s.frames due m may.here.running ∙ ap (λ (x : actions.Action). acted (table_in p.lists) x s.frames due m) (sym may.means) ∙ came

  pub comes_for : (due : List Due) (next : Next) (new : UnderWay) (n : Blocks) (written : List ℕ) → written ≡ [] → ComesTo (action_of b.pools p.lists action) next s new m n → ActsFor p due next s new m n written
  comes_for due next new n written none comes =
      acts_for due next new n written (comes (table_in p.lists) due ∙ ap (next_of next (core_of new.frames due n)) (sym none))

  pub wants_for : wants_memory (action_of b.pools p.lists action) ≡ true → WantsHere p s
  wants_for wants = wants_is (look_in p.lists) s.frames may.here.running ∙ ap wants_memory (sym may.means) ∙ wants

-- no run stands at a phi
pub never_passed : (count : ℕ) (p : Pools) (action : Action) (s : UnderWay) → MayAct count p action s → action ≡ Passed → ⊥
never_passed count p action s may is = (subst (λ (x : Action). MayAct count p x s) is may).typed

-- an action that calls or returns is due where one is
pub outer_here : (p : Loaded) (b : Decoded) (action : Action) (s : UnderWay) (m : Blocks) → MayActIn p b action s m → is_outer (action_of b.pools p.lists action) ≡ true → IsOuter p s
outer_here p b action s m may outer = ap is_outer (sym may.means) ∙ outer

-- by what was matched
pub outer_matched : (p : Pools) (a : Lists) (action : Action) → ((to : ℕ) × (callee : LeafAt) × (call : ℕ) × (action ≡ Call to callee call)) ⊎ ((value : Span) × (action ≡ Return value)) → is_outer (action_of p a action) ≡ true
outer_matched p a action (inl h) = ap (λ (x : Action). is_outer (action_of p a x)) h.3
outer_matched p a action (inr h) = ap (λ (x : Action). is_outer (action_of p a x)) h.1

-- and no other is
pub none_outer : (p : Loaded) (b : Decoded) (action : Action) (s : UnderWay) (m : Blocks) → MayActIn p b action s m → IsOuter p s → ((to : ℕ) (callee : LeafAt) (call : ℕ) → action ≡ Call to callee call → ⊥) → ((value : Span) → action ≡ Return value → ⊥) → ⊥
none_outer p b action s m may outer calls returns = go action (ap is_outer may.means ∙ outer) calls returns
  where
    go : (x : Action) → is_outer (action_of b.pools p.lists x) ≡ true → ((to : ℕ) (callee : LeafAt) (call : ℕ) → x ≡ Call to callee call → ⊥) → ((value : Span) → x ≡ Return value → ⊥) → ⊥
    go (Call to callee call) e calls returns = calls to callee call refl
    go (Return value) e calls returns = returns value refl
    go (flat.Compute to opcode flags width left right) e calls returns = false≢true e
    go (flat.Compare to predicate samesign width left right) e calls returns = false≢true e
    go (flat.Convert to opcode flags from_width to_width value) e calls returns = false≢true e
    go (flat.Select to condition arms) e calls returns = false≢true e
    go (flat.Freeze to parts) e calls returns = false≢true e
    go (flat.Gather to value) e calls returns = false≢true e
    go (flat.Load to align address slots) e calls returns = false≢true e
    go (flat.Store align address slots value) e calls returns = false≢true e
    go (flat.Allocate to align size count) e calls returns = false≢true e
    go (flat.Displace to inbounds base terms sum) e calls returns = false≢true e
    go (flat.Jump edge) e calls returns = false≢true e
    go (flat.Branch condition then_edge else_edge) e calls returns = false≢true e
    go (flat.Switch value otherwise cases) e calls returns = false≢true e
    go flat.Unreachable e calls returns = false≢true e
    go Passed e calls returns = false≢true e

pub inner_here : (p : Loaded) (b : Decoded) (action : Action) (s : UnderWay) (m : Blocks) → MayActIn p b action s m → ((to : ℕ) (callee : LeafAt) (call : ℕ) → action ≡ Call to callee call → ⊥) → ((value : Span) → action ≡ Return value → ⊥) → is_outer_here p s ≡ false
inner_here p b action s m may calls returns = other (is_outer_here p s) (λ outer. none_outer p b action s m may outer calls returns)
  where
    other : (test : Bool) → (test ≡ true → ⊥) → test ≡ false
    other true h = absurd (h refl)
    other false h = refl

-- ---- a program that is as it was

pub keeps_itself : (p : Loaded) → Keeps p p
keeps_itself p = record { lists = refl; met = record { lists = refl; kept = longer_none p.met.types }; bodies = λ function b h. h }

-- ---- what follows for an answer

pub if_ok : {T E : Type 0} (r : Result T E) (P Q : T → Type 0) → ((x : T) → P x → Q x) → IfOk r P → IfOk r Q
if_ok (Ok x) P Q f h = f x h
if_ok (Err e) P Q f h = tt

-- ---- what is at hand

-- items of a span, by pools that are those
pub spanned_by : (q r : Pools) (span : Span) (leaves : List Origin) → q ≡ r → leaves ≡ spanned q.origins span → leaves ≡ spanned r.origins span
spanned_by q r span leaves same here = here ∙ ap (λ (x : Pools). spanned x.origins span) same

-- leaves that were read into the front of the room
pub arguments_read : (s : UnderWay) (listed meant : List Origin) (items seen leaves : List Scalar) → listed ≡ meant → take (length listed) items ≡ map (operands.leaf_of s) listed → seen ≡ items → leaves ≡ take (length listed) seen
    → leaves ≡ read_all (newest s.frames) (map origin_of meant)
arguments_read s listed meant items seen leaves here front same first =
    first ∙ ap (take (length listed)) same ∙ front ∙ sym (map-map (read (newest s.frames)) origin_of listed) ∙ ap (λ (xs : List Origin). read_all (newest s.frames) (map origin_of xs)) here

pub ready_returned : {T E : Type 0} (r : Result T E) (p : Loaded) (old new : UnderWay) → OnOk r ((q : Loaded) → StaysReady q old q new) → OnOk r (StaysReady p old p new)
ready_returned (Ok v) p old new h = h p
ready_returned (Err e) p old new h = tt

-- nothing was written
pub written_none : (p : Loaded) (action : actions.Action) (due : List Due) (next : Next) (old new : UnderWay) (m n : Blocks) (written : List ℕ) → written ≡ [] → CameTo p action due next old new m n [] → CameTo p action due next old new m n written
written_none p action due next old new m n written none came = came ∙ ap (next_of next (core_of new.frames due n)) (sym none)
