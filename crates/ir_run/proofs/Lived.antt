-- What holds of a run that is not over holds still behind what is due, an instruction, and a byte that is taken.
use Rattle.std.proofs.Common.{◌≡◌, ℕ, ◌+◌, ◌*◌, ◌^◌, ◌<◌, ◌≤◌, Bool, List, [], ◌∷◌, length, Option, Result, Ok, Err, refl, sym, ap, ◌∙◌, subst, inl, inr, arith, lit<}
use Rattle.std.specs.Prelude.{⊤, IfOk, OnOk}
use Rattle.std.specs.declared.alloc.AllocError.{AllocError}
use Rattle.std.proofs.lemmas.Option.{slice_get_within}
use Rattle.std.proofs.lemmas.List.Elements.{All-nil, All-cons, All-head, All-tail}
use Rattle.ir_eval.specs.declared.value.Scalar.TheVariants as scalar
use Rattle.ir_memory.specs.declared.leaf.Leaf.TheVariants as leaf
use Rattle.ir_memory.specs.Memory.{Blocks, reach}
use Rattle.module_arena.specs.View.{module_of}
use Rattle.run_names.specs.Told.{alone}
use Rattle.run_rules.specs.Action.{Action}
use Rattle.run_rules.specs.Calls.{Callee, handed}
use Rattle.run_rules.specs.Clauses.{Outside}
use Rattle.run_rules.specs.declared.fault.RunFault.{RunFault}
use Rattle.run_rules.specs.Frame.{with_value}
use Rattle.run_rules.specs.State.{Frame, Due, Core, State}
use Rattle.run_rules.specs.Step.{Step, GoesOn, IsOver, entered, got, instruction}
use Rattle.run_rules.specs.Places.Places.{HasWork}
use Rattle.run_rules.proofs.OnPlaces.Connected.{HasFrame}
use Rattle.run_acts.specs.Program.Loaded.{Keeps, Loaded}
use Rattle.run_actions.specs.Stack.UnderWay.{UnderWay, IsRunning, changed, newest, on_newest}
use Rattle.run_rules.specs.Traffic.Input.{Waiting}
use Rattle.typed_runs.specs.Look.Typings.{IsTypedLook}
use Rattle.typed_runs.specs.Actions.{Typing}
use Rattle.typed_runs.specs.States.{AreTaken, AreTypedFrames, IsTypedCore, IsTypedProgram, IsTypedState}
use Rattle.typed_runs.proofs.Access.{AreBytes}
use Rattle.typed_runs.proofs.Acts.{act_typed}
use Rattle.typed_runs.proofs.Calls.{parts_of, whole, parts_handed, IsTypedNext}
use Rattle.typed_runs.proofs.Leaves.{same_lengths}
use Rattle.typed_runs.proofs.Steps.{entered_ready}
use Rattle.run_acts.specs.declared.next.Next.{Next}
use Rattle.run_acts.specs.declared.next.Next.TheVariants.{Goes, Gets, Stops}
use Rattle.run_acts.specs.Made.{AreReady, IsFunctionReady, StaysReady}
use Rattle.run_acts.specs.Said as said
use Rattle.run_acts.specs.Acting.{ActsFor, MayActHere, look_in, table_in, typing_in}
use Rattle.run_actions.specs.Passing.Traffic.{FlushesFirst, Gets as GetsByte, TakesByte, number_got}
use Rattle.ir_run.specs.Living.{Acts, HasFrames, IsEntered, IsLive, Living, StaysLive, TakesNumber, core_of_living}
use Rattle.ir_run.proofs.Gets.{gets_running}

-- ---- over variables

module _ (t : Typing) (look : ℕ → ℕ → ℕ → Action) (table : ℕ → Callee) (program : IsTypedProgram t look table) where
  instruction_typed : (fs : List Frame) (ds : List Due) (m : Blocks) → IsTypedCore t look table (record { frames = fs; due = ds; memory = m }) → IsRunning fs → IsTypedNext t look table m (instruction look table fs ds m)
  instruction_typed [] ds m h has = absurd has
  instruction_typed (f ∷ fs) ds m h has =
      act_typed t look table f (record { frames = fs; due = ds; memory = m }) h program.callees (look f.function f.block f.position)
      (program.actions f.function f.block f.position h.frames.0.place)

  still_work : (to n : ℕ) (fs : List Frame) (ds : List Due) → HasWork look table fs ds → HasWork look table (handed to (scalar.Int n ∷ []) fs) ds
  still_work to n [] ds u = u
  still_work to n (f ∷ fs) ds u = tt

  got_typed : (c : Core) (to n : ℕ) → n < 2 ^ 32 → IsTypedCore t look table c → AreTaken t look table to (leaf.Int 32 ∷ []) c.frames → IsTypedCore t look table (got to n c)
  got_typed c to n lt h at =
      whole t look table (got to n c) (parts_handed t look table c to (leaf.Int 32 ∷ []) (scalar.Int n ∷ []) (parts_of t look table c h) at (lt, tt)) (still_work to n c.frames c.due h.under_way)

  -- a typed state with a function under way
  abbrev IsReady : Step → Type 0
  IsReady (GoesOn s) = IsTypedState t look table s × HasFrame look table s.core.frames
  IsReady (IsOver end s) = ⊤

  entered_typed : (s : State) (c : Core) → IsTypedState t look table s → entered table s ≡ GoesOn (record s { core = c }) → IsTypedState t look table (record s { core = c }) × HasFrame look table c.frames
  entered_typed s c h e = subst IsReady e (entered_ready t look table program s h)

  -- the place of an i32 is one of the leaves
  place_there : (count to : ℕ) (fs : List Frame) → AreTypedFrames t look table count fs → IsRunning fs → AreTaken t look table to (leaf.Int 32 ∷ []) fs → to < length (newest fs).leaves
  place_there count to [] h has at = absurd has
  place_there count to (f ∷ fs) h has at =
      let long = same_lengths count (t.kinds f.function) f.leaves h.0.leaves in
      let lt : to < length (t.kinds f.function) = slice_get_within (t.kinds f.function) to (leaf.Int 32) at.0 in
      omega (arith, long, lt)

running : (look : ℕ → ℕ → ℕ → Action) (table : ℕ → Callee) (fs : List Frame) → HasFrame look table fs → IsRunning fs
running look table [] h = h
running look table (f ∷ fs) h = tt

-- ---- what is due

pub entered_live : (steps : ℕ) (old new : Living) → IsLive steps old → IsEntered old new → StaysReady old.program old.stack new.program new.stack → IsLive steps new × HasFrames new
entered_live steps old new h e ready = (
  record {
    typed = subst (λ a. IsTypedLook (alone (module_of a))) (sym e.lists) h.typed;
    core = subst (λ a. IsTypedCore (typing_in a) (look_in a) (table_in a) (core_of_living new)) (sym e.lists) is.0.core;
    next = is.0.next;
    ready = ready h.ready;
  },
  running (look_in old.program.lists) (table_in old.program.lists) new.stack.frames is.1,
)
  where
    at : State
    at = record { core = core_of_living old; input = []; output = []; steps = steps }

    none : AreBytes []
    none = All-nil (λ b. b < 256)

    is : IsTypedState (typing_in old.program.lists) (look_in old.program.lists) (table_in old.program.lists) (record at { core = core_of_living new })
        × HasFrame (look_in old.program.lists) (table_in old.program.lists) new.stack.frames
    is =
        entered_typed (typing_in old.program.lists) (look_in old.program.lists) (table_in old.program.lists) h.typed at (core_of_living new)
        (record { core = h.core; input = none; output = none; next = h.next }) (e.enters at refl)

-- ---- an instruction

acted_live : (steps : ℕ) (old new : Living) (next : Next) → IsLive steps old → Acts next old new → StaysReady old.program old.stack new.program new.stack
    → IsTypedNext (typing_in old.program.lists) (look_in old.program.lists) (table_in old.program.lists) old.memory (said.next_of next (core_of_living new) new.written) → StaysLive steps next new
acted_live steps old new Goes h a ready is =
    record {
      typed = subst (λ x. IsTypedLook (alone (module_of x))) (sym a.lists) h.typed;
      core = subst (λ x. IsTypedCore (typing_in x) (look_in x) (table_in x) (core_of_living new)) (sym a.lists) is.0;
      next = omega (arith, is.1.next, h.next);
      ready = ready h.ready;
    }
acted_live steps old new (Gets to) h a ready is = (
  record {
    typed = subst (λ x. IsTypedLook (alone (module_of x))) (sym a.lists) h.typed;
    core = subst (λ x. IsTypedCore (typing_in x) (look_in x) (table_in x) (core_of_living new)) (sym a.lists) is.0;
    next = omega (arith, is.1.next, h.next);
    ready = ready h.ready;
  },
  gets_running (look_in old.program.lists) (table_in old.program.lists) old.stack.frames old.due old.memory to (core_of_living new) a.comes,
  subst (λ x. AreTaken (typing_in x) (look_in x) (table_in x) to (leaf.Int 32 ∷ []) new.stack.frames) (sym a.lists) is.2,
)
acted_live steps old new (Stops stop) h a ready is = tt

pub act_live : (steps : ℕ) (old new : Living) (next : Next) → IsLive steps old → HasFrames old → Acts next old new → StaysReady old.program old.stack new.program new.stack → StaysLive steps next new
act_live steps old new next h has a ready =
    acted_live steps old new next h a ready
    (subst (IsTypedNext (typing_in old.program.lists) (look_in old.program.lists) (table_in old.program.lists) old.memory) a.comes
    (instruction_typed (typing_in old.program.lists) (look_in old.program.lists) (table_in old.program.lists) h.typed old.stack.frames old.due old.memory h.core has))

-- by the answer of what carries it out
acted_so : (old new : Living) (next : Next) (is_last : Bool) → said.IsLast old.due is_last → ((due : List Due) → said.IsLast due is_last → ActsFor old.program due next old.stack new.stack old.memory new.memory new.written)
    → new.program.lists ≡ old.program.lists → new.due ≡ old.due → Acts next old new
acted_so old new next is_last last h lists due =
    record { lists = lists; comes = h old.due last ∙ ap (λ (ds : List Due). said.next_of next (record { frames = new.stack.frames; due = ds; memory = new.memory }) new.written) (sym due) }

pub live_acted : (steps : ℕ) (old new : Living) (r : Result Next AllocError) (is_last : Bool) → IsLive steps old → HasFrames old → said.IsLast old.due is_last
    → IfOk r (λ next. (due : List Due) → said.IsLast due is_last → ActsFor old.program due next old.stack new.stack old.memory new.memory new.written)
    → Keeps old.program new.program → new.due ≡ old.due → OnOk r (StaysReady old.program old.stack new.program new.stack) → IfOk r (λ next. StaysLive steps next new)
live_acted steps old new (Err e) is_last h has last acts keeps due ready = tt
live_acted steps old new (Ok next) is_last h has last acts keeps due ready =
    act_live steps old new next h has (acted_so old new next is_last last acts keeps.lists due) ready

-- ---- a byte

-- the newest frame has the place
pub takes_byte : (steps to : ℕ) (l : Living) → IsLive steps l → HasFrames l → TakesNumber to l → TakesByte l.stack to
takes_byte steps to l h has at =
    place_there (typing_in l.program.lists) (look_in l.program.lists) (table_in l.program.lists) h.typed (length l.memory.list) to l.stack.frames h.core.frames has at

pub frames_got : (to n : ℕ) (fs : List Frame) → on_newest (λ f. with_value f to (scalar.Int n ∷ [])) fs ≡ handed to (scalar.Int n ∷ []) fs
frames_got to n [] = refl
frames_got to n (f ∷ fs) = refl

ready_got : (p : Loaded) (widest to n : ℕ) (fs : List Frame) → AreReady p (record { frames = fs; widest = widest }) → AreReady p (record { frames = on_newest (λ f. with_value f to (scalar.Int n ∷ [])) fs; widest = widest })
ready_got p widest to n [] h = h
ready_got p widest to n (f ∷ fs) h =
    All-cons (λ (x : Frame). IsFunctionReady p widest x.function) (with_value f to (scalar.Int n ∷ [])) fs
    (All-head (λ (x : Frame). IsFunctionReady p widest x.function) f fs h) (All-tail (λ (x : Frame). IsFunctionReady p widest x.function) f fs h)

-- the run with that number in the place
abbrev pub with_number : ℕ → ℕ → Living → Living
with_number to n l = record l { stack = changed (λ f. with_value f to (scalar.Int n ∷ [])) l.stack }

pub core_got : (to n : ℕ) (l : Living) → core_of_living (with_number to n l) ≡ got to n (core_of_living l)
core_got to n l = ap (λ fs. record { frames = fs; due = l.due; memory = l.memory }) (frames_got to n l.stack.frames)

pub got_live : (steps to n : ℕ) (l : Living) → n < 2 ^ 32 → IsLive steps l → TakesNumber to l → IsLive steps (with_number to n l)
got_live steps to n l lt h at =
    record {
      typed = h.typed;
      core = subst (λ c. IsTypedCore (typing_in l.program.lists) (look_in l.program.lists) (table_in l.program.lists) c) (sym (core_got to n l))
          (got_typed (typing_in l.program.lists) (look_in l.program.lists) (table_in l.program.lists) h.typed (core_of_living l) to n lt h.core at);
      next = h.next;
      ready = ready_got l.program l.stack.widest to n l.stack.frames h.ready;
    }

-- the same of a run that is seen as another
pub takes_seen : (to : ℕ) (l seen : Living) → l ≡ seen → ((steps : ℕ) × IsLive steps seen × HasFrames seen × TakesNumber to seen) → TakesByte l.stack to
takes_seen to l seen is h = subst (λ (x : Living). TakesByte x.stack to) (sym is) (takes_byte h.0 to seen h.1 h.2 h.3)

-- behind a byte that was taken all holds still
byte_live : (to : ℕ) (l : Living) (stack : UnderWay) (r : Result (Unit {0}) RunFault) (w v : Waiting) (held_old held_new : List ℕ) (before after : Outside) → GetsByte to r l.stack stack w v held_old held_new before after
    → OnOk r ((steps : ℕ) → IsLive steps l → TakesNumber to l → IsLive steps (record l { stack = stack }))
byte_live to l stack (Ok done) w v held_old held_new before after g = λ steps h at.
    subst (λ (s : UnderWay). IsLive steps (record l { stack = s })) (sym g.number) (got_live steps to (number_got g.byte) l g.few h at)
byte_live to l stack (Err fault) w v held_old held_new before after g = tt

pub byte_seen : (to : ℕ) (l seen : Living) (stack : UnderWay) (r : Result (Unit {0}) RunFault) (w v : Waiting) (held_old held_new : List ℕ) (before after : Outside) → l ≡ seen → GetsByte to r l.stack stack w v held_old held_new before after
    → OnOk r ((steps : ℕ) → IsLive steps seen → TakesNumber to seen → IsLive steps (record l { stack = stack }))
byte_seen to l seen stack r w v held_old held_new before after is g =
    subst (λ (x : Living). OnOk r ((steps : ℕ) → IsLive steps x → TakesNumber to x → IsLive steps (record l { stack = stack }))) is (byte_live to l stack r w v held_old held_new before after g)

none_short : length {A = ℕ} [] < 65536
none_short = lit< tt

-- no more bytes are held back then
pub still_short : (w : Waiting) (old new : List ℕ) (before now : Option (List ℕ)) → length old < 65536 → FlushesFirst w old new before now → length new < 65536
still_short w old new before now h (inl f) = subst (λ (bs : List ℕ). length bs < 65536) (sym f.2) none_short
still_short w old new before now h (inr f) = subst (λ (bs : List ℕ). length bs < 65536) (sym f.2) h

-- a block more has its address
pub near : (steps next : ℕ) → steps < 2 ^ 32 → next ≤ 2 ^ 59 + steps * reach → next ≤ 2 ^ 61
near steps next lt le = omega (arith, lt, le)

-- an instruction may be carried out
pub may_act_here : (l seen : Living) → l ≡ seen → HasFrames seen → ((steps : ℕ) × IsLive steps seen × (steps < 2 ^ 32)) → MayActHere l.program l.stack l.memory
may_act_here l seen is has h =
    subst (λ (x : Living). MayActHere x.program x.stack x.memory) (sym is)
    (record {
      running = has;
      typed = h.1.typed;
      frames = h.1.core.frames;
      ready = h.1.ready;
      fixed = h.1.core.fixed;
      memory = h.1.core.memory;
      next = near h.0 seen.memory.next h.2 h.1.next;
    })
