-- While no function is under way, what is due is called, one call after another.
use Rattle.std.proofs.Common.{◌≡◌, ℕ, Bool, true, false, List, [], ◌∷◌, length, Some, refl, sym, ap, ◌∙◌, subst, inl, inr, ◌⊎◌, append-nil}
use Rattle.std.specs.Prelude.{◌==◌}
use Rattle.std.proofs.lemmas.Bool.{eqb-true}
use Rattle.std.proofs.lemmas.List.{nil_from_length}
use Rattle.ir_memory.specs.Memory.{Blocks}
use Rattle.module_arena.specs.Lists.{Lists}
use Rattle.module_arena.specs.View.{module_of}
use Rattle.run_names.specs.Told.{alone}
use Rattle.run_actions.specs.Carried.{core_of}
use Rattle.run_rules.specs.Calls.{Callee}
use Rattle.run_rules.specs.Clauses.{told}
use Rattle.run_rules.specs.Due.{called_due}
use Rattle.run_rules.specs.declared.end.End.{End}
use Rattle.run_rules.specs.State.{Frame, Due, Core, State}
use Rattle.run_rules.specs.State as rules
use Rattle.run_rules.specs.Step.{Step, GoesOn, IsOver, called_while_idle, carried, entered, next_of, then_on}
use Rattle.run_actions.specs.Stack.UnderWay.{UnderWay, IsRunning}
use Rattle.typed_runs.specs.Look.Typings.{typing_of}
use Rattle.typed_runs.specs.States.{AreTypedDue}
use Rattle.run_acts.specs.declared.due.DueCall.{DueCall}
use Rattle.run_acts.specs.declared.due.DueCall.TheVariants.{Constructor, Main, MainWith}
use Rattle.run_acts.specs.declared.next.Next.{Next}
use Rattle.run_acts.specs.declared.next.Stop.{Stop}
use Rattle.run_acts.specs.Dues.{MayBeDue, due_of}
use Rattle.run_acts.specs.Made.{StaysReady}
use Rattle.run_acts.specs.Said.{end_of}
use Rattle.run_acts.specs.Said as said
use Rattle.run_rules.specs.Wants.{may_want_memory}
use Rattle.run_acts.specs.Acting.{look_in, table_in}
use Rattle.ir_run.specs.Living.{Acts, Comes, EndsThere, IsEntered, IsLive, Living, core_of_living, may_want_in}

-- ---- over variables

module _ (table : ℕ → Callee) where
  -- a function is under way
  not_idle : (ds : List Due) (fs : List Frame) (s : State) → IsRunning fs → called_while_idle table ds fs s ≡ GoesOn s
  not_idle [] fs s h = refl
  not_idle (d ∷ ds) [] s h = absurd h
  not_idle (d ∷ ds) (f ∷ fs) s h = refl

  -- nothing is due
  none_due : (ds : List Due) (fs : List Frame) (s : State) → ds ≡ [] → called_while_idle table ds fs s ≡ GoesOn s
  none_due [] fs s e = refl
  none_due (d ∷ ds) fs s e = cc

  -- none is under way, and something is due
  first_due : (ds others : List Due) (d : Due) (fs : List Frame) (m : Blocks) (s : State) → fs ≡ [] → ds ≡ d ∷ others
      → called_while_idle table ds fs (record s { core = record { frames = fs; due = ds; memory = m } })
      ≡ then_on (λ t. called_while_idle table others t.core.frames t) (carried (record s { core = record { frames = []; due = d ∷ others; memory = m } }) (called_due table d (core_of [] others m)))
  first_due ds others d fs m s e g = rw (e, g) refl

  -- its call goes on
  call_goes : (others : List Due) (d : Due) (m : Blocks) (c e : Core) (s : State) → called_due table d (core_of [] others m) ≡ rules.Goes c []
      → then_on (λ t. called_while_idle table others t.core.frames t) (carried (record s { core = e }) (called_due table d (core_of [] others m))) ≡ called_while_idle table others c.frames (record s { core = c })
  call_goes others d m c e s h =
      ap (λ n. then_on (λ t. called_while_idle table others t.core.frames t) (carried (record s { core = e }) n)) h
      ∙ ap (λ o. called_while_idle table others c.frames (record s { core = c; output = o })) (append-nil s.output)

  -- or ends the run
  call_stops : (others : List Due) (d : Due) (m : Blocks) (e : Core) (end : End) (s : State) → called_due table d (core_of [] others m) ≡ rules.Stops end
      → told (then_on (λ t. called_while_idle table others t.core.frames t) (carried (record s { core = e }) (called_due table d (core_of [] others m)))) ≡ Some (end, s.output, s.steps)
  call_stops others d m e end s h = ap (λ n. told (then_on (λ t. called_while_idle table others t.core.frames t) (carried (record s { core = e }) n))) h

  enters_from : (c : Core) (s : State) → s.core ≡ c → entered table s ≡ called_while_idle table c.due c.frames (record s { core = c })
  enters_from c s e = ap (λ (x : Core). called_while_idle table x.due x.frames (record s { core = x })) e

-- ---- on the way

-- some calls were made: nothing else changed
pub record Entering (old now : Living) : Type 0 where
  pub lists : now.program.lists ≡ old.program.lists
  pub memory : now.memory ≡ old.memory
  pub enters : (s : State) → s.core ≡ core_of_living old
      → entered (table_in old.program.lists) s ≡ called_while_idle (table_in old.program.lists) now.due now.stack.frames (record s { core = core_of_living now })
  pub due : AreTypedDue (typing_of (alone (module_of old.program.lists))) (look_in old.program.lists) (table_in old.program.lists) (length old.memory.list) now.due
  pub ready : StaysReady old.program old.stack now.program now.stack
  pub first : (now.stack ≡ old.stack) ⊎ (old.stack.frames ≡ [])

pub none_entered : (steps : ℕ) (old : Living) → IsLive steps old → Entering old old
none_entered steps old h =
    record {
      lists = refl;
      memory = refl;
      enters = λ s e. enters_from (table_in old.program.lists) (core_of_living old) s e;
      due = h.core.due;
      ready = λ r. r;
      first = inl refl;
    }

-- ---- whether a function is under way, by the test

pub no_frames : (fs : List Frame) (test : Bool) → test ≡ (length fs == 0) → test ≡ true → fs ≡ []
no_frames fs test e t = nil_from_length fs (eqb-true (length fs) 0 (sym e ∙ t))

some_running : (fs : List Frame) → (fs ≡ [] → ⊥) → IsRunning fs
some_running [] h = absurd (h refl)
some_running (f ∷ fs) h = tt

none_equal : (test : Bool) → test ≡ true → test ≡ false → ⊥
none_equal test e f = cc

pub some_frames : (fs : List Frame) (test : Bool) → test ≡ (length fs == 0) → test ≡ false → IsRunning fs
some_frames fs test e f = some_running fs (λ none. none_equal test (e ∙ ap (λ (xs : List Frame). length xs == 0) none) f)

-- no function was under way at first, if none is now
pub idle_from : (old now : Living) → Entering old now → now.stack.frames ≡ [] → old.stack.frames ≡ []
idle_from old now h none = go h.first
  where
    go : (now.stack ≡ old.stack) ⊎ (old.stack.frames ≡ []) → old.stack.frames ≡ []
    go (inl e) = ap (λ (s : UnderWay). s.frames) (sym e) ∙ none
    go (inr e) = e

-- ---- the next call

-- it may be made
may_be : (a : Lists) (count : ℕ) (call : DueCall) (others : List Due) → AreTypedDue (typing_of (alone (module_of a))) (look_in a) (table_in a) count (due_of call ∷ others) → MayBeDue (alone (module_of a)) call
may_be a count (Constructor address) others h = tt
may_be a count (Main address) [] h = h.1
may_be a count (Main address) (d ∷ ds) h = absurd h.0
may_be a count (MainWith address number array) [] h = h.1
may_be a count (MainWith address number array) (d ∷ ds) h = absurd h.0

others_due : (a : Lists) (count : ℕ) (d : Due) (others : List Due) → AreTypedDue (typing_of (alone (module_of a))) (look_in a) (table_in a) count (d ∷ others) → AreTypedDue (typing_of (alone (module_of a))) (look_in a) (table_in a) count others
others_due a count d [] h = tt
others_due a count d (e ∷ ds) h = h.1

pub may_call : (old now : Living) (call : DueCall) (others : List Due) → Entering old now → now.due ≡ due_of call ∷ others → MayBeDue (alone (module_of now.program.lists)) call
may_call old now call others h e =
    subst (λ a. MayBeDue (alone (module_of a)) call) (sym h.lists)
    (may_be old.program.lists (length old.memory.list) call others
    (subst (λ ds. AreTypedDue (typing_of (alone (module_of old.program.lists))) (look_in old.program.lists) (table_in old.program.lists) (length old.memory.list) ds) e h.due))

-- what is entered first, where a call is due
enters_first : (old now : Living) (call : DueCall) (others : List Due) → Entering old now → now.stack.frames ≡ [] → now.due ≡ due_of call ∷ others → (s : State) → s.core ≡ core_of_living old
    → entered (table_in old.program.lists) s
    ≡ then_on (λ t. called_while_idle (table_in old.program.lists) others t.core.frames t) (carried (record s { core = record { frames = []; due = due_of call ∷ others; memory = now.memory } }) (called_due (table_in old.program.lists) (due_of call) (core_of [] others now.memory)))
enters_first old now call others h none e s c = h.enters s c ∙ first_due (table_in old.program.lists) now.due others (due_of call) now.stack.frames now.memory s none e

-- the call goes on
pub more_entered : (old now new : Living) (call : DueCall) → Entering old now → now.stack.frames ≡ [] → now.due ≡ due_of call ∷ new.due → new.memory ≡ now.memory → new.program.lists ≡ now.program.lists
    → called_due (table_in now.program.lists) (due_of call) (core_of [] new.due now.memory) ≡ rules.Goes (core_of new.stack.frames new.due now.memory) [] → StaysReady now.program now.stack new.program new.stack
    → Entering old new
more_entered old now new call h none e m lists called ready =
    record {
      lists = lists ∙ h.lists;
      memory = m ∙ h.memory;
      enters = λ s c.
          enters_first old now call new.due h none e s c
          ∙ (call_goes (table_in old.program.lists) new.due (due_of call) now.memory (core_of new.stack.frames new.due now.memory) (record { frames = []; due = due_of call ∷ new.due; memory = now.memory }) s
          (subst (λ a. called_due (table_in a) (due_of call) (core_of [] new.due now.memory) ≡ rules.Goes (core_of new.stack.frames new.due now.memory) []) h.lists called)
          ∙ ap (λ b. called_while_idle (table_in old.program.lists) new.due new.stack.frames (record s { core = core_of new.stack.frames new.due b })) (sym m));
      due = others_due old.program.lists (length old.memory.list) (due_of call) new.due
          (subst (λ ds. AreTypedDue (typing_of (alone (module_of old.program.lists))) (look_in old.program.lists) (table_in old.program.lists) (length old.memory.list) ds) e h.due);
      ready = λ r. ready (h.ready r);
      first = inr (idle_from old now h none);
    }

-- it ends the run
pub ends_there : (old now new : Living) (call : DueCall) (stop : Stop) → Entering old now → now.stack.frames ≡ [] → now.due ≡ due_of call ∷ new.due → new.program.lists ≡ now.program.lists
    → called_due (table_in now.program.lists) (due_of call) (core_of [] new.due now.memory) ≡ rules.Stops (end_of stop) → EndsThere stop old new
ends_there old now new call stop h none e lists called =
    record {
      lists = lists ∙ h.lists;
      over = λ s c.
          ap told (enters_first old now call new.due h none e s c)
          ∙ call_stops (table_in old.program.lists) new.due (due_of call) now.memory (record { frames = []; due = due_of call ∷ new.due; memory = now.memory }) (end_of stop) s
          (subst (λ a. called_due (table_in a) (due_of call) (core_of [] new.due now.memory) ≡ rules.Stops (end_of stop)) h.lists called);
    }

-- ---- all is entered

pub all_entered : (old now : Living) → Entering old now → IsRunning now.stack.frames → IsEntered old now
all_entered old now h has =
    record { lists = h.lists; enters = λ s c. h.enters s c ∙ not_idle (table_in old.program.lists) now.due now.stack.frames (record s { core = core_of_living now }) has }

pub is_entered : (l : Living) → IsRunning l.stack.frames → IsEntered l l
is_entered l has =
    record {
      lists = refl;
      enters = λ s c. enters_from (table_in l.program.lists) (core_of_living l) s c ∙ not_idle (table_in l.program.lists) l.due l.stack.frames (record s { core = core_of_living l }) has;
    }

pub nothing_due : (old now : Living) → Entering old now → now.due ≡ [] → IsEntered old now
nothing_due old now h none =
    record { lists = h.lists; enters = λ s c. h.enters s c ∙ none_due (table_in old.program.lists) now.due now.stack.frames (record s { core = core_of_living now }) none }

-- ---- where a function was under way, nothing is entered

-- what an instruction sees of a state behind a step
abbrev core_after : Step → Core
core_after (GoesOn s) = s.core
core_after (IsOver end s) = s.core

same_core : (a b : State) → GoesOn a ≡ GoesOn b → a.core ≡ b.core
same_core a b e = ap core_after e

pub same_frames : (old new : Living) → IsEntered old new → IsRunning old.stack.frames → core_of_living new ≡ core_of_living old
same_frames old new h has =
    sym (same_core s (record s { core = core_of_living new }) (sym (not_idle (table_in old.program.lists) old.due old.stack.frames s has) ∙ h.enters s refl))
  where
    s : State
    s = record { core = core_of_living old; input = []; output = []; steps = 0 }

-- so an instruction that may want memory there may want it here
pub wants_before : (old mid : Living) → IsEntered old mid → may_want_in mid ≡ true → may_want_in old ≡ true
wants_before old mid e w = go old.stack.frames refl
  where
    go : (fs : List Frame) → old.stack.frames ≡ fs → may_want_in old ≡ true
    go [] is = ap (may_want_memory (look_in old.program.lists)) is
    go (f ∷ fs) is =
        ap (λ (c : Core). may_want_memory (look_in old.program.lists) c.frames) (sym (same_frames old mid e (subst IsRunning (sym is) tt)))
        ∙ (ap (λ (a : Lists). may_want_memory (look_in a) mid.stack.frames) (sym e.lists) ∙ w)

-- what is entered, and then an instruction
pub comes_from : (next : Next) (old mid new : Living) → IsEntered old mid → Acts next mid new → Comes next old new
comes_from next old mid new e a =
    record {
      lists = a.lists ∙ e.lists;
      there = core_of_living mid;
      enters = e.enters;
      comes = subst (λ (x : Lists). next_of (look_in x) (table_in x) (core_of_living mid) ≡ said.next_of next (core_of_living new) new.written) e.lists a.comes;
    }
