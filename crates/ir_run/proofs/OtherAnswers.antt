-- What was answered is no part of what a step or a run does, so clauses hold of machines with other answers just so.
use Rattle.std.proofs.Common.{◌≡◌, ℕ, ◌-◌, ◌^◌, ◌<◌, ◌≤◌, List, [], ◌++◌, Option, Some, None, Result, Ok, Err, refl, sym, ◌∙◌, subst, inl, inr, arith}
use Rattle.std.specs.Result.{IsErrAnd}
use Rattle.ir_base.specs.Outside.{Rose}
use Rattle.run_rules.specs.declared.fault.RunFault.TheVariants.{ReadFault, WriteFault, Memory}
use Rattle.run_rules.specs.Clauses.{Outside, Traffic, HasRead, Reads, Gathers, Stepped, Ended, CouldNotRead, CouldNotWrite, WantedMemory, StepAnswers, Steps, output_of, told}
use Rattle.run_rules.specs.declared.fault.RunFault.{RunFault}
use Rattle.run_rules.specs.Machine.{Machine, again, look_of, remembered, run_by, state_of, step_of, table_of}
use Rattle.run_rules.specs.RunClauses.{LastRead, ReadsWell, Went, Came, RunEnds, RunCouldNotRead, RunCouldNotWrite, RunWantedMemory, RunAnswers, Runs}
use Rattle.run_rules.specs.declared.end.End.{End}
use Rattle.run_rules.specs.State.{State}
use Rattle.run_rules.specs.Step.{Step, GoesOn, IsOver}
use Rattle.run_actions.specs.Ends.Ends.{EndsSo, IsOfRuns}
use Rattle.run_actions.proofs.OnEnds.EndsSo.{runs_so}
use Rattle.std.specs.Prelude.{⊤, IfOk, IfSome}

-- the machine that has answered this
abbrev pub answering : Option (Result End RunFault) → Machine → Machine
answering answer m = record m { answer = answer }

module _ (x y : Option (Result End RunFault)) (old new : Machine) (before after : Outside) where
  -- ---- a step

  has_read : (t : Traffic) → HasRead old new t after → HasRead (answering x old) (answering y new) t after
  has_read t h = record { asked = h.asked; none_unused = h.none_unused; was_open = h.was_open; few = h.few; none_held = h.none_held; closes = h.closes; at_end = h.at_end }

  reads : (t : Traffic) → Reads old new t after → Reads (answering x old) (answering y new) t after
  reads t (inl h) = inl h
  reads t (inr h) = inr (has_read t h)

  gathers : (t : Traffic) → Gathers old new t after → Gathers (answering x old) (answering y new) t after
  gathers t (inl h) = inl h
  gathers t (inr (inl h)) = inr (inl h)
  gathers t (inr (inr h)) = inr (inr (has_read t h))

  stepped : Stepped old new before after → Stepped (answering x old) (answering y new) before after
  stepped h =
      record {
        traffic = h.traffic;
        moves = h.moves;
        reads = reads h.traffic h.reads;
        same = h.same;
        fine = h.fine;
        gathers = gathers h.traffic h.gathers;
        short = h.short;
        steps = h.steps;
      }

  ended : (end : End) → Ended (step_of old) end old new before after → Ended (step_of old) end (answering x old) (answering y new) before after
  ended end h =
      record { flushed = h.flushed; unread = h.unread; added = h.added; same = h.same; fine = h.fine; none_held = h.none_held; waits = h.waits; ends = h.ends }

  could_not_read : CouldNotRead old new before after → CouldNotRead (answering x old) (answering y new) before after
  could_not_read h =
      record {
        unread = h.unread;
        added = h.added;
        rose = h.rose;
        write_faults = h.write_faults;
        none_unused = h.none_unused;
        still_open = h.still_open;
        none_held = h.none_held;
        stays = h.stays;
        asked = h.asked;
      }

  could_not_write : (due : State → List ℕ) → CouldNotWrite due old new before after → CouldNotWrite due (answering x old) (answering y new) before after
  could_not_write due h =
      record { flushed = h.flushed; unread = h.unread; added = h.added; rose = h.rose; read_faults = h.read_faults; waits = h.waits; stays = h.stays; front = h.front }

  wanted : WantedMemory old new before after → WantedMemory (answering x old) (answering y new) before after
  wanted h =
      record {
        may = h.may;
        flushed = h.flushed;
        unread = h.unread;
        added = h.added;
        gathers = h.gathers;
        held = h.held;
        waits = h.waits;
        stays = h.stays;
        fine = h.fine;
      }

  pub step_answers : (r : Result (Option End) RunFault) → StepAnswers r old new before after → StepAnswers r (answering x old) (answering y new) before after
  step_answers (Ok None) h = stepped h
  step_answers (Ok (Some end)) h = ended end h
  step_answers (Err ReadFault) h = could_not_read h
  step_answers (Err WriteFault) h = could_not_write (λ s. output_of (step_of old s)) h
  step_answers (Err Memory) h = wanted h

  -- ---- a run

  last_read : (t : Traffic) → LastRead old new t → LastRead (answering x old) (answering y new) t
  last_read t h =
      record {
        count = h.count;
        place = h.place;
        after = h.after;
        within = h.within;
        reached = h.reached;
        consumed = h.consumed;
        written = h.written;
        near = h.near;
      }

  reads_well : (t : Traffic) → ReadsWell old new t → ReadsWell (answering x old) (answering y new) t
  reads_well t (inl h) = inl h
  reads_well t (inr h) = inr (last_read t h)

  went : (t : Traffic) → Went old new t before after → Went (answering x old) (answering y new) t before after
  went t h = record { moves = h.moves; same = h.same; stays = h.stays; at_end = h.at_end; well = reads_well t h.well }

  came : (bound : ℕ) (t : Traffic) (rest taken : List ℕ) (at : State) → Came bound old new t rest taken at → Came bound (answering x old) (answering y new) t rest taken at
  came bound t rest taken at h = record { count = h.count; within = h.within; made = h.made; steps = h.steps }

  run_ends : (bound : ℕ) (end : End) → RunEnds bound end old new before after → RunEnds bound end (answering x old) (answering y new) before after
  run_ends bound end h = record { traffic = h.traffic; went = went h.traffic h.went; fine = h.fine; none_held = h.none_held; runs = h.runs }

  run_could_not_read : (bound : ℕ) → RunCouldNotRead bound old new before after → RunCouldNotRead bound (answering x old) (answering y new) before after
  run_could_not_read bound h =
      record {
        traffic = h.traffic;
        went = went h.traffic h.went;
        rose = h.rose;
        write_faults = h.write_faults;
        none_unused = h.none_unused;
        still_open = h.still_open;
        none_held = h.none_held;
        comes = λ rest taken i. let k = h.comes rest taken i in (k.0, came bound h.traffic rest taken k.0 k.1, k.2, k.3, k.4, k.5);
      }

  run_could_not_write : (bound : ℕ) → RunCouldNotWrite bound old new before after → RunCouldNotWrite bound (answering x old) (answering y new) before after
  run_could_not_write bound h =
      record {
        traffic = h.traffic;
        went = went h.traffic h.went;
        rose = h.rose;
        read_faults = h.read_faults;
        comes = λ rest taken i. let k = h.comes rest taken i in (k.0, came bound h.traffic rest taken k.0 k.1, k.2, k.3);
      }

  run_wanted : (bound : ℕ) → RunWantedMemory bound old new before after → RunWantedMemory bound (answering x old) (answering y new) before after
  run_wanted bound h =
      record {
        traffic = h.traffic;
        went = went h.traffic h.went;
        fine = h.fine;
        short = h.short;
        comes = λ rest taken i. let k = h.comes rest taken i in (k.0, came bound h.traffic rest taken k.0 k.1, k.2, k.3);
      }

  pub run_answers : (bound : ℕ) (r : Result End RunFault) → RunAnswers bound r old new before after → RunAnswers bound r (answering x old) (answering y new) before after
  run_answers bound (Ok end) h = run_ends bound end h
  run_answers bound (Err ReadFault) h = run_could_not_read bound h
  run_answers bound (Err WriteFault) h = run_could_not_write bound h
  run_answers bound (Err Memory) h = run_wanted bound h

-- ---- the clauses of calls

-- an answer that is not there cannot be there
no_answer : {A : Type 0} (a : Option A) (v : A) → a ≡ Some v → a ≡ None → ⊥
no_answer a v e f = cc

-- and is one
same : {A : Type 0} (o : Option A) (v w : A) → o ≡ Some v → o ≡ Some w → v ≡ w
same o v w e f = cc

-- the first call that comes to an answer
pub first_step : (r : Result (Option End) RunFault) (x y : Option (Result End RunFault)) (old new : Machine) (before after : Outside) → x ≡ None → y ≡ remembered r → StepAnswers r old new before after
    → Steps r (answering x old) (answering y new) before after
first_step r x y old new before after none kept h =
    record { first = λ e. (step_answers x y old new before after r h, kept); repeats = λ told e. absurd (no_answer x told e none) }

-- a later one
pub again_step : (r : Result (Option End) RunFault) (told : Result End RunFault) (m : Machine) (before : Outside) → m.answer ≡ Some told → r ≡ again told → Steps r m m before before
again_step r told m before e is =
    record {
      first = λ none. absurd (no_answer m.answer told e none);
      repeats = λ other f. (subst (λ t. r ≡ again t) (same m.answer told other e f) is, refl, refl);
    }

pub first_run : (bound : ℕ) (r : Result End RunFault) (x y : Option (Result End RunFault)) (old new : Machine) (before after : Outside) → x ≡ None → y ≡ Some r → RunAnswers bound r old new before after
    → Runs bound r (answering x old) (answering y new) before after
first_run bound r x y old new before after none kept h =
    record { first = λ e. (run_answers x y old new before after bound r h, kept); repeats = λ told e. absurd (no_answer x told e none) }

pub again_run : (bound : ℕ) (r told : Result End RunFault) (m : Machine) (before : Outside) → m.answer ≡ Some told → r ≡ told → Runs bound r m m before before
again_run bound r told m before e is =
    record {
      first = λ none. absurd (no_answer m.answer told e none);
      repeats = λ other f. (is ∙ same m.answer told other e f, refl, refl);
    }

-- ---- the ends that are kept are ends of runs

-- an end that is told is one
abbrev IsToldSo : Option (End × List ℕ × ℕ) → Type 0
IsToldSo None = ⊤
IsToldSo (Some x) = IsOfRuns x.0

is_told_so : (r : Step) → EndsSo r → IsToldSo (told r)
is_told_so (GoesOn s) h = tt
is_told_so (IsOver end s) h = h

told_so : (r : Step) (end : End) (o : List ℕ) (n : ℕ) → EndsSo r → told r ≡ Some (end, o, n) → IsOfRuns end
told_so r end o n h e = subst IsToldSo e (is_told_so r h)

pub steps_end_so : (r : Result (Option End) RunFault) (old new : Machine) (before after : Outside) → StepAnswers r old new before after → IfOk r (λ end. IfSome end IsOfRuns)
steps_end_so (Ok None) old new before after h = tt
steps_end_so (Ok (Some end)) old new before after h =
    told_so (step_of old (state_of old [] [])) end h.flushed new.steps (runs_so.steps (look_of old) (table_of old) (state_of old [] [])) (h.ends [] [])
steps_end_so (Err fault) old new before after h = tt

pub runs_end_so : (bound : ℕ) (r : Result End RunFault) (old new : Machine) (before after : Outside) → RunAnswers bound r old new before after → IfOk r IsOfRuns
runs_end_so bound (Ok end) old new before after h =
    let s = state_of old (h.traffic.heard ++ []) [] in
    told_so (run_by old bound s) end h.traffic.flushed new.steps (runs_so.runs (look_of old) (table_of old) (bound - old.steps) s) (h.runs [] [] (λ c d. refl))
runs_end_so bound (Err fault) old new before after h = tt

-- ---- a count of faults

-- one that a counter can tell never falls where it rose
rose_later : (before now : ℕ) → Rose before now → before < 2 ^ 64 → before ≤ now
rose_later before now (inl more) lt = omega (arith, more)
rose_later before now (inr most) lt = omega (arith, most, lt)

same_later : (before now : ℕ) → now ≡ before → before ≤ now
same_later before now e = omega (arith, e)

pub step_later : (r : Result (Option End) RunFault) (old new : Machine) (before after : Outside) → StepAnswers r old new before after → before.read_faults < 2 ^ 64 → before.read_faults ≤ after.read_faults
step_later (Ok None) old new before after h lt = same_later before.read_faults after.read_faults h.fine.0
step_later (Ok (Some end)) old new before after h lt = same_later before.read_faults after.read_faults h.fine.0
step_later (Err ReadFault) old new before after h lt = rose_later before.read_faults after.read_faults h.rose lt
step_later (Err WriteFault) old new before after h lt = same_later before.read_faults after.read_faults h.read_faults
step_later (Err Memory) old new before after h lt = same_later before.read_faults after.read_faults h.fine.0

pub run_later : (bound : ℕ) (r : Result End RunFault) (old new : Machine) (before after : Outside) → RunAnswers bound r old new before after → before.read_faults < 2 ^ 64 → before.read_faults ≤ after.read_faults
run_later bound (Ok end) old new before after h lt = same_later before.read_faults after.read_faults h.fine.0
run_later bound (Err ReadFault) old new before after h lt = rose_later before.read_faults after.read_faults h.rose lt
run_later bound (Err WriteFault) old new before after h lt = same_later before.read_faults after.read_faults h.read_faults
run_later bound (Err Memory) old new before after h lt = same_later before.read_faults after.read_faults h.fine.0

-- ---- a fault that is handed on

pub told_err : (r : Result (Option End) RunFault) (fault : RunFault) (P : Result (Option End) RunFault → Type 0) → IsErrAnd r (λ t. t ≡ fault) → P (Err fault) → P r
told_err (Ok x) fault P h p = absurd h
told_err (Err t) fault P h p = subst (λ (f : RunFault). P (Err f)) (sym h) p
