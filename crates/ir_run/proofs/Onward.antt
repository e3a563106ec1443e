-- A step of a run that is not over, and a halt, by what they came to.
use Rattle.std.proofs.Common.{◌≡◌, ℕ, ◌+◌, ◌<◌, Bool, true, false, List, ◌++◌, length, Option, Some, None, Result, Ok, Err, refl, sym, ap, ◌∙◌, subst, append_assoc}
use Rattle.ir_tables.specs.declared.undefined_kind.UndefinedKind.TheVariants.{Unreachable}
use Rattle.module_arena.specs.View.{module_of}
use Rattle.run_rules.specs.Clauses.{Outside, outside, IsAsking, StepAnswers, WantedMemory, output_of, told}
use Rattle.run_rules.specs.declared.end.End.{End}
use Rattle.run_rules.specs.declared.end.End.TheVariants.{Undefined, StepsUsed}
use Rattle.run_rules.specs.declared.fault.RunFault.{RunFault}
use Rattle.run_rules.specs.declared.fault.RunFault.TheVariants.{ReadFault, WriteFault, Memory}
use Rattle.run_rules.specs.Machine.{Machine, look_of, may_want, state_of, step_of, table_of, used_up_of}
use Rattle.run_rules.specs.State.{Core, State}
use Rattle.run_rules.specs.Step.{GoesOn}
use Rattle.run_actions.specs.Loops.Halts as halts
use Rattle.run_actions.specs.Stack.UnderWay.{UnderWay}
use Rattle.run_rules.specs.Traffic.Input.{Waiting}
use Rattle.run_acts.specs.declared.next.Next.TheVariants.{Goes, Gets, Stops}
use Rattle.run_acts.specs.declared.next.Stop.{Stop}
use Rattle.run_acts.specs.Said.{end_of}
use Rattle.run_actions.specs.Passing.Traffic as traffic
use Rattle.run_actions.specs.Passing.Traffic.{Got, IsFlushed, IsPut, number_got}
use Rattle.ir_run.specs.Living.{Comes, EndsThere, IsEntered, Living, core_of_living, going}
use Rattle.ir_run.specs.Seen.{Going, the_machine}
use Rattle.ir_run.proofs.Lived.{core_got}
use Rattle.ir_run.proofs.Stepped.{IsQuiet, could_not_read, could_not_write, ended, output_told, put_stepped, taken_stepped, wanted}
use Rattle.ir_run.proofs.Whole as whole

-- as a machine that has answered nothing
abbrev pub inside_seen : Living → Waiting → List ℕ → ℕ → Bool → Machine
inside_seen l waiting unwritten steps is_over = the_machine (going l waiting unwritten steps is_over)

-- ---- no input is touched

module _ (old_live new_live : Living) (w : Waiting) (held_old held_new : List ℕ) (steps : ℕ) (left taken_old taken_new : Option (List ℕ)) (reads writes_old writes_new : ℕ) where
  -- before, and after so many steps
  abbrev old : Machine
  old = inside_seen old_live w held_old steps false

  abbrev new : ℕ → Bool → Machine
  new count over = inside_seen new_live w held_new count over

  abbrev before : Outside
  before = outside left reads taken_old writes_old

  abbrev after : Outside
  after = outside left reads taken_new writes_new

  quiet : (count : ℕ) (over : Bool) → new_live.program.lists ≡ old_live.program.lists → IsQuiet old (new count over) before after
  quiet count over e = record { unread = refl; read_faults = refl; unused = refl; closed = refl; program = ap module_of e }

  -- ---- the run is over on entering what is due

  over_told : (stop : Stop) → EndsThere stop old_live new_live → (rest taken : List ℕ) → told (step_of old (state_of old rest taken)) ≡ Some (end_of stop, taken ++ held_old, steps)
  over_told stop h rest taken = whole.over_step (look_of old) (table_of old) (state_of old rest taken) (end_of stop) (taken ++ held_old) steps (h.over (state_of old rest taken) refl)

  pub over_ended : (stop : Stop) (end : End) → EndsThere stop old_live new_live → end ≡ end_of stop → IsFlushed held_old held_new taken_old writes_old taken_new writes_new → StepAnswers (Ok (Some end)) old (new steps true) before after
  over_ended stop end h is f =
      ended (step_of old) end old (new steps true) before after (quiet steps true h.lists) f
      (λ rest taken. over_told stop h rest taken ∙ ap (λ x. Some (x, taken ++ held_old, steps)) (sym is))

  pub over_fails : (stop : Stop) (fault : RunFault) → EndsThere stop old_live new_live → traffic.Finishes (end_of stop) (Err fault) held_old held_new taken_old writes_old taken_new writes_new → StepAnswers (Err fault) old (new steps true) before after
  over_fails stop ReadFault h f = absurd f
  over_fails stop Memory h f = absurd f
  over_fails stop WriteFault h f =
      could_not_write (λ s. output_of (step_of old s)) old (new steps true) before after held_old (quiet steps true h.lists) f refl
      (λ rest taken. output_told (step_of old (state_of old rest taken)) (end_of stop) (taken ++ held_old) steps (over_told stop h rest taken))

  -- ---- an instruction ends the run

  stop_told : (stop : Stop) → Comes (Stops stop) old_live new_live → (rest taken : List ℕ) → told (step_of old (state_of old rest taken)) ≡ Some (end_of stop, taken ++ held_old, steps + 1)
  stop_told stop h rest taken = whole.stops (look_of old) (table_of old) (state_of old rest taken) h.there (h.enters (state_of old rest taken) refl) (end_of stop) h.comes

  pub stop_ended : (stop : Stop) (end : End) → Comes (Stops stop) old_live new_live → end ≡ end_of stop → IsFlushed held_old held_new taken_old writes_old taken_new writes_new → StepAnswers (Ok (Some end)) old (new (steps + 1) true) before after
  stop_ended stop end h is f =
      ended (step_of old) end old (new (steps + 1) true) before after (quiet (steps + 1) true h.lists) f
      (λ rest taken. stop_told stop h rest taken ∙ ap (λ x. Some (x, taken ++ held_old, steps + 1)) (sym is))

  pub stop_fails : (stop : Stop) (fault : RunFault) → Comes (Stops stop) old_live new_live → traffic.Finishes (end_of stop) (Err fault) held_old held_new taken_old writes_old taken_new writes_new → StepAnswers (Err fault) old (new steps true) before after
  stop_fails stop ReadFault h f = absurd f
  stop_fails stop Memory h f = absurd f
  stop_fails stop WriteFault h f =
      could_not_write (λ s. output_of (step_of old s)) old (new steps true) before after held_old (quiet steps true h.lists) f refl
      (λ rest taken. output_told (step_of old (state_of old rest taken)) (end_of stop) (taken ++ held_old) (steps + 1) (stop_told stop h rest taken))

  -- ---- it goes on

  goes_step : Comes Goes old_live new_live → (s : State) → s.core ≡ old.core
      → step_of old s ≡ GoesOn (record { core = core_of_living new_live; input = s.input; output = s.output ++ new_live.written; steps = s.steps + 1 })
  goes_step h s e = whole.goes_on (look_of old) (table_of old) s h.there (h.enters s e) (core_of_living new_live) new_live.written h.comes

  pub went_on : Comes Goes old_live new_live → length held_old < 65536 → IsPut new_live.written held_old held_new taken_old writes_old taken_new writes_new → StepAnswers (Ok None) old (new (steps + 1) false) before after
  went_on h few p = put_stepped old (new (steps + 1) false) before after new_live.written (quiet (steps + 1) false h.lists) few p refl (goes_step h)

  pub put_fails : (fault : RunFault) → Comes Goes old_live new_live → traffic.Puts (Err fault) new_live.written held_old held_new taken_old writes_old taken_new writes_new → StepAnswers (Err fault) old (new steps true) before after
  put_fails ReadFault h f = absurd f
  put_fails Memory h f = absurd f
  put_fails WriteFault h f =
      could_not_write (λ s. output_of (step_of old s)) old (new steps true) before after (held_old ++ new_live.written) (quiet steps true h.lists) f refl
      (λ rest taken. ap output_of (goes_step h (state_of old rest taken) refl) ∙ append_assoc taken held_old new_live.written)

  -- ---- no step is left

  pub halt_over : (stop : Stop) (r : Result End RunFault) → EndsThere stop old_live new_live → traffic.Finishes (end_of stop) r held_old held_new taken_old writes_old taken_new writes_new → halts.Finishes r old (new steps true) before after
  halt_over stop (Ok end) h f =
      ended (used_up_of old) end old (new steps true) before after (quiet steps true h.lists) f.1
      (λ rest taken.
      whole.over_halt (table_of old) (state_of old rest taken) (end_of stop) (taken ++ held_old) steps (h.over (state_of old rest taken) refl) ∙ ap (λ x. Some (x, taken ++ held_old, steps)) (sym f.0))
  halt_over stop (Err WriteFault) h f = could_not_write (λ s. s.output) old (new steps true) before after held_old (quiet steps true h.lists) f refl (λ rest taken. refl)
  halt_over stop (Err ReadFault) h f = absurd f
  halt_over stop (Err Memory) h f = absurd f

  pub halt_used : (r : Result End RunFault) → IsEntered old_live new_live → traffic.Finishes StepsUsed r held_old held_new taken_old writes_old taken_new writes_new → halts.Finishes r old (new steps true) before after
  halt_used (Ok end) h f =
      ended (used_up_of old) end old (new steps true) before after (quiet steps true h.lists) f.1
      (λ rest taken.
      whole.halts (look_of old) (table_of old) (state_of old rest taken) (core_of_living new_live) (h.enters (state_of old rest taken) refl) ∙ ap (λ x. Some (x, taken ++ held_old, steps)) (sym f.0))
  halt_used (Err WriteFault) h f = could_not_write (λ s. s.output) old (new steps true) before after held_old (quiet steps true h.lists) f refl (λ rest taken. refl)
  halt_used (Err ReadFault) h f = absurd f
  halt_used (Err Memory) h f = absurd f

-- ---- the run is over already

module _ (live : Living) (w : Waiting) (held_old held_new : List ℕ) (steps : ℕ) (left taken_old taken_new : Option (List ℕ)) (reads writes_old writes_new : ℕ) where
  abbrev idle_old : Machine
  idle_old = inside_seen live w held_old steps true

  abbrev idle_new : ℕ → Machine
  idle_new count = inside_seen live w held_new count true

  abbrev idle_before : Outside
  idle_before = outside left reads taken_old writes_old

  abbrev idle_after : Outside
  idle_after = outside left reads taken_new writes_new

  idle_quiet : (count : ℕ) → IsQuiet idle_old (idle_new count) idle_before idle_after
  idle_quiet count = record { unread = refl; read_faults = refl; unused = refl; closed = refl; program = refl }

  pub idle_ended : (end : End) → end ≡ Undefined Unreachable → IsFlushed held_old held_new taken_old writes_old taken_new writes_new → StepAnswers (Ok (Some end)) idle_old (idle_new (steps + 1)) idle_before idle_after
  idle_ended end is f =
      ended (step_of idle_old) end idle_old (idle_new (steps + 1)) idle_before idle_after (idle_quiet (steps + 1)) f
      (λ rest taken. ap (λ x. Some (x, taken ++ held_old, steps + 1)) (sym is))

  pub idle_fails : (fault : RunFault) → traffic.Finishes (Undefined Unreachable) (Err fault) held_old held_new taken_old writes_old taken_new writes_new → StepAnswers (Err fault) idle_old (idle_new steps) idle_before idle_after
  idle_fails ReadFault f = absurd f
  idle_fails Memory f = absurd f
  idle_fails WriteFault f =
      could_not_write (λ s. output_of (step_of idle_old s)) idle_old (idle_new steps) idle_before idle_after held_old (idle_quiet steps) f refl (λ rest taken. refl)

  pub idle_halt : (r : Result End RunFault) → traffic.Finishes StepsUsed r held_old held_new taken_old writes_old taken_new writes_new → halts.Finishes r idle_old (idle_new steps) idle_before idle_after
  idle_halt (Ok end) f =
      ended (used_up_of idle_old) end idle_old (idle_new steps) idle_before idle_after (idle_quiet steps) f.1 (λ rest taken. ap (λ x. Some (x, taken ++ held_old, steps)) (sym f.0))
  idle_halt (Err WriteFault) f = could_not_write (λ s. s.output) idle_old (idle_new steps) idle_before idle_after held_old (idle_quiet steps) f refl (λ rest taken. refl)
  idle_halt (Err ReadFault) f = absurd f
  idle_halt (Err Memory) f = absurd f

-- ---- a byte is wanted

module _ (old_live mid_live : Living) (stack : UnderWay) (w v : Waiting) (held_old held_new : List ℕ) (steps to : ℕ) (before after : Outside) where
  abbrev get_old : Machine
  get_old = inside_seen old_live w held_old steps false

  abbrev get_new : ℕ → Bool → Machine
  get_new count over = inside_seen (record mid_live { stack = stack }) v held_new count over

  asks_here : Comes (Gets to) old_live mid_live → IsAsking get_old
  asks_here h rest taken =
      whole.asks_for (look_of get_old) (table_of get_old) (state_of get_old rest taken) h.there (h.enters (state_of get_old rest taken) refl) to (core_of_living mid_live) h.comes

  got_on : Comes (Gets to) old_live mid_live → length held_old < 65536 → Got to mid_live.stack stack w v held_old held_new before after → StepAnswers (Ok None) get_old (get_new (steps + 1) false) before after
  got_on h few g =
      taken_stepped get_old (get_new (steps + 1) false) before after g.byte g.takes g.flushes g.read_faults g.write_faults (ap module_of h.lists) refl few (asks_here h)
      (λ s others e n.
      whole.takes (look_of get_old) (table_of get_old) s h.there (h.enters s e) to (core_of_living mid_live) g.byte others h.comes n
      ∙ ap (λ (c : Core). GoesOn (record { core = c; input = others; output = s.output; steps = s.steps + 1 })) (
      sym (core_got to (number_got g.byte) mid_live) ∙ ap (λ (st : UnderWay). core_of_living (record mid_live { stack = st })) (sym g.number)
      ))

  get_fails : (fault : RunFault) → Comes (Gets to) old_live mid_live → traffic.Gets to (Err fault) mid_live.stack stack w v held_old held_new before after → StepAnswers (Err fault) get_old (get_new steps true) before after
  get_fails Memory h g = absurd g
  get_fails ReadFault h g = could_not_read get_old (get_new steps true) before after g (ap module_of h.lists) refl (asks_here h)
  get_fails WriteFault h g =
      could_not_write (λ s. output_of (step_of get_old s)) get_old (get_new steps true) before after held_old
      (record {
        unread = g.unread;
        read_faults = g.read_faults;
        unused = ap (λ (x : Waiting). x.unused) g.same;
        closed = ap (λ (x : Waiting). x.closed) g.same;
        program = ap module_of h.lists;
      }) g.put refl
      (λ rest taken. whole.writes_none (look_of get_old) (table_of get_old) (state_of get_old rest taken) h.there (h.enters (state_of get_old rest taken) refl) to (core_of_living mid_live) h.comes)

-- the same of a run that has the stack of `seen`, and all else as before the read
pub got_seen : (old_live mid_live seen : Living) (w v : Waiting) (held_old held_new : List ℕ) (steps to : ℕ) (before after : Outside) → seen ≡ record mid_live { stack = seen.stack } → Comes (Gets to) old_live mid_live → length held_old < 65536
    → Got to mid_live.stack seen.stack w v held_old held_new before after → StepAnswers (Ok None) (inside_seen old_live w held_old steps false) (inside_seen seen v held_new (steps + 1) false) before after
got_seen old_live mid_live seen w v held_old held_new steps to before after same h few g =
    subst (λ (x : Living). StepAnswers (Ok None) (inside_seen old_live w held_old steps false) (inside_seen x v held_new (steps + 1) false) before after) (sym same)
    (got_on old_live mid_live seen.stack w v held_old held_new steps to before after h few g)

pub get_fails_seen : (old_live mid_live seen : Living) (w v : Waiting) (held_old held_new : List ℕ) (steps to : ℕ) (before after : Outside) (fault : RunFault) → seen ≡ record mid_live { stack = seen.stack } → Comes (Gets to) old_live mid_live
    → traffic.Gets to (Err fault) mid_live.stack seen.stack w v held_old held_new before after → StepAnswers (Err fault) (inside_seen old_live w held_old steps false) (inside_seen seen v held_new steps true) before after
get_fails_seen old_live mid_live seen w v held_old held_new steps to before after fault same h g =
    subst (λ (x : Living). StepAnswers (Err fault) (inside_seen old_live w held_old steps false) (inside_seen x v held_new steps true) before after) (sym same)
    (get_fails old_live mid_live seen.stack w v held_old held_new steps to before after fault h g)

-- ---- memory is wanted

pub wants : (old_live new_live : Living) (w : Waiting) (held : List ℕ) (steps : ℕ) (before : Outside) → may_want (inside_seen old_live w held steps false) ≡ true → new_live.program.lists ≡ old_live.program.lists
    → WantedMemory (inside_seen old_live w held steps false) (inside_seen new_live w held steps true) before before
wants old_live new_live w held steps before may e = wanted (inside_seen old_live w held steps false) (inside_seen new_live w held steps true) before may refl refl refl (ap module_of e) refl

-- ---- a run as a clause sees it

pub from_going : (P : Going → Type 0) (l : Living) (w : Waiting) (held : List ℕ) (steps : ℕ) (over : Bool) (seen : Going) → over ≡ false → going l w held steps over ≡ seen → P (going l w held steps false) → P seen
from_going P l w held steps over seen e is h = subst P is (subst (λ b. P (going l w held steps b)) (sym e) h)
