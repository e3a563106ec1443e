-- Answers of a machine that was just opened are those of its program.
use Rattle.std.proofs.Common.{◌≡◌, inl, inr, ℕ, ◌+◌, ◌-◌, ◌<◌, ◌≤◌, nat_lt, Bool, true, false, List, [], ◌∷◌, ◌++◌, length, Option, Some, None, IfSome, Result, Ok, Err, refl, sym, ap, ◌∙◌, subst, arith}
use Rattle.std.specs.Prelude.{if◌then◌else◌}
use Rattle.std.proofs.lemmas.Bool.{false≢true, ltb-true, ltb-false}
use Rattle.std.proofs.lemmas.List.{length-append}
use Rattle.ir_base.specs.Outside.{Lost}
use Rattle.run_rules.specs.Action.{Action}
use Rattle.run_rules.specs.Calls.{Callee}
use Rattle.run_rules.specs.Clauses.{Outside, Traffic, IsFront, IsRest, output_of, told}
use Rattle.run_rules.specs.Look.{look, table}
use Rattle.run_rules.specs.Machine.{Machine, new_machine, step_of}
use Rattle.run_rules.specs.Opening.{opened}
use Rattle.run_rules.specs.Plan.{plan}
use Rattle.run_rules.specs.RunClauses.{Came, ReadsWell, RunCouldNotRead, RunCouldNotWrite, RunEnds, RunWantedMemory, output_within}
use Rattle.run_rules.specs.Side.{begun, run_opened}
use Rattle.run_rules.specs.State.{Core, State}
use Rattle.run_rules.specs.Step.{Outcome, Step, GoesOn, IsOver, advanced, outcome, run}
use Rattle.run_rules.specs.declared.end.End.{End}
use Rattle.run_rules.specs.declared.end.End.TheVariants.{StepsUsed}
use Rattle.run_rules.specs.declared.fault.RunFault.TheVariants.{ReadFault, WriteFault, Memory}
use Rattle.run_rules.proofs.OnLaws.Reached.{added_none, lost_none}
use Rattle.run_rules.proofs.OnLaws.BeforeReads.{front_of_front}
use Rattle.run_rules.proofs.OnPlayed.Few.{ends_in_time}
use Rattle.run_rules.proofs.OnPlayed.Fronts.{next_output, reached_output}
use Rattle.run_rules.proofs.OnPlayed.Longer.{advanced_steps, none_earlier}
use Rattle.run_rules.specs.Played.Laws.{EarlyEndsArePlayed, RunsArePlayed}
use Rattle.run_rules.specs.Played.Played.{AsksAt, Plays, Program, PutsBeforeItReads, Reaches, outcome_of}

-- an output and an end
abbrev an_outcome : List ℕ → End → Outcome
an_outcome output end = record { output = output; end = end }

-- ---- what is left of the input, where that is told

-- the bytes that are left behind those that were read
pub left_behind : (over : Bool) (left : Option (List ℕ)) (heard input : List ℕ) → Lost (Some input) left heard → (over ≡ true → IfSome left (λ rest. rest ≡ [])) → (rest : List ℕ) × (input ≡ heard ++ rest) × (over ≡ true → rest ≡ [])
left_behind over None heard input lost at_end = absurd cc
left_behind over (Some rest) heard input lost at_end = let same : input ≡ heard ++ rest = cc in (rest, same, at_end)

-- ---- what a run comes to

-- the outcome that is told; some other where none is
abbrev outcome_told : Option (End × List ℕ × ℕ) → Outcome
outcome_told None = an_outcome [] StepsUsed
outcome_told (Some x) = an_outcome x.1 x.0

told_outcome : (x : Step) (end : End) (output : List ℕ) (steps : ℕ) → told x ≡ Some (end, output, steps) → outcome x ≡ an_outcome output end
told_outcome (GoesOn s) end output steps e = absurd cc
told_outcome (IsOver other s) end output steps e = ap outcome_told e

outcome_output : (x : Step) → (outcome x).output ≡ output_of x
outcome_output (GoesOn s) = refl
outcome_output (IsOver end s) = refl

none_off : (n : ℕ) → n - 0 ≡ n
none_off n = omega arith

none_first : (n : ℕ) → 0 + n ≡ n
none_first n = omega arith

same_core : (r : Result Core End) (a b : Core) → r ≡ Ok a → r ≡ Ok b → a ≡ b
same_core r a b e f = cc

module _ (p : Program) (c : Core) (opens : opened (plan (p.code ∷ [])) p.words ≡ Ok c) where
  abbrev L : ℕ → ℕ → ℕ → Action
  L = look (p.code ∷ [])

  abbrev T : ℕ → Callee
  T = table (p.code ∷ [])

  abbrev old : Machine
  old = new_machine p.code c

  side_is : (input : List ℕ) → outcome_of p input ≡ outcome (run L T p.bound (begun c input))
  side_is input = ap (λ (r : Result Core End). run_opened L T input p.bound r) opens

  side_output : (input : List ℕ) → output_of (run L T p.bound (begun c input)) ≡ (outcome_of p input).output
  side_output input = sym (ap (λ (o : Outcome). o.output) (side_is input) ∙ outcome_output (run L T p.bound (begun c input)))

  -- so many steps from the first state
  steps_are : (n : ℕ) (input : List ℕ) (at : State) → advanced L T n (begun c input) ≡ GoesOn at → at.steps ≡ n
  steps_are n input at to = advanced_steps L T n (begun c input) at to ∙ none_first n

  -- a state that was reached
  reached : (input : List ℕ) (used : ℕ) (at : State) (a : AsksAt p input used at) → advanced L T a.reaches.count (begun c input) ≡ GoesOn at
  reached input used at a =
      subst (λ (d : Core). advanced L T a.reaches.count (begun d input) ≡ GoesOn at) (same_core (opened (plan (p.code ∷ [])) p.words) a.reaches.core c a.reaches.opens opens) a.reaches.steps

  reaches : (input : List ℕ) (count : ℕ) (at : State) → count ≤ p.bound → advanced L T count (begun c input) ≡ GoesOn at → Reaches p input at
  reaches input count at within steps = record { core = c; opens = opens; count = count; within = within; steps = steps }

  -- what is left behind the bytes that were read
  is_rest : (new : Machine) (rest : List ℕ) → (new.closed ≡ true → rest ≡ []) → IsRest old new rest
  is_rest new rest ends = λ _ closed. ends closed

  -- ---- output before input

  puts_early : (new : Machine) (t : Traffic) → ReadsWell old new t → new.steps ≤ p.bound → (rest : List ℕ) → IsRest old new rest → PutsBeforeItReads p (t.heard ++ rest) t.heard t.flushed
  puts_early new t (inl none) within rest is = λ some. let no_byte : ⊥ = omega (arith, subst (λ (xs : List ℕ). 0 < length xs) none some) in absurd no_byte
  puts_early new t (inr l) within rest is = λ some.
      (l.after rest, reaches (t.heard ++ rest) l.count (l.after rest) (omega (arith, l.within, within)) (l.reached rest is), omega (arith, l.consumed rest is, l.near), l.written rest is)

  -- ---- each answer

  ended : (end : End) (new : Machine) (before after : Outside) → RunEnds p.bound end old new before after → Plays p (Ok end) before after
  ended end new before after r = record {
    heard = r.traffic.heard;
    put = r.traffic.flushed;
    lost = r.went.moves.lost;
    added = r.went.moves.added;
    faulted = r.fine;
    over = new.closed;
    at_end = r.went.at_end refl;
    printed = λ rest ends. side_is (r.traffic.heard ++ rest) ∙ told_outcome (run L T p.bound (begun c (r.traffic.heard ++ rest))) end r.traffic.flushed new.steps (comes rest ends);
    early = λ rest ends. puts_early new r.traffic r.went.well (in_time rest ends) rest (is_rest new rest ends);
  }
    where
      comes : (rest : List ℕ) → (new.closed ≡ true → rest ≡ []) → told (run L T p.bound (begun c (r.traffic.heard ++ rest))) ≡ Some (end, r.traffic.flushed, new.steps)
      comes rest ends = subst (λ (n : ℕ). told (run L T n (begun c (r.traffic.heard ++ rest))) ≡ Some (end, r.traffic.flushed, new.steps)) (none_off p.bound) (r.runs rest [] (is_rest new rest ends))

      in_time : (rest : List ℕ) → (new.closed ≡ true → rest ≡ []) → new.steps ≤ p.bound
      in_time rest ends = subst (λ (n : ℕ). new.steps ≤ n) (none_first p.bound) (ends_in_time L T p.bound (begun c (r.traffic.heard ++ rest)) end r.traffic.flushed new.steps (comes rest ends))

  -- where a run came to a state on the way
  came_in_time : (new : Machine) (t : Traffic) (rest : List ℕ) (at : State) → Came p.bound old new t rest [] at → new.steps ≤ p.bound
  came_in_time new t rest at came = omega (arith, came.made, steps_are came.count (t.heard ++ rest) at came.steps, came.within)

  could_not_read : (new : Machine) (before after : Outside) → RunCouldNotRead p.bound old new before after → Plays p (Err ReadFault) before after
  could_not_read new before after r = record {
    heard = r.traffic.heard;
    put = r.traffic.flushed;
    lost = r.went.moves.lost;
    added = r.went.moves.added;
    faulted = (r.rose, r.write_faults);
    over = new.closed;
    at_end = r.went.at_end refl;
    printed = λ rest ends.
        let here = r.comes rest [] (any_rest rest) in
        let came : Came p.bound old new r.traffic rest [] here.0 = here.1 in
        let asking : AsksAt p (r.traffic.heard ++ rest) (length r.traffic.heard) here.0 = record {
          reaches = reaches (r.traffic.heard ++ rest) came.count here.0 (omega (arith, came.within)) came.steps;
          due = here.2;
          asks_there = here.3;
          placed = length-append r.traffic.heard rest ∙ ap (λ (xs : List ℕ). length r.traffic.heard + length xs) (sym here.4);
        } in
        (here.0, record { is_asking = asking; first = λ other a. not_before rest other a here.0 (sym came.made) }, sym here.5);
    early = λ rest ends.
        let here = r.comes rest [] (any_rest rest) in
        puts_early new r.traffic r.went.well (came_in_time new r.traffic rest here.0 here.1) rest (is_rest new rest ends);
  }
    where
      any_rest : (xs : List ℕ) → IsRest old new xs
      any_rest xs = λ o closed. absurd (false≢true (sym r.still_open.1 ∙ closed))

      more : (xs : List ℕ) → (u : State) × (advanced L T new.steps (begun c (r.traffic.heard ++ xs)) ≡ GoesOn u) × (u.input ≡ xs)
      more xs =
          let here = r.comes xs [] (any_rest xs) in
          let came : Came p.bound old new r.traffic xs [] here.0 = here.1 in
          let count : came.count ≡ new.steps = sym (steps_are came.count (r.traffic.heard ++ xs) here.0 came.steps) ∙ sym came.made in
          (here.0, subst (λ (n : ℕ). advanced L T n (begun c (r.traffic.heard ++ xs)) ≡ GoesOn here.0) count came.steps, here.4)

      not_before : (rest : List ℕ) (other : State) → AsksAt p (r.traffic.heard ++ rest) (length r.traffic.heard) other → (at : State) → at.steps ≡ new.steps → at.steps ≤ other.steps
      not_before rest other a at made = go (nat_lt a.reaches.count new.steps) refl
        where
          to : advanced L T a.reaches.count (begun c (r.traffic.heard ++ rest)) ≡ GoesOn other
          to = reached (r.traffic.heard ++ rest) (length r.traffic.heard) other a

          count : other.steps ≡ a.reaches.count
          count = steps_are a.reaches.count (r.traffic.heard ++ rest) other to

          go : (earlier : Bool) → nat_lt a.reaches.count new.steps ≡ earlier → at.steps ≤ other.steps
          go true e = absurd (none_earlier L T c r.traffic.heard rest a.reaches.count new.steps other more to a.asks_there a.placed (ltb-true a.reaches.count new.steps e))
          go false e = omega (arith, made, count, ltb-false a.reaches.count new.steps e)

  -- what a state on the way has, and the step under way, are in front of all
  within_front : (at : State) (count : ℕ) (input : List ℕ) → count ≤ p.bound → advanced L T count (begun c input) ≡ GoesOn at → IsFront (output_within p.bound old at) (outcome_of p input).output
  within_front at count input few to = go (nat_lt at.steps p.bound) refl
    where
      steps : at.steps ≡ count
      steps = steps_are count input at to

      go : (some : Bool) → nat_lt at.steps p.bound ≡ some → IsFront (if some then output_of (step_of old at) else at.output) (outcome_of p input).output
      go true e = subst (IsFront (output_of (step_of old at))) (side_output input) (next_output L T count p.bound (begun c input) at (omega (arith, steps, ltb-true at.steps p.bound e)) to)
      go false e = subst (IsFront at.output) (side_output input) (reached_output L T count p.bound (begun c input) at few to)

  could_not_write : (new : Machine) (before after : Outside) → RunCouldNotWrite p.bound old new before after → Plays p (Err WriteFault) before after
  could_not_write new before after r = record {
    heard = r.traffic.heard;
    put = r.traffic.flushed;
    lost = r.went.moves.lost;
    added = r.went.moves.added;
    faulted = (r.rose, r.read_faults);
    over = new.closed;
    at_end = r.went.at_end refl;
    printed = λ rest ends.
        let here = r.comes rest [] (is_rest new rest ends) in
        let came : Came p.bound old new r.traffic rest [] here.0 = here.1 in
        let all = (outcome_of p (r.traffic.heard ++ rest)).output in
        front_of_front r.traffic.flushed (output_within p.bound old here.0) all here.2 (within_front here.0 came.count (r.traffic.heard ++ rest) (omega (arith, came.within)) came.steps);
    early = λ rest ends.
        let here = r.comes rest [] (is_rest new rest ends) in
        puts_early new r.traffic r.went.well (came_in_time new r.traffic rest here.0 here.1) rest (is_rest new rest ends);
  }

  wanted_memory : (new : Machine) (before after : Outside) → RunWantedMemory p.bound old new before after → Plays p (Err Memory) before after
  wanted_memory new before after r = record {
    heard = r.traffic.heard;
    put = r.traffic.flushed;
    lost = r.went.moves.lost;
    added = r.went.moves.added;
    faulted = r.fine;
    over = new.closed;
    at_end = r.went.at_end refl;
    printed = λ rest ends.
        let here = r.comes rest [] (is_rest new rest ends) in
        let came : Came p.bound old new r.traffic rest [] here.0 = here.1 in
        let all = (outcome_of p (r.traffic.heard ++ rest)).output in
        let put_so : IsFront r.traffic.flushed here.0.output = (new.unwritten, here.3) in
        front_of_front r.traffic.flushed here.0.output all put_so
        (subst (IsFront here.0.output) (side_output (r.traffic.heard ++ rest)) (reached_output L T came.count p.bound (begun c (r.traffic.heard ++ rest)) here.0 (omega (arith, came.within)) came.steps));
    early = λ rest ends.
        let here = r.comes rest [] (is_rest new rest ends) in
        puts_early new r.traffic r.went.well (came_in_time new r.traffic rest here.0 here.1) rest (is_rest new rest ends);
  }

pub runs_played : RunsArePlayed
runs_played p c new (Ok end) before after opens r = ended p c opens end new before after r
runs_played p c new (Err ReadFault) before after opens r = could_not_read p c opens new before after r
runs_played p c new (Err WriteFault) before after opens r = could_not_write p c opens new before after r
runs_played p c new (Err Memory) before after opens r = wanted_memory p c opens new before after r

-- nothing was read or printed
nothing_early : (p : Program) (rest : List ℕ) → PutsBeforeItReads p rest [] []
nothing_early p rest = λ some. let none : ⊥ = omega (arith, some) in absurd none

pub early_ends_played : EarlyEndsArePlayed
early_ends_played = record {
  ends = λ p end outside opens. record {
    heard = [];
    put = [];
    lost = lost_none outside.left;
    added = added_none outside.taken;
    faulted = (refl, refl);
    over = false;
    at_end = λ closed. absurd (false≢true closed);
    printed = λ rest ends. ap (λ (r : Result Core End). run_opened (look (p.code ∷ [])) (table (p.code ∷ [])) rest p.bound r) opens;
    early = λ rest ends. nothing_early p rest;
  };
  wants = λ p outside. record {
    heard = [];
    put = [];
    lost = lost_none outside.left;
    added = added_none outside.taken;
    faulted = (refl, refl);
    over = false;
    at_end = λ closed. absurd (false≢true closed);
    printed = λ rest ends. ((outcome_of p rest).output, refl);
    early = λ rest ends. nothing_early p rest;
  };
}
