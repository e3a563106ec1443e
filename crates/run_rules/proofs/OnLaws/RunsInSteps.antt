-- Steps of a machine make up a run.
use Rattle.std.proofs.Common.{◌≡◌, ℕ, suc, ◌+◌, ◌-◌, ◌<◌, ◌≤◌, false, Bool, true, List, [], ◌∷◌, ◌++◌, length, Some, IfSome, inl, refl, sym, ap, ◌∙◌, append_assoc, subst, arith}
use Rattle.std.proofs.lemmas.Bool.{false≢true, lt-ltb, le-ltb}
use Rattle.std.proofs.lemmas.List.{append-nil, length-append}
use Rattle.ir_base.specs.Outside.{Rose, Added}
use Rattle.ir_base.proofs.Pieces.{added_more, lost_more}
use Rattle.run_rules.specs.Clauses.{Outside, Traffic, Moves, IsRest, IsFront, Stepped, Ended, CouldNotRead, CouldNotWrite, WantedMemory, StepFails, output_of, told}
use Rattle.run_rules.specs.declared.fault.RunFault.{RunFault}
use Rattle.run_rules.specs.declared.fault.RunFault.TheVariants.{ReadFault, WriteFault, Memory}
use Rattle.run_rules.specs.Machine.{Machine, state_of, step_of, advanced_of, used_up_of, asks_of, look_of, table_of}
use Rattle.run_rules.specs.RunClauses.{Went, Reached, Came, Halted, CouldNotHalt, WantedToHalt, RunEnds, RunCouldNotRead, RunCouldNotWrite, RunWantedMemory, RunFails, output_within}
use Rattle.run_rules.specs.declared.end.End.{End}
use Rattle.run_rules.specs.State.{State}
use Rattle.run_rules.specs.Step.{GoesOn, then_on, used_up, advanced}
use Rattle.run_rules.specs.Look.{look}
use Rattle.run_rules.specs.Wants.{may_want_memory}
use Rattle.run_rules.specs.Laws.Laws.{IsWithin, StepsMakeUpARun, WritesFirst}
use Rattle.run_rules.proofs.OnLaws.Grows.{step_ends_later, used_up_later}
use Rattle.run_rules.proofs.OnLaws.Reached.{lost_none, added_none, stays_closed, at_end_more, steps_more, told_stays, advanced_told}
use Rattle.run_rules.proofs.OnLaws.BeforeReads.{adds_one, left_alone, reads_well_more, written_more, writes_before}

-- ---- on the way

reached_none : (m : Machine) (o : Outside) → Reached 0 m m o o
unfolding advanced
reached_none m o =
    record {
      traffic = record { heard = []; flushed = [] };
      went = record {
        moves = record { lost = lost_none o.left; added = added_none o.taken };
        same = refl;
        stays = λ c. (c, refl);
        at_end = λ c n. absurd (false≢true (sym c ∙ n));
        well = inl refl;
      };
      fine = (refl, refl);
      made = omega arith;
      short = λ l. l;
      steps = λ rest taken h. ap (λ (ys : List ℕ). GoesOn (state_of m rest ys)) (sym (append-nil taken));
    }

reached_more : (n : ℕ) (old mid new : Machine) (a b c : Outside) → Reached n old mid a b → Stepped mid new b c → Reached (suc n) old new a c
reached_more n old mid new a b c r s =
    let first : Traffic = r.traffic in
    let second : Traffic = s.traffic in
    record {
      traffic = record { heard = first.heard ++ second.heard; flushed = first.flushed ++ second.flushed };
      went = record {
        moves = record {
          lost = lost_more a.left b.left c.left first.heard second.heard r.went.moves.lost s.moves.lost;
          added = added_more a.taken b.taken c.taken first.flushed second.flushed r.went.moves.added s.moves.added;
        };
        same = s.same ∙ r.went.same;
        stays =
            λ o.
            let m = r.went.stays o in
            let k = stays_closed mid new second c s.reads m.0 in
            (k.0, ap (λ (xs : List ℕ). xs ++ second.heard) m.1 ∙ k.1);
        at_end = at_end_more old mid new second b c r.went.at_end s.moves.lost s.reads;
        well = reads_well_more n old mid new a b c r s r.went.well;
      };
      fine = (s.fine.0 ∙ r.fine.0, s.fine.1 ∙ r.fine.1);
      made = omega (arith, r.made, adds_one mid new b c s);
      short = λ l. s.short;
      steps = λ rest taken h. steps_more n old mid new a b c r s rest taken h;
    }

-- ---- the answers

-- what was heard, and what was written with the last call
abbrev then_written : Traffic → List ℕ → Traffic
then_written t more = record t { flushed = t.flushed ++ more }

more_moves : (a b c : Outside) (t : Traffic) (more : List ℕ) → Moves t a b → c.left ≡ b.left → Added b.taken c.taken more → Moves (then_written t more) a c
more_moves a b c t more m unread added = record { lost = rw unread m.lost; added = added_more a.taken b.taken c.taken t.flushed more m.added added }

same_rest : (old mid new : Machine) → new.closed ≡ mid.closed → (rest : List ℕ) → IsRest old new rest → IsRest old mid rest
same_rest old mid new e rest h o m = h o (e ∙ m)

-- what holds on the way holds at the answer of a call that reads nothing
went_on : (old mid new : Machine) (a b c : Outside) (t : Traffic) (more : List ℕ) → Went old mid t a b → c.left ≡ b.left → Added b.taken c.taken more
    → new.program ≡ mid.program → new.closed ≡ mid.closed → mid.steps ≤ new.steps → Went old new (then_written t more) a c
went_on old mid new a b c t more w unread added same closed later =
    record {
      moves = more_moves a b c t more w.moves unread added;
      same = same ∙ w.same;
      stays = λ o. (closed ∙ (w.stays o).0, (w.stays o).1);
      at_end = λ o n. subst (λ l. IfSome l (λ rest. rest ≡ [])) (sym unread) (w.at_end o (sym closed ∙ n));
      well = written_more old mid new t more (same_rest old mid new closed) later w.well;
    }

open_before : (before now : Bool) → (before ≡ true → now ≡ true) → now ≡ false → before ≡ false
open_before false now stays e = refl
open_before true now stays e = absurd (false≢true (sym e ∙ stays refl))

no_fewer : (m n : ℕ) → n ≡ m → m ≤ n
no_fewer m n e = omega (arith, e)

-- the state that mid stands for, told of the machine from which it came
came : (bound n : ℕ) (old mid new : Machine) (a b : Outside) (r : Reached n old mid a b) (more rest taken : List ℕ) → n ≤ bound - old.steps → new.steps ≡ mid.steps → IsRest old mid rest
    → Came bound old new (then_written r.traffic more) rest taken (state_of mid rest (taken ++ r.traffic.flushed))
came bound n old mid new a b r more rest taken l e h = record { count = n; within = l; made = e; steps = r.steps rest taken h }

run_ends : (bound n : ℕ) (end : End) (old mid new : Machine) (a b c : Outside) → IsWithin bound n old mid a b → mid.steps < bound → Ended (step_of mid) end mid new b c → RunEnds bound end old new a c
run_ends bound n end old mid new a b c w l e =
    let r : Reached n old mid a b = w.reached in
    let first : Traffic = r.traffic in
    let keeps = same_rest old mid new e.waits.1 in
    let later : mid.steps ≤ new.steps = step_ends_later (look_of mid) (table_of mid) (state_of mid [] []) end e.flushed new.steps (e.ends [] []) in
    record {
      traffic = then_written first e.flushed;
      went = went_on old mid new a b c first e.flushed r.went e.unread e.added e.same e.waits.1 later;
      fine = (e.fine.0 ∙ r.fine.0, e.fine.1 ∙ r.fine.1);
      none_held = e.none_held;
      runs =
          λ rest taken h.
          told_stays _ (advanced_of old (bound - old.steps) (state_of old (first.heard ++ rest) taken)) _
          (advanced_told _ _ n (bound - old.steps) (state_of old (first.heard ++ rest) taken) (state_of mid rest (taken ++ first.flushed)) _ (omega (arith, l, r.made))
          (r.steps rest taken (keeps rest h))
          (ap (λ p. told (step_of (record old { program = p }) (state_of mid rest (taken ++ first.flushed)))) (sym r.went.same)
          ∙ e.ends rest (taken ++ first.flushed)
          ∙ ap (λ (ys : List ℕ). Some (end, ys, new.steps)) (append_assoc taken first.flushed e.flushed)));
    }

could_not_read : (bound n : ℕ) (old mid new : Machine) (a b c : Outside) → IsWithin bound n old mid a b → mid.steps < bound → CouldNotRead mid new b c → RunCouldNotRead bound old new a c
could_not_read bound n old mid new a b c w l e =
    let r : Reached n old mid a b = w.reached in
    let first : Traffic = r.traffic in
    let closed : new.closed ≡ mid.closed = e.still_open.1 ∙ sym e.still_open.0 in
    let keeps = same_rest old mid new closed in
    record {
      traffic = then_written first mid.unwritten;
      went = went_on old mid new a b c first mid.unwritten r.went e.unread e.added e.stays.0 closed (no_fewer mid.steps new.steps e.stays.1);
      rose = subst (λ k. Rose k c.read_faults) r.fine.0 e.rose;
      write_faults = e.write_faults ∙ r.fine.1;
      none_unused = e.none_unused.1;
      still_open = (open_before old.closed mid.closed (λ o. (r.went.stays o).0) e.still_open.0, e.still_open.1);
      none_held = e.none_held;
      comes = λ rest taken h. (
        state_of mid rest (taken ++ first.flushed),
        came bound n old mid new a b r mid.unwritten rest taken w.allowed e.stays.1 (keeps rest h),
        l,
        ap (λ p. asks_of (record old { program = p }) (state_of mid rest (taken ++ first.flushed))) (sym r.went.same) ∙ e.asked rest (taken ++ first.flushed),
        left_alone mid rest e.none_unused.0 e.still_open.0,
        append_assoc taken first.flushed mid.unwritten,
      );
    }

-- the front of what was written before and then
front_behind : (taken first more whole : List ℕ) → IsFront ((taken ++ first) ++ more) whole → IsFront (taken ++ (first ++ more)) whole
front_behind taken first more whole f = subst (λ (xs : List ℕ). IsFront xs whole) (append_assoc taken first more) f

-- little of what the steps put out is not written
little_held : (taken first more held : List ℕ) → length held < 65536 → length ((taken ++ first) ++ held) < length (taken ++ (first ++ more)) + 65536
little_held taken first more held l = omega (arith, l, length-append (taken ++ first) held, length-append taken first, length-append taken (first ++ more), length-append first more)

could_not_write : (bound n : ℕ) (old mid new : Machine) (a b c : Outside) → IsWithin bound n old mid a b → mid.steps < bound → CouldNotWrite (λ s. output_of (step_of mid s)) mid new b c → RunCouldNotWrite bound old new a c
could_not_write bound n old mid new a b c w l e =
    let r : Reached n old mid a b = w.reached in
    let first : Traffic = r.traffic in
    let keeps = same_rest old mid new e.waits.1 in
    record {
      traffic = then_written first e.flushed;
      went = went_on old mid new a b c first e.flushed r.went e.unread e.added e.stays.0 e.waits.1 (no_fewer mid.steps new.steps e.stays.1);
      rose = subst (λ k. Rose k c.write_faults) r.fine.1 e.rose;
      read_faults = e.read_faults ∙ r.fine.0;
      comes = λ rest taken h. (
        state_of mid rest (taken ++ first.flushed),
        came bound n old mid new a b r e.flushed rest taken w.allowed e.stays.1 (keeps rest h),
        front_behind taken first.flushed e.flushed _
            (subst (λ (xs : List ℕ). IsFront ((taken ++ first.flushed) ++ e.flushed) xs)
            (ap (λ p. output_of (step_of (record old { program = p }) (state_of mid rest (taken ++ first.flushed)))) r.went.same ∙ sym (within_is bound old (state_of mid rest (taken ++ first.flushed)) l))
            (e.front rest (taken ++ first.flushed))),
        λ l. little_held taken first.flushed e.flushed mid.unwritten (r.short l),
      );
    }
  where
    within_is : (bound : ℕ) (old : Machine) (at : State) → at.steps < bound → output_within bound old at ≡ output_of (step_of old at)
    within_is bound old at l = rw (lt-ltb _ _ l) refl

wanted_memory : (bound n : ℕ) (old mid new : Machine) (a b c : Outside) → IsWithin bound n old mid a b → WantedMemory mid new b c → RunWantedMemory bound old new a c
wanted_memory bound n old mid new a b c w e =
    let r : Reached n old mid a b = w.reached in
    let first : Traffic = r.traffic in
    let keeps = same_rest old mid new e.waits.1 in
    record {
      traffic = then_written first e.flushed;
      went = went_on old mid new a b c first e.flushed r.went e.unread e.added e.stays.0 e.waits.1 (no_fewer mid.steps new.steps e.stays.1);
      fine = (e.fine.0 ∙ r.fine.0, e.fine.1 ∙ r.fine.1);
      short = λ l. omega (arith, r.short l, length-append e.flushed new.unwritten, ap length e.held);
      comes = λ rest taken h. (
        state_of mid rest (taken ++ first.flushed),
        came bound n old mid new a b r e.flushed rest taken w.allowed e.stays.1 (keeps rest h),
        ap (λ p. may_want_memory (look (p ∷ [])) mid.core.frames) (sym r.went.same) ∙ e.may,
        ap (λ (ys : List ℕ). (taken ++ first.flushed) ++ ys) (sym e.held) ∙ regroup taken first.flushed e.flushed new.unwritten,
      );
    }
  where
    regroup : (a b c d : List ℕ) → (a ++ b) ++ (c ++ d) ≡ a ++ ((b ++ c) ++ d)
    regroup a b c d = append_assoc a b (c ++ d) ∙ ap (λ (ys : List ℕ). a ++ ys) (sym (append_assoc b c d))

run_fails : (bound n : ℕ) (fault : RunFault) (old mid new : Machine) (a b c : Outside) → IsWithin bound n old mid a b → mid.steps < bound → StepFails fault mid new b c → RunFails bound fault old new a c
run_fails bound n ReadFault old mid new a b c w l e = could_not_read bound n old mid new a b c w l e
run_fails bound n WriteFault old mid new a b c w l e = could_not_write bound n old mid new a b c w l e
run_fails bound n Memory old mid new a b c w l e = wanted_memory bound n old mid new a b c w e

-- ---- no step is left

all_used : (bound n : ℕ) (old mid new : Machine) (a b : Outside) → IsWithin bound n old mid a b → bound ≤ mid.steps → n ≡ bound - old.steps
all_used bound n old mid new a b w l = omega (arith, w.allowed, w.reached.made, l)

run_halts : (bound n : ℕ) (end : End) (old mid new : Machine) (a b c : Outside) → IsWithin bound n old mid a b → bound ≤ mid.steps → Halted end mid new b c → RunEnds bound end old new a c
run_halts bound n end old mid new a b c w l e =
    let r : Reached n old mid a b = w.reached in
    let first : Traffic = r.traffic in
    let keeps = same_rest old mid new e.waits.1 in
    let later : mid.steps ≤ new.steps = used_up_later (table_of mid) (state_of mid [] []) end e.flushed new.steps (e.ends [] []) in
    record {
      traffic = then_written first e.flushed;
      went = went_on old mid new a b c first e.flushed r.went e.unread e.added e.same e.waits.1 later;
      fine = (e.fine.0 ∙ r.fine.0, e.fine.1 ∙ r.fine.1);
      none_held = e.none_held;
      runs =
          λ rest taken h.
          ap (λ k. told (then_on (used_up (table_of old)) (advanced_of old k (state_of old (first.heard ++ rest) taken)))) (sym (all_used bound n old mid new a b w l))
          ∙ ap (λ x. told (then_on (used_up (table_of old)) x)) (r.steps rest taken (keeps rest h))
          ∙ ap (λ p. told (used_up_of (record old { program = p }) (state_of mid rest (taken ++ first.flushed)))) (sym r.went.same)
          ∙ e.ends rest (taken ++ first.flushed)
          ∙ ap (λ (ys : List ℕ). Some (end, ys, new.steps)) (append_assoc taken first.flushed e.flushed);
    }

is_lost : (bound n : ℕ) (old mid new : Machine) (a b c : Outside) → IsWithin bound n old mid a b → bound ≤ mid.steps → CouldNotHalt mid new b c → RunCouldNotWrite bound old new a c
is_lost bound n old mid new a b c w l e =
    let r : Reached n old mid a b = w.reached in
    let first : Traffic = r.traffic in
    let keeps = same_rest old mid new e.waits.1 in
    record {
      traffic = then_written first e.flushed;
      went = went_on old mid new a b c first e.flushed r.went e.unread e.added e.stays.0 e.waits.1 (no_fewer mid.steps new.steps e.stays.1);
      rose = subst (λ k. Rose k c.write_faults) r.fine.1 e.rose;
      read_faults = e.read_faults ∙ r.fine.0;
      comes = λ rest taken h. (
        state_of mid rest (taken ++ first.flushed),
        came bound n old mid new a b r e.flushed rest taken w.allowed e.stays.1 (keeps rest h),
        subst (λ (xs : List ℕ). IsFront (taken ++ (first.flushed ++ e.flushed)) xs) (sym (within_is bound old (state_of mid rest (taken ++ first.flushed)) l))
            (front_behind taken first.flushed e.flushed _ (e.front rest (taken ++ first.flushed))),
        λ l. little_held taken first.flushed e.flushed mid.unwritten (r.short l),
      );
    }
  where
    within_is : (bound : ℕ) (old : Machine) (at : State) → bound ≤ at.steps → output_within bound old at ≡ at.output
    within_is bound old at l = rw (le-ltb _ _ l) refl

wants : (bound n : ℕ) (old mid new : Machine) (a b c : Outside) → IsWithin bound n old mid a b → bound ≤ mid.steps → WantedToHalt mid new b c → RunWantedMemory bound old new a c
wants bound n old mid new a b c w l e =
    let r : Reached n old mid a b = w.reached in
    let first : Traffic = r.traffic in
    let keeps = same_rest old mid new e.waits.1 in
    record {
      traffic = then_written first [];
      went = went_on old mid new a b c first [] r.went (ap (λ o. o.left) e.quiet) (rw e.quiet (added_none b.taken)) e.stays.0 e.waits.1 (no_fewer mid.steps new.steps e.stays.1);
      fine = (ap (λ o. o.read_faults) e.quiet ∙ r.fine.0, ap (λ o. o.write_faults) e.quiet ∙ r.fine.1);
      short = λ l. omega (arith, r.short l, ap length e.held);
      comes = λ rest taken h. (
        state_of mid rest (taken ++ first.flushed),
        came bound n old mid new a b r [] rest taken w.allowed e.stays.1 (keeps rest h),
        ap (may_want_memory (look_of old)) e.idle,
        ap (λ (ys : List ℕ). (taken ++ first.flushed) ++ ys) (sym e.held) ∙ append_assoc taken first.flushed new.unwritten ∙ ap (λ (ys : List ℕ). taken ++ (ys ++ new.unwritten)) (sym (append-nil first.flushed)),
      );
    }

pub steps_make_up_a_run : StepsMakeUpARun
steps_make_up_a_run = record {
  none = λ bound m o. record { reached = reached_none m o; allowed = omega arith };
  more = λ bound n old mid new a b c w l s. record { reached = reached_more n old mid new a b c w.reached s; allowed = omega (arith, w.allowed, w.reached.made, l) };
  ends = run_ends;
  fails = run_fails;
  halts = run_halts;
  is_lost = is_lost;
  wants = wants;
}

pub writes_first : WritesFirst
writes_first old new t fresh w = writes_before old new t w
