-- The ways out of a step and of a halt, as their records say, from what was done to the bytes and to the state of the run.
use Rattle.std.proofs.Common.{◌≡◌, ℕ, ◌+◌, ◌<◌, ◌≤◌, true, false, List, [], ◌∷◌, ◌++◌, length, Option, Some, None, refl, sym, ap, ◌∙◌, subst, inl, inr, ◌⊎◌, append-nil, append_assoc, lit<}
use Rattle.run_rules.specs.Clauses.{Outside, IsAsking, HasRead, IsRest, Gathers, Stepped, told, Ended, output_of, CouldNotRead, CouldNotWrite, WantedMemory}
use Rattle.run_rules.specs.Machine.{Machine, state_of, input_left, step_of, may_want}
use Rattle.run_rules.specs.RunClauses.{WantedToHalt}
use Rattle.run_rules.specs.declared.end.End.{End}
use Rattle.run_rules.specs.State.{Core, State}
use Rattle.run_rules.specs.Step.{Step, GoesOn, IsOver}
use Rattle.run_rules.specs.Traffic.Input.{Waiting, IsWaiting, IsNext, HasHeard, Takes, bytes_left}
use Rattle.ir_base.specs.Outside.{Lost, Added}
use Rattle.run_rules.proofs.OnTraffic.Taken.{lost_none}
use Rattle.run_rules.proofs.OnTraffic.Written.{added_none}
use Rattle.run_actions.specs.Passing.Traffic.{CouldNotPut, IsFlushed, IsPut, FlushesFirst, CouldNotGet}

-- no input is touched, and the program stays
pub record IsQuiet (old new : Machine) (before after : Outside) : Type 0 where
  pub unread : after.left ≡ before.left
  pub read_faults : after.read_faults ≡ before.read_faults
  pub unused : new.unused ≡ old.unused
  pub closed : new.closed ≡ old.closed
  pub program : new.program ≡ old.program

-- what the input is to a machine, from the bytes that wait
abbrev pub waiting_in : Machine → Waiting
waiting_in m = record { unused = m.unused; closed = m.closed }

-- one state, part by part
same_state : (c : Core) (i j o p : List ℕ) (n k : ℕ) → i ≡ j → o ≡ p → n ≡ k → GoesOn (record { core = c; input = i; output = o; steps = n }) ≡ GoesOn (record { core = c; input = j; output = p; steps = k })
same_state c i j o p n k e f g = rw (e, f, g) refl

-- ---- an end

pub ended : (go : State → Step) (end : End) (old new : Machine) (before after : Outside) → IsQuiet old new before after
    → IsFlushed old.unwritten new.unwritten before.taken before.write_faults after.taken after.write_faults
    → ((rest taken : List ℕ) → told (go (state_of old rest taken)) ≡ Some (end, taken ++ old.unwritten, new.steps)) → Ended go end old new before after
ended go end old new before after q f e =
    record {
      flushed = old.unwritten;
      unread = q.unread;
      added = f.added;
      same = q.program;
      fine = (q.read_faults, f.fine);
      none_held = f.none_held;
      waits = (q.unused, q.closed);
      ends = e;
    }

-- ---- a write that failed

-- the output that is told
abbrev output_in : Option (End × List ℕ × ℕ) → List ℕ
output_in None = []
output_in (Some x) = x.1

-- the output behind a step that is over
pub output_told : (r : Step) (end : End) (o : List ℕ) (n : ℕ) → told r ≡ Some (end, o, n) → output_of r ≡ o
output_told (GoesOn s) end o n e = cc
output_told (IsOver other s) end o n e = ap output_in e

pub could_not_write : (due : State → List ℕ) (old new : Machine) (before after : Outside) (bytes : List ℕ) → IsQuiet old new before after
    → CouldNotPut bytes old.unwritten new.unwritten before.taken before.write_faults after.taken after.write_faults → new.steps ≡ old.steps
    → ((rest taken : List ℕ) → due (state_of old rest taken) ≡ taken ++ bytes) → CouldNotWrite due old new before after
could_not_write due old new before after bytes q p n e =
    record {
      flushed = p.front.flushed;
      unread = q.unread;
      added = p.front.added;
      rose = p.rose;
      read_faults = q.read_faults;
      waits = (q.unused, q.closed);
      stays = (q.program, n);
      front = λ rest taken. (p.front.unwritten, e rest taken ∙ (ap (λ bs. taken ++ bs) (sym p.front.front) ∙ sym (append_assoc taken p.front.flushed p.front.unwritten)));
    }

-- ---- bytes that are put

gathers_put : (old new : Machine) (after : Outside) (flushed : List ℕ) → (flushed ≡ []) ⊎ (65536 ≤ length flushed) → Gathers old new (record { heard = []; flushed = flushed }) after
gathers_put old new after flushed (inl e) = inl e
gathers_put old new after flushed (inr l) = inr (inl l)

-- the input that a quiet machine has left
left_same : (old new : Machine) (rest : List ℕ) → new.unused ≡ old.unused → new.closed ≡ old.closed → input_left old rest ≡ input_left new rest
left_same old new rest u c = rw (u, c) refl

pub put_stepped : (old new : Machine) (before after : Outside) (written : List ℕ) → IsQuiet old new before after → length old.unwritten < 65536
    → IsPut written old.unwritten new.unwritten before.taken before.write_faults after.taken after.write_faults → new.steps ≡ old.steps + 1
    → ((s : State) → s.core ≡ old.core → step_of old s ≡ GoesOn (record { core = new.core; input = s.input; output = s.output ++ written; steps = s.steps + 1 }))
    → Stepped old new before after
put_stepped old new before after written q few p n e =
    record {
      traffic = record { heard = []; flushed = p.puts.flushed };
      moves = record { lost = subst (λ l. Lost before.left l []) (sym q.unread) (lost_none before.left); added = p.puts.added };
      reads = inl (refl, q.closed);
      same = q.program;
      fine = (q.read_faults, p.fine);
      gathers = gathers_put old new after p.puts.flushed p.puts.gathers;
      short = p.short few;
      steps = λ rest taken i.
          e (state_of old rest taken) refl
          ∙ same_state new.core (input_left old rest) (input_left new rest) ((taken ++ old.unwritten) ++ written) ((taken ++ p.puts.flushed) ++ new.unwritten) (old.steps + 1) new.steps
          (left_same old new rest q.unused q.closed)
          (append_assoc taken old.unwritten written ∙ (ap (λ bs. taken ++ bs) (sym p.puts.whole) ∙ sym (append_assoc taken p.puts.flushed new.unwritten)))
          (sym n);
    }

-- ---- a byte that is taken

-- where a byte is waited for, one comes or the end
never_idle : (w v : Waiting) (heard : List ℕ) (byte : Option ℕ) → IsWaiting w → heard ≡ [] → v.closed ≡ w.closed
    → ((rest : List ℕ) → (w.closed ≡ false → v.closed ≡ true → rest ≡ []) → IsNext (bytes_left w (heard ++ rest)) byte (bytes_left v rest)) → ⊥
never_idle w v heard byte waits none same next =
    let open_still : v.closed ≡ false = same ∙ waits.1 in
    let at_none = rw (none, waits.0, waits.1) at (next [] (λ c d. refl)) in
    let at_some = rw (none, waits.0, waits.1) at (next (0 ∷ []) (λ c d. absurd (no d open_still))) in
    differ byte at_none.0 at_some.0
  where
    no : v.closed ≡ true → v.closed ≡ false → ⊥
    no e f = cc

    differ : (b : Option ℕ) → b ≡ None → b ≡ Some 0 → ⊥
    differ b e f = cc

record IsTaken (old new : Machine) (before after : Outside) (byte : Option ℕ) : Type 0 where
  takes : Takes (waiting_in old) byte (waiting_in new) before.left after.left
  flushes : FlushesFirst (waiting_in old) old.unwritten new.unwritten before.taken after.taken
  read_faults : after.read_faults ≡ before.read_faults
  write_faults : after.write_faults ≡ before.write_faults
  program : new.program ≡ old.program
  steps : new.steps ≡ old.steps + 1
  few : length old.unwritten < 65536
  asked : IsAsking old
  goes : (s : State) (others : List ℕ) → s.core ≡ old.core → IsNext s.input byte others → step_of old s ≡ GoesOn (record { core = new.core; input = others; output = s.output; steps = s.steps + 1 })

-- the state behind it, where these bytes were written before it
taken_step : (old new : Machine) (before after : Outside) (byte : Option ℕ) (t : IsTaken old new before after byte) (flushed : List ℕ) → flushed ++ new.unwritten ≡ old.unwritten
    → (rest taken : List ℕ) → IsRest old new rest → step_of old (state_of old (t.takes.heard ++ rest) taken) ≡ GoesOn (state_of new rest (taken ++ flushed))
taken_step old new before after byte t flushed e rest taken i =
    t.goes (state_of old (t.takes.heard ++ rest) taken) (input_left new rest) refl (t.takes.next rest i)
    ∙ same_state new.core (input_left new rest) (input_left new rest) (taken ++ old.unwritten) ((taken ++ flushed) ++ new.unwritten) (old.steps + 1) new.steps
    refl (ap (λ bs. taken ++ bs) (sym e) ∙ sym (append_assoc taken flushed new.unwritten)) (sym t.steps)

-- no byte was waited for
taken_plain : (old new : Machine) (before after : Outside) (byte : Option ℕ) (t : IsTaken old new before after byte) → t.takes.heard ≡ [] → new.closed ≡ old.closed → after.taken ≡ before.taken → new.unwritten ≡ old.unwritten
    → Stepped old new before after
taken_plain old new before after byte t none closed same kept =
    record {
      traffic = record { heard = t.takes.heard; flushed = [] };
      moves = record { lost = t.takes.lost; added = subst (λ o. Added before.taken o []) (sym same) (added_none before.taken) };
      reads = inl (none, closed);
      same = t.program;
      fine = (t.read_faults, t.write_faults);
      gathers = inl refl;
      short = subst (λ bs. length bs < 65536) (sym kept) t.few;
      steps = taken_step old new before after byte t [] kept;
    }

-- one was, and all that was held is written before
taken_heard : (old new : Machine) (before after : Outside) (byte : Option ℕ) (t : IsTaken old new before after byte) → HasHeard (waiting_in old) (waiting_in new) t.takes.heard after.left → Added before.taken after.taken old.unwritten → new.unwritten ≡ []
    → Stepped old new before after
taken_heard old new before after byte t h added none =
    record {
      traffic = record { heard = t.takes.heard; flushed = old.unwritten };
      moves = record { lost = t.takes.lost; added = added };
      reads = inr read;
      same = t.program;
      fine = (t.read_faults, t.write_faults);
      gathers = inr (inr read);
      short = subst (λ (bs : List ℕ). length bs < 65536) (sym none) few_none;
      steps = taken_step old new before after byte t old.unwritten (ap (λ bs. old.unwritten ++ bs) none ∙ append-nil old.unwritten);
    }
  where
    few_none : length {A = ℕ} [] < 65536
    few_none = lit< tt

    read : HasRead old new (record { heard = t.takes.heard; flushed = old.unwritten }) after
    read =
        record {
          asked = t.asked;
          none_unused = h.waits.0;
          was_open = h.waits.1;
          few = h.few;
          none_held = none;
          closes = h.closes;
          at_end = h.at_end;
        }

pub taken_stepped : (old new : Machine) (before after : Outside) (byte : Option ℕ) (takes : Takes (waiting_in old) byte (waiting_in new) before.left after.left) → FlushesFirst (waiting_in old) old.unwritten new.unwritten before.taken after.taken
    → after.read_faults ≡ before.read_faults → after.write_faults ≡ before.write_faults → new.program ≡ old.program → new.steps ≡ old.steps + 1 → length old.unwritten < 65536 → IsAsking old
    → ((s : State) (others : List ℕ) → s.core ≡ old.core → IsNext s.input byte others → step_of old s ≡ GoesOn (record { core = new.core; input = others; output = s.output; steps = s.steps + 1 }))
    → Stepped old new before after
taken_stepped old new before after byte takes flushes r w p n few asked e = go takes.reads flushes
  where
    t : IsTaken old new before after byte
    t = record { takes = takes; flushes = flushes; read_faults = r; write_faults = w; program = p; steps = n; few = few; asked = asked; goes = e }

    go : ((takes.heard ≡ []) × (new.closed ≡ old.closed)) ⊎ HasHeard (waiting_in old) (waiting_in new) takes.heard after.left
        → FlushesFirst (waiting_in old) old.unwritten new.unwritten before.taken after.taken → Stepped old new before after
    go (inl x) (inl f) = absurd (never_idle (waiting_in old) (waiting_in new) takes.heard byte f.0 x.0 x.1 takes.next)
    go (inl x) (inr f) = taken_plain old new before after byte t x.0 x.1 f.1 f.2
    go (inr h) (inl f) = taken_heard old new before after byte t h f.1 f.2
    go (inr h) (inr f) = absurd (f.0 h.waits)

-- ---- a read that failed

pub could_not_read : (old new : Machine) (before after : Outside) → CouldNotGet (waiting_in old) (waiting_in new) old.unwritten new.unwritten before after
    → new.program ≡ old.program → new.steps ≡ old.steps → IsAsking old → CouldNotRead old new before after
could_not_read old new before after g p n asked =
    record {
      unread = g.unread;
      added = g.added;
      rose = g.rose;
      write_faults = g.write_faults;
      none_unused = (g.waits.0, ap (λ (w : Waiting). w.unused) g.same ∙ g.waits.0);
      still_open = (g.waits.1, ap (λ (w : Waiting). w.closed) g.same ∙ g.waits.1);
      none_held = g.none_held;
      stays = (p, n);
      asked = asked;
    }

-- ---- memory that was wanted

pub wanted : (old new : Machine) (before : Outside) → may_want old ≡ true → new.unused ≡ old.unused → new.closed ≡ old.closed → new.unwritten ≡ old.unwritten → new.program ≡ old.program → new.steps ≡ old.steps → WantedMemory old new before before
wanted old new before may u c o p n =
    record {
      may = may;
      flushed = [];
      unread = refl;
      added = added_none before.taken;
      gathers = inl refl;
      held = o;
      waits = (u, c);
      stays = (p, n);
      fine = (refl, refl);
    }

pub wanted_to_halt : (old new : Machine) (before : Outside) → old.core.frames ≡ [] → new.unused ≡ old.unused → new.closed ≡ old.closed → new.unwritten ≡ old.unwritten → new.program ≡ old.program → new.steps ≡ old.steps → WantedToHalt old new before before
wanted_to_halt old new before idle u c o p n = record { idle = idle; quiet = refl; held = o; waits = (u, c); stays = (p, n) }
