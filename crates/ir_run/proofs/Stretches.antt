-- A stretch of instructions that neither call nor return, and the steps that it makes.
use Rattle.std.proofs.Common.{◌≡◌, ℕ, zero, suc, ◌+◌, ◌^◌, ◌<◌, ◌≤◌, true, false, List, [], ◌∷◌, length, map, Bool, Option, Some, None, Ok, Err, refl, sym, ap, ◌∙◌, subst, inl, append-nil, arith}
use Rattle.std.proofs.lemmas.Bool.{false≢true}
use Rattle.ir_memory.specs.Memory.{Blocks}
use Rattle.module_arena.specs.Lists.{Lists}
use Rattle.module_arena.specs.View.{module_of}
use Rattle.run_rules.specs.Clauses.{Outside, outside, Stepped}
use Rattle.run_rules.specs.declared.end.End.{End}
use Rattle.run_rules.specs.declared.fault.RunFault.{RunFault}
use Rattle.run_rules.specs.declared.fault.RunFault.TheVariants.{Memory}
use Rattle.run_rules.specs.Machine.{Machine}
use Rattle.run_rules.specs.State.{Frame, Due, Core}
use Rattle.run_rules.specs.Step.{next_of}
use Rattle.run_rules.specs.Wants.{may_want_memory}
use Rattle.run_actions.specs.Loops.Stretches.{Stretches, WentOn}
use Rattle.run_acts.specs.Program.Loaded.{Loaded}
use Rattle.run_actions.specs.Stack.UnderWay.{UnderWay, IsRunning, newest}
use Rattle.run_rules.specs.Traffic.Input.{Waiting}
use Rattle.run_rules.proofs.OnTraffic.Written.{added_none}
use Rattle.run_acts.specs.declared.next.Next.{Next}
use Rattle.run_acts.specs.declared.next.Next.TheVariants.{Goes, Stops}
use Rattle.run_acts.specs.declared.next.Stop.{Stop}
use Rattle.run_acts.specs.Acting.{ActsInside, FunctionsStay, MayActHere, WantsHere, is_outer_here, look_in, table_in}
use Rattle.run_acts.specs.Said as said
use Rattle.run_acts.specs.Said.{end_of}
use Rattle.run_acts.proofs.Staying.{ready_still}
use Rattle.run_actions.specs.Passing.Traffic.{Finishes, IsFlushed, IsPut}
use Rattle.ir_run.specs.Living.{Acts, Comes, IsLive, Living, core_of_living, living_of, may_want_in}
use Rattle.ir_run.specs.Stretch.{ComesThen, LeavesOff, MayWalk, StaysAt, Walked, Walks}
use Rattle.ir_run.specs.declared.stretch.Stretch.{Stretch}
use Rattle.ir_run.specs.declared.stretch.StretchEnd.{StretchEnd}
use Rattle.ir_run.specs.declared.stretch.StretchEnd.TheVariants as ends
use Rattle.ir_run.proofs.EnteringDue.{comes_from, is_entered}
use Rattle.ir_run.proofs.Lived.{act_live, may_act_here}
use Rattle.ir_run.proofs.Onward.{stop_ended, stop_fails, wants, went_on, inside_seen}

-- ---- on the way

-- the functions under way are the same, so some is
still_running : (fs gs : List Frame) → map (λ (f : Frame). f.function) gs ≡ map (λ (f : Frame). f.function) fs → IsRunning fs → IsRunning gs
still_running [] gs e h = absurd h
still_running (f ∷ fs) [] e h = cc
still_running (f ∷ fs) (g ∷ gs) e h = tt

-- and so is the newest
abbrev first : List ℕ → ℕ
first [] = 0
first (n ∷ ns) = n

newest_first : (fs : List Frame) → first (map (λ (f : Frame). f.function) fs) ≡ (newest fs).function
newest_first [] = refl
newest_first (f ∷ fs) = refl

newest_still : (fs gs : List Frame) → map (λ (f : Frame). f.function) gs ≡ map (λ (f : Frame). f.function) fs → (newest gs).function ≡ (newest fs).function
newest_still fs gs e = sym (newest_first gs) ∙ ap first e ∙ newest_first fs

-- so many instructions were carried out, all of one function: it is under way still, and all holds of the run that held before
pub record Walking (p : Loaded) (count : ℕ) (s : UnderWay) (m : Blocks) (t : UnderWay) (n : Blocks) : Type 0 where
  pub walked : (due : List Due) → Walked (look_in p.lists) (table_in p.lists) count (core_of_living (living_of p s due m)) (core_of_living (living_of p t due n))
  pub live : (steps : ℕ) (due : List Due) → IsLive steps (living_of p s due m) → IsLive (steps + count) (living_of p t due n)
  pub running : IsRunning t.frames
  pub function : (newest t.frames).function ≡ (newest s.frames).function

pub none_walked : (p : Loaded) (s : UnderWay) (m : Blocks) → IsRunning s.frames → Walking p 0 s m s m
none_walked p s m running =
    record {
      walked = λ due. refl;
      live = λ steps due h. let none : steps ≡ steps + 0 = omega arith in subst (λ (k : ℕ). IsLive k (living_of p s due m)) none h;
      running = running;
      function = refl;
    }

module _ (p : Loaded) (count : ℕ) (s : UnderWay) (m : Blocks) (t : UnderWay) (n : Blocks) (w : Walking p count s m t n) where
  -- one more may be carried out
  pub may_walk_on : (most : ℕ) → MayWalk p s m most → count < most → MayActHere p t n
  may_walk_on most may less =
      let few = may.4 in
      let lt : may.0 + count < 2 ^ 32 = omega (arith, few, less) in
      may_act_here (living_of p t may.1 n) (living_of p t may.1 n) refl w.running (may.0 + count, w.live may.0 may.1 may.2, lt)

  -- one more goes on
  pub walked_more : (u : UnderWay) (o : Blocks) → ActsInside p (Some Goes) t u n o → FunctionsStay t u → Walking p (count + 1) s m u o
  walked_more u o acts stays =
      record {
        walked = λ due.
            let one : suc count ≡ count + 1 = omega arith in
            subst (λ (k : ℕ). Walked (look_in p.lists) (table_in p.lists) k (core_of_living (living_of p s due m)) (core_of_living (living_of p u due o))) one
            (core_of_living (living_of p t due n), w.walked due, w.running, acts.0 due);
        live = λ steps due h.
            let one : steps + count + 1 ≡ steps + (count + 1) = omega arith in
            let further : IsLive (steps + count + 1) (living_of p u due o) =
            act_live (steps + count) (living_of p t due n) (living_of p u due o) Goes (w.live steps due h) w.running (record { lists = refl; comes = acts.0 due })
            (λ ready. ready_still p t u stays ready)
            in
            subst (λ (k : ℕ). IsLive k (living_of p u due o)) one further;
        running = still_running t.frames u.frames stays.functions w.running;
        function = newest_still t.frames u.frames stays.functions ∙ w.function;
      }

  -- one more ends the run
  pub walks_to_stop : (u : UnderWay) (o : Blocks) (stop : Stop) → ActsInside p (Some (Stops stop)) t u n o → (due : List Due) → Walks (record { count = count; end = ends.Stops stop }) (living_of p s due m) (living_of p u due o)
  walks_to_stop u o stop acts due =
      record { lists = refl; mid = core_of_living (living_of p t due n); walked = w.walked due; comes = (w.running, acts.0 due) }

  -- one calls or returns
  pub walks_to_wait : (u : UnderWay) (o : Blocks) → u ≡ t → o ≡ n → (due : List Due) → Walks (record { count = count; end = ends.Waits }) (living_of p s due m) (living_of p u due o)
  walks_to_wait u o same_stack same_memory due =
      record {
        lists = refl;
        mid = core_of_living (living_of p t due n);
        walked = w.walked due;
        comes = λ i. core_of_living (living_of p (same_stack i) due (same_memory i));
      }

  pub waits_live : (u : UnderWay) (o : Blocks) → u ≡ t → o ≡ n → (steps : ℕ) (due : List Due) → IsLive steps (living_of p s due m) → IsLive (steps + count) (living_of p u due o)
  waits_live u o same_stack same_memory steps due h =
      subst (λ (x : UnderWay). IsLive (steps + count) (living_of p x due o)) (sym same_stack)
      (subst (λ (x : Blocks). IsLive (steps + count) (living_of p t due x)) (sym same_memory) (w.live steps due h))

  -- one wants memory
  pub walks_to_want : (u : UnderWay) (o : Blocks) → WantsHere p t → (due : List Due) → Walks (record { count = count; end = ends.Wants }) (living_of p s due m) (living_of p u due o)
  walks_to_want u o wants due =
      record { lists = refl; mid = core_of_living (living_of p t due n); walked = w.walked due; comes = (w.running, wants) }

-- ---- the same of a run, whatever was written last

pub same_live : (steps : ℕ) (l : Living) → IsLive steps (living_of l.program l.stack l.due l.memory) → IsLive steps l
same_live steps l h = record { typed = h.typed; core = h.core; next = h.next; ready = h.ready }

pub live_of : (steps : ℕ) (l : Living) → IsLive steps l → IsLive steps (living_of l.program l.stack l.due l.memory)
live_of steps l h = record { typed = h.typed; core = h.core; next = h.next; ready = h.ready }

pub same_walks : (s : Stretch) (old new : Living) → Walks s (living_of old.program old.stack old.due old.memory) (living_of new.program new.stack new.due new.memory) → Walks s old new
same_walks s old new h = record { lists = h.lists; mid = h.mid; walked = h.walked; comes = h.comes }

pub same_behind : (steps : ℕ) (end : StretchEnd) (l : Living) → StaysAt steps end (living_of l.program l.stack l.due l.memory) → StaysAt steps end l
same_behind steps ends.Waits l h = same_live steps l h
same_behind steps (ends.Stops stop) l h = tt
same_behind steps ends.Wants l h = tt

-- whatever was written before it
pub walks_from : (s : Stretch) (written : List ℕ) (old new : Living) → Walks s (record old { written = written }) new → Walks s old new
walks_from s written old new h = record { lists = h.lists; mid = h.mid; walked = h.walked; comes = h.comes }

pub live_with : (steps : ℕ) (written : List ℕ) (l : Living) → IsLive steps l → IsLive steps (record l { written = written })
live_with steps written l h = record { typed = h.typed; core = h.core; next = h.next; ready = h.ready }

-- where no function is under way
pub none_walks : (l : Living) → Walks (record { count = 0; end = ends.Waits }) l l
none_walks l = record { lists = refl; mid = core_of_living l; walked = refl; comes = refl }

-- ---- step by step

-- nothing is put out
put_none : (held : List ℕ) (taken : Option (List ℕ)) (faults : ℕ) → IsPut [] held held taken faults taken faults
put_none held taken faults =
    record { puts = record { flushed = []; added = added_none taken; whole = sym (append-nil held); gathers = inl refl }; fine = refl; short = λ l. l }

module _ (p : Loaded) (w : Waiting) (held : List ℕ) where
  -- what instructions see, from what they do to it
  abbrev pub living_at : Core → Living
  living_at c = living_of p (record { frames = c.frames; widest = 0 }) c.due c.memory

  -- a run that has come there
  abbrev pub machine_at : ℕ → Core → Machine
  machine_at steps c = inside_seen (living_at c) w held steps false

  -- an instruction of a function under way
  pub comes_at : (next : Next) (c : Core) (new : Living) → IsRunning c.frames → new.program.lists ≡ p.lists → next_of (look_in p.lists) (table_in p.lists) c ≡ said.next_of next (core_of_living new) new.written → Comes next (living_at c) new
  comes_at next c new running lists e = comes_from next (living_at c) (living_at c) new (is_entered (living_at c) running) (record { lists = lists; comes = e })

  step_at : (steps : ℕ) (c d : Core) → length held < 65536 → IsRunning c.frames → next_of (look_in p.lists) (table_in p.lists) c ≡ said.next_of Goes d [] → (o : Outside) → Stepped (machine_at steps c) (machine_at (steps + 1) d) o o
  step_at steps c d few running e o =
      went_on (living_at c) (living_at d) w held held steps o.left o.taken o.taken o.read_faults o.write_faults o.write_faults (comes_at Goes c (living_at d) running refl e) few
      (put_none held o.taken o.write_faults)

  pub went_along : (bound steps n : ℕ) (c d : Core) → length held < 65536 → steps + n ≤ bound → Walked (look_in p.lists) (table_in p.lists) n c d → WentOn bound n (machine_at steps c) (machine_at (steps + n) d)
  went_along bound steps zero c d few le h =
      let none : steps + 0 ≡ steps = omega arith in
      λ i. machine_at (none i) (h i)
  went_along bound steps (suc n) c d few le h =
      let one : steps + n + 1 ≡ steps + suc n = omega arith in
      let less : steps + n < bound = omega (arith, le) in
      let within : steps + n ≤ bound = omega (arith, le) in (
        machine_at (steps + n) h.0,
        went_along bound steps n c h.0 few within h.1,
        less,
        λ o. subst (λ (k : ℕ). Stepped (machine_at (steps + n) h.0) (machine_at k d) o o) one (step_at (steps + n) h.0 d few h.2 h.3 o),
      )

-- ---- a stretch of one instruction at most

one_at : (n : ℕ) → n ≤ 1 → (n < 1 → ⊥) → n ≡ 1
one_at zero le none = absurd (none (omega arith))
one_at (suc zero) le none = refl
one_at (suc (suc n)) le none = absurd (omega (arith, le))

module _ (old new : Living) (s : Stretch) (walks : Walks s old new) where
  abbrev walked_to : ℕ → Core → Type 0
  walked_to n c = Walked (look_in old.program.lists) (table_in old.program.lists) n (core_of_living old) c

  -- none was carried out
  stands_still : s.count < 1 → walks.mid ≡ core_of_living old
  stands_still few = let none : s.count ≡ 0 = omega (arith, few) in subst (λ (n : ℕ). walked_to n walks.mid) none walks.walked

  abbrev comes_so : StretchEnd → Type 0
  comes_so end = ComesThen (look_in old.program.lists) (table_in old.program.lists) end walks.mid (core_of_living new)

  -- one ended the run
  pub acts_stop : (stop : Stop) → s.end ≡ ends.Stops stop → s.count < 1 → Acts (Stops stop) old new
  acts_stop stop e few =
      let ends_so : comes_so (ends.Stops stop) = subst comes_so e walks.comes in
      record { lists = walks.lists; comes = ap (next_of (look_in old.program.lists) (table_in old.program.lists)) (sym (stands_still few)) ∙ ends_so.1 }

  -- one went on
  pub acts_one : s.end ≡ ends.Waits → s.count ≡ 1 → new.written ≡ [] → Acts Goes old new
  acts_one e one none =
      let one_step : walked_to 1 walks.mid = subst (λ (n : ℕ). walked_to n walks.mid) one walks.walked in
      let same : core_of_living new ≡ walks.mid = subst comes_so e walks.comes in
      record {
        lists = walks.lists;
        comes = ap (next_of (look_in old.program.lists) (table_in old.program.lists)) (sym one_step.1) ∙ one_step.3 ∙ (λ i. said.next_of Goes (sym same i) (sym none i));
      }

  -- one wants memory
  pub one_wants : s.end ≡ ends.Wants → s.count < 1 → may_want_in old ≡ true
  one_wants e few =
      let ends_so : comes_so ends.Wants = subst comes_so e walks.comes in
      ap (λ (c : Core). may_want_memory (look_in old.program.lists) c.frames) (sym (stands_still few)) ∙ ends_so.1

  -- the next calls or returns
  same_then : s.end ≡ ends.Waits → s.count < 1 → core_of_living new ≡ core_of_living old
  same_then e few = subst comes_so e walks.comes ∙ stands_still few

  pub runs_then : s.end ≡ ends.Waits → s.count < 1 → IsRunning old.stack.frames → IsRunning new.stack.frames
  runs_then e few running = subst (λ (c : Core). IsRunning c.frames) (sym (same_then e few)) running

  abbrev outer_at : Lists → List Frame → Bool
  outer_at a fs = is_outer_here (record old.program { lists = a }) (record old.stack { frames = fs })

  outer_before : s.end ≡ ends.Waits → LeavesOff 1 s.count s.end new.program new.stack → IsRunning old.stack.frames → s.count < 1 → is_outer_here old.program old.stack ≡ true
  outer_before e further running less =
      let off : LeavesOff 1 s.count ends.Waits new.program new.stack = subst (λ (end : StretchEnd). LeavesOff 1 s.count end new.program new.stack) e further in
      ap (λ (c : Core). outer_at old.program.lists c.frames) (sym (same_then e less)) ∙ (ap (λ (a : Lists). outer_at a new.stack.frames) (sym walks.lists) ∙ off less (runs_then e less running))

  -- where the first neither calls nor returns, it was carried out
  pub went_one : s.end ≡ ends.Waits → s.count ≤ 1 → LeavesOff 1 s.count s.end new.program new.stack → IsRunning old.stack.frames → is_outer_here old.program old.stack ≡ false → s.count ≡ 1
  went_one e few further running inner = one_at s.count few (λ less. false≢true (sym inner ∙ outer_before e further running less))

-- an instruction does the same, whatever was written before it
pub acts_with : (written : List ℕ) (old later : Living) (next : Next) → Acts next (record old { written = written }) later → Acts next old later
acts_with written old later next a = record { lists = a.lists; comes = a.comes }

-- all holds still
pub live_one : (steps count : ℕ) (end : StretchEnd) (l : Living) → end ≡ ends.Waits → count ≡ 1 → StaysAt (steps + count) end l → IsLive (steps + 1) l
live_one steps count end l e one h = subst (λ (n : ℕ). IsLive (steps + n) l) one (subst (λ (x : StretchEnd). StaysAt (steps + count) x l) e h)

-- ---- a stretch, and what comes then

module _ (bound : ℕ) (old new : Living) (w : Waiting) (held held_new : List ℕ) (steps : ℕ) (left taken taken_new : Option (List ℕ)) (reads writes writes_new : ℕ) (s : Stretch) (walks : Walks s old new) (few : length held < 65536) (within : steps + s.count ≤ bound) where
  -- a run that has come to its last instruction
  abbrev come : Machine
  come = machine_at old.program w held (steps + s.count) walks.mid

  went : WentOn bound s.count (inside_seen old w held steps false) come
  went = went_along old.program w held bound steps s.count (core_of_living old) walks.mid few within walks.walked

  abbrev ComesTo : StretchEnd → Type 0
  ComesTo end = ComesThen (look_in old.program.lists) (table_in old.program.lists) end walks.mid (core_of_living new)

  -- as a clause sees a run of these lists
  abbrev seen_of : Lists → Core → Machine
  seen_of a c = record { program = module_of a; core = c; steps = steps + s.count; unused = w.unused; closed = w.closed; unwritten = held; answer = None }

  pub stretch_waits : s.end ≡ ends.Waits → Stretches bound (Ok None) (inside_seen old w held steps false) (inside_seen new w held (steps + s.count) false) (outside left reads taken writes) (outside left reads taken writes)
  stretch_waits e =
      let same : core_of_living new ≡ walks.mid = subst ComesTo e walks.comes in
      record { count = s.count; mid = come; went = went; ends = ((λ i. seen_of (walks.lists i) (same i)), refl) }

  module _ (stop : Stop) (e : s.end ≡ ends.Stops stop) (less : steps + s.count < bound) where
    stops_there : Comes (Stops stop) (living_at old.program w held walks.mid) new
    stops_there =
        let ends_so : ComesTo (ends.Stops stop) = subst ComesTo e walks.comes in
        comes_at old.program w held (Stops stop) walks.mid new ends_so.0 walks.lists ends_so.1

    pub stretch_ends : (end : End) → end ≡ end_of stop → IsFlushed held held_new taken writes taken_new writes_new
        → Stretches bound (Ok (Some end)) (inside_seen old w held steps false) (inside_seen new w held_new (steps + s.count + 1) true) (outside left reads taken writes) (outside left reads taken_new writes_new)
    stretch_ends end is f =
        record {
          count = s.count;
          mid = come;
          went = went;
          ends = (less, stop_ended (living_at old.program w held walks.mid) new w held held_new (steps + s.count) left taken taken_new reads writes writes_new stop end stops_there is f);
        }

    pub stretch_fails : (fault : RunFault) → Finishes (end_of stop) (Err fault) held held_new taken writes taken_new writes_new
        → Stretches bound (Err fault) (inside_seen old w held steps false) (inside_seen new w held_new (steps + s.count) true) (outside left reads taken writes) (outside left reads taken_new writes_new)
    stretch_fails fault f =
        record {
          count = s.count;
          mid = come;
          went = went;
          ends = (less, stop_fails (living_at old.program w held walks.mid) new w held held_new (steps + s.count) left taken taken_new reads writes writes_new stop fault stops_there f);
        }

  pub stretch_wants : s.end ≡ ends.Wants → steps + s.count < bound → Stretches bound (Err Memory) (inside_seen old w held steps false) (inside_seen new w held (steps + s.count) true) (outside left reads taken writes) (outside left reads taken writes)
  stretch_wants e less =
      let ends_so : ComesTo ends.Wants = subst ComesTo e walks.comes in
      record {
        count = s.count;
        mid = come;
        went = went;
        ends = (less, wants (living_at old.program w held walks.mid) new w held (steps + s.count) (outside left reads taken writes) ends_so.1 walks.lists);
      }

-- no step is made where the run is over
pub none_stretches : (bound : ℕ) (m : Machine) (o : Outside) → Stretches bound (Ok None) m m o o
none_stretches bound m o = record { count = 0; mid = m; went = refl; ends = (refl, refl) }
