-- What is opened of a valid module is typed, and nothing of it is decoded.
use Rattle.std.proofs.Common.{◌≡◌, ℕ, ◌<◌, false, List, [], length, Result, Ok, Err, sym, ap, ◌∙◌, subst, arith, lit<}
use Rattle.std.proofs.lemmas.List.Elements.{All-nil}
use Rattle.module_arena.specs.Lists.{Lists}
use Rattle.module_arena.specs.Module.{Module}
use Rattle.module_arena.specs.View.{module_of}
use Rattle.run_names.specs.Told.{alone}
use Rattle.run_rules.specs.declared.end.End.{End}
use Rattle.run_rules.specs.Look.{look, table}
use Rattle.run_rules.specs.Machine.{Machine, new_machine, opened_machine}
use Rattle.run_rules.specs.Opening.{opened}
use Rattle.run_rules.specs.Plan.{plan}
use Rattle.run_rules.specs.Side.{begun}
use Rattle.run_rules.specs.State.{Core, Frame}
use Rattle.run_acts.specs.Program.Loaded.{Loaded, nothing_ready}
use Rattle.run_actions.specs.Stack.UnderWay.{UnderWay}
use Rattle.run_acts.specs.Made.{IsFunctionReady}
use Rattle.run_acts.specs.Acting.{look_in, table_in}
use Rattle.ir_run.specs.declared.beginning.OpenRun.{OpenRun}
use Rattle.ir_run.specs.Opens.{Opens, core_opened}
use Rattle.typed_runs.specs.Look.Typings.{IsTypedLook, typing_of}
use Rattle.typed_runs.specs.Plans.{AreWords, IsTypedPlan}
use Rattle.typed_runs.specs.States.{IsTypedCore, IsTypedState}
use Rattle.typed_runs.proofs.Opening.{begun_typed}
use Rattle.run_rules.specs.Traffic.Input.{Waiting}
use Rattle.ir_run.specs.Fresh.{IsOpenRun}
use Rattle.ir_run.specs.Living.{IsOnItsWay, going}
use Rattle.ir_run.specs.Seen.{the_machine}

core_typed : (a : Lists) (words : List (List ℕ)) (c : Core) → IsTypedPlan (typing_of (alone (module_of a))) (look (alone (module_of a))) (table (alone (module_of a))) (plan (alone (module_of a))) → AreWords words
    → opened (plan (alone (module_of a))) words ≡ Ok c → IsTypedState (typing_of (alone (module_of a))) (look (alone (module_of a))) (table (alone (module_of a))) (begun c [])
core_typed a words c h w e = begun_typed (typing_of (alone (module_of a))) (look (alone (module_of a))) (table (alone (module_of a))) (plan (alone (module_of a))) h words w [] c (All-nil (λ b. b < 256)) e

pub is_open_run : (a : Lists) (words : List (List ℕ)) (p : Loaded) (o : OpenRun) → IsTypedLook (alone (module_of a)) → IsTypedPlan (typing_of (alone (module_of a))) (look (alone (module_of a))) (table (alone (module_of a))) (plan (alone (module_of a)))
    → AreWords words → opened (plan (alone (module_of a))) words ≡ Ok (core_opened o) → p ≡ nothing_ready a → IsOpenRun p o
is_open_run a words p o typed planned w e fresh =
    let s = core_typed a words (core_opened o) planned w e in
    let lists : p.lists ≡ a = ap (λ (q : Loaded). q.lists) fresh in
    record {
      fresh = fresh ∙ ap nothing_ready (sym lists);
      typed = subst (λ x. IsTypedLook (alone (module_of x))) (sym lists) typed;
      core = subst (λ x. IsTypedCore (typing_of (alone (module_of x))) (look_in x) (table_in x) (core_opened o)) (sym lists) s.core;
      next = omega (arith, s.next);
    }

-- a run that was opened is on its way
pub on_its_way : (p : Loaded) (o : OpenRun) (stack : UnderWay) (written held : List ℕ) → IsOpenRun p o → stack ≡ record { frames = []; widest = 0 } → held ≡ []
    → IsOnItsWay 0 (record { program = p; stack = stack; memory = o.memory; due = o.due; written = written }) held
on_its_way p o stack written held h e none =
    subst (λ (s : UnderWay). IsOnItsWay 0 (record { program = p; stack = s; memory = o.memory; due = o.due; written = written }) held) (sym e) (
    record {
      live = record { typed = h.typed; core = h.core; next = omega (arith, h.next); ready = All-nil (λ (f : Frame). IsFunctionReady p 0 f.function) };
      short = subst (λ (bs : List ℕ). length bs < 65536) (sym none) few;
    }
    )
  where
    few : length {A = ℕ} [] < 65536
    few = lit< tt

-- what opening gives, or how the run ends
abbrev machine_from : Module → Result Core End → Result Machine End
machine_from m r = elim r [ Ok c ↦ Ok (new_machine m c) | Err end ↦ Err end ]

pub opened_ready : (m : Module) (words : List (List ℕ)) (c : Core) (machine : Machine) → opened (plan (alone m)) words ≡ Ok c → machine ≡ new_machine m c → opened_machine m words ≡ Ok machine
opened_ready m words c machine e is = ap (machine_from m) e ∙ ap (λ (x : Machine). Ok x) (sym is)

pub opened_ended : (m : Module) (words : List (List ℕ)) (end : End) → opened (plan (alone m)) words ≡ Err end → opened_machine m words ≡ Err end
opened_ended m words end e = ap (machine_from m) e

-- ---- what `open` gives

-- the names are those of the module
pub opens_here : (a names : Lists) (words : List (List ℕ)) (r : Result OpenRun End) → names ≡ a → Opens r (opened (plan (alone (module_of names))) words) → Opens r (opened (plan (alone (module_of a))) words)
opens_here a names words r is h = subst (λ (x : Lists). Opens r (opened (plan (alone (module_of x))) words)) is h

pub ended_so : (a names : Lists) (words : List (List ℕ)) (r : Result OpenRun End) (end : End) → names ≡ a → Opens r (opened (plan (alone (module_of names))) words) → r ≡ Err end → opened_machine (module_of a) words ≡ Err end
ended_so a names words r end is h e = opened_ended (module_of a) words end (subst (λ (x : Result OpenRun End). Opens x (opened (plan (alone (module_of a))) words)) e (opens_here a names words r is h))

pub ready_so : (a names : Lists) (words : List (List ℕ)) (p : Loaded) (r : Result OpenRun End) (o : OpenRun) (machine : Machine) → names ≡ a → Opens r (opened (plan (alone (module_of names))) words) → r ≡ Ok o → p ≡ nothing_ready names
    → machine ≡ new_machine (module_of p.lists) (core_opened o) → opened_machine (module_of a) words ≡ Ok machine
ready_so a names words p r o machine is h e fresh same =
    opened_ready (module_of a) words (core_opened o) machine (subst (λ (x : Result OpenRun End). Opens x (opened (plan (alone (module_of a))) words)) e (opens_here a names words r is h))
    (same ∙ ap (λ (q : Loaded). new_machine (module_of q.lists) (core_opened o)) (fresh ∙ ap nothing_ready is))

-- the run, as a machine
pub begun_so : (p : Loaded) (o : OpenRun) (stack : UnderWay) (w : Waiting) (written held : List ℕ) → stack ≡ record { frames = []; widest = 0 } → w ≡ record { unused = []; closed = false } → held ≡ []
    → the_machine (going (record { program = p; stack = stack; memory = o.memory; due = o.due; written = written }) w held 0 false) ≡ new_machine (module_of p.lists) (core_opened o)
begun_so p o stack w written held e f none =
    ap (λ (s : UnderWay). the_machine (going (record { program = p; stack = s; memory = o.memory; due = o.due; written = written }) w held 0 false)) e
    ∙ (ap (λ (x : Waiting). the_machine (going (record { program = p; stack = record { frames = []; widest = 0 }; memory = o.memory; due = o.due; written = written }) x held 0 false)) f
    ∙ ap (λ (bs : List ℕ). the_machine (going (record { program = p; stack = record { frames = []; widest = 0 }; memory = o.memory; due = o.due; written = written }) (record { unused = []; closed = false }) bs 0 false)) none)
