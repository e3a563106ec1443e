-- Says how the code of `open` of `Machine` reads: a run that was opened.
use Rattle.std.specs.Prelude.{◌≡◌, ◌≤◌}
use Rattle.module_arena.specs.View.{module_of}
use Rattle.run_names.specs.Told.{alone}
use Rattle.run_acts.specs.Program.Loaded.{Loaded, nothing_ready}
use Rattle.run_acts.specs.Acting.{look_in, table_in, typing_in}
use Rattle.ir_run.specs.declared.beginning.OpenRun.{OpenRun}
use Rattle.ir_run.specs.Opens.{core_opened}
use Rattle.typed_runs.specs.Look.Typings.{IsTypedLook}
use Rattle.typed_runs.specs.States.{IsTypedCore, opened_reach}

-- nothing is decoded yet, and all that was opened is typed
pub record IsOpenRun (p : Loaded) (o : OpenRun) : Type 0 where
  pub fresh : p ≡ nothing_ready p.lists
  pub typed : IsTypedLook (alone (module_of p.lists))
  pub core : IsTypedCore (typing_in p.lists) (look_in p.lists) (table_in p.lists) (core_opened o)
  pub next : o.memory.next ≤ opened_reach
