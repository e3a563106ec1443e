use Rattle.std.proofs.Common.{Option, Result, IfOk, sym, ap, ◌∙◌, subst}
use Rattle.std.specs.Option.{option_map}
use Rattle.module_arena.specs.Lists.{Lists}
use Rattle.module_arena.specs.View.{module_of}
use Rattle.run_names.specs.declared.entry.main_function.MainFunction.{MainFunction}
use Rattle.run_names.specs.Entry.Mains.{main_seen}
use Rattle.run_names.specs.Told.{alone}
use Rattle.run_rules.specs.declared.end.End.{End}
use Rattle.run_rules.specs.Plan.{main_in, plan}
use Rattle.run_rules.specs.State.{Core}
use Rattle.ir_run.specs.Opens.{Opens}
use Rattle.ir_run.proofs.OpenedRun.{main_missing, main_there}
use Rattle.ir_run.proofs.beginning.open_main.Goals as goal

pub returns-in_default : goal.returns-in_default
returns-in_default c =
    let parts = alone (module_of c.args.names.now) in
    main_missing (plan parts) c.args.words.now (main_in parts)
    (sym (ap (λ (o : Option MainFunction). option_map main_seen o) c.in_default.is) ∙ c.in_ok-main.ensures ∙ ap (λ (b : Lists). main_in (alone (module_of b))) c.program-program.ensures)

pub returns : goal.returns
returns c =
    let parts = alone (module_of c.args.names.now) in
    let found = sym (ap (λ (o : Option MainFunction). option_map main_seen o) c.in-Some.is) ∙ c.in_ok-main.ensures ∙ ap (λ (b : Lists). main_in (alone (module_of b))) c.program-program.ensures in
    subst (λ (r : Result Core End). IfOk c.open_with.result (λ run. Opens run r)) (sym (main_there (plan parts) (main_seen c.in-Some.main) c.args.words.now (main_in parts) found)) c.open_with.ensures
