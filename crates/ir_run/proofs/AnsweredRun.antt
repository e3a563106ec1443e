-- What a machine that was opened answers is that of its program.
use Rattle.std.proofs.Common.{◌≡◌, [], ◌∷◌, None, Result, Ok, Err, refl, sym, ap, subst}
use Rattle.module_arena.specs.Module.{Module}
use Rattle.run_rules.specs.Clauses.{Outside}
use Rattle.run_rules.specs.Machine.{Machine, new_machine, opened_machine}
use Rattle.run_rules.specs.Opening.{opened}
use Rattle.run_rules.specs.Plan.{plan}
use Rattle.run_rules.specs.RunClauses.{RunAnswers, Runs}
use Rattle.run_rules.specs.State.{Core}
use Rattle.ir_run.specs.Opened.{IsOpened}
use Rattle.ir_run.specs.Seen.{Answering, machine_seen}
use Rattle.ir_run.specs.declared.opening.OpenedMachine.{OpenedMachine}
use Rattle.ir_run.specs.declared.opening.OpenedMachine.TheVariants.{Ready, Ended}
use Rattle.run_rules.specs.declared.end.End.{End}
use Rattle.run_rules.specs.declared.fault.RunFault.{RunFault}
use Rattle.run_rules.specs.Played.Laws.{EarlyEndsArePlayed, RunsArePlayed}
use Rattle.run_rules.specs.Played.Played.{Plays, Program}

-- what is behind a machine that was opened, or behind the end of opening
core_behind : (m : Module) (r : Result Core End) (machine : Machine) → elim r as (λ _. Result Machine End) [ Ok c ↦ Ok (new_machine m c) | Err end ↦ Err end ] ≡ Ok machine → (c : Core) × (r ≡ Ok c) × (machine ≡ new_machine m c)
core_behind m (Ok c) machine e = let same : new_machine m c ≡ machine = cc in (c, refl, sym same)
core_behind m (Err end) machine e = absurd cc

end_behind : (m : Module) (r : Result Core End) (end : End) → elim r as (λ _. Result Machine End) [ Ok c ↦ Ok (new_machine m c) | Err other ↦ Err other ] ≡ Err end → r ≡ Err end
end_behind m (Ok c) end e = absurd cc
end_behind m (Err other) end e = let same : other ≡ end = cc in ap (λ (x : End). Err x) same

pub run_answered : RunsArePlayed → (p : Program) (found : OpenedMachine) (old : Answering) (new : Machine) (answer : Result End RunFault) (before after : Outside) → found ≡ Ready old → IsOpened found p.code p.words → Runs p.bound answer (machine_seen old) new before after → Plays p answer before after
run_answered law p found old new answer before after is seen runs =
    let opens : opened_machine p.code p.words ≡ Ok (machine_seen old) = subst (λ (o : OpenedMachine). IsOpened o p.code p.words) is seen in
    let behind = core_behind p.code (opened (plan (p.code ∷ [])) p.words) (machine_seen old) opens in
    let fresh : (machine_seen old).answer ≡ None = ap (λ (m : Machine). m.answer) behind.2 in
    law p behind.0 new answer before after behind.1 (subst (λ (m : Machine). RunAnswers p.bound answer m new before after) behind.2 (runs.first fresh).0)

pub end_answered : EarlyEndsArePlayed → (p : Program) (found : OpenedMachine) (end : End) (outside : Outside) → found ≡ Ended end → IsOpened found p.code p.words → Plays p (Ok end) outside outside
end_answered law p found end outside is seen =
    let opens : opened_machine p.code p.words ≡ Err end = subst (λ (o : OpenedMachine). IsOpened o p.code p.words) is seen in
    law.ends p end outside (end_behind p.code (opened (plan (p.code ∷ [])) p.words) end opens)
