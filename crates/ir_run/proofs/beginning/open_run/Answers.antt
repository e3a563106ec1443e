use Rattle.std.proofs.Common.{ℕ, List, Option, Some, Result, IfOk, sym, ap, ◌∙◌, subst}
use Rattle.std.specs.Option.{option_map}
use Rattle.module_arena.specs.declared.entry.GlobalId.{GlobalId}
use Rattle.module_arena.specs.Known.{HasGlobal, counts}
use Rattle.module_arena.specs.Lists.{Lists, global_name, name_at}
use Rattle.module_arena.specs.View.{module_of}
use Rattle.run_names.specs.Told.{alone}
use Rattle.run_rules.specs.declared.end.End.{End}
use Rattle.run_rules.specs.Plan.{plan}
use Rattle.run_rules.specs.State.{Core}
use Rattle.ir_run.specs.Opens.{Opens}
use Rattle.ir_run.proofs.OpenedRun.{name_is, name_missing, none_missing}
use Rattle.ir_run.proofs.beginning.open_run.Goals as goal

pub returns-in_default : goal.returns-in_default
returns-in_default c =
    let a = c.args.names.now in
    let all = sym (ap (λ (o : Option GlobalId). option_map (name_at a) o) c.in_default.is) ∙ c.in_ok-missing.ensures.first in
    subst (λ (r : Result Core End). IfOk c.open_main.result (λ run. Opens run r)) (sym (none_missing (plan (alone (module_of a))) c.args.words.now all)) c.open_main.ensures

pub name-requires : goal.name-requires
name-requires c =
    let same = c.arena-arena.ensures.arena ∙ c.program.ensures in
    subst (λ (b : Lists). HasGlobal (counts b) c.in-Some.missing) (sym same) (rw c.in-Some.is at c.in_ok-missing.ensures.known)

pub returns : goal.returns
returns c =
    let a = c.args.names.now in
    let same = c.arena-arena.ensures.arena ∙ c.program.ensures in
    let named = ap (λ (b : Lists). global_name b c.in-Some.missing) (sym same) ∙ c.name.ensures in
    let told = ap (λ (o : Option GlobalId). option_map (name_at a) o) (sym c.in-Some.is) ∙ c.in_ok-missing.ensures.first in
    let same_name = c.in_ok-unresolved.ensures ∙ sym (name_is a c.in-Some.missing c.name.result.now named) in
    name_missing (plan (alone (module_of a))) c.args.words.now c.in_ok-unresolved.unresolved (ap (λ (n : List ℕ). Some n) same_name ∙ told)
