use Rattle.std.proofs.Common.{List, ℕ, sym, subst}
use Rattle.module_arena.specs.Valid.{Global, IsFirstOf}
use Rattle.entry_verify.specs.Types.Judged.{asks}
use Rattle.entry_verify.proofs.OnTypes.Judging.{none_failed, one_failed}
use Rattle.entry_verify.proofs.types.judged.judge_global.Goals as goal

pub returns-in_ok-own-in-Some : goal.returns-in_ok-own-in-Some
returns-in_ok-own-in-Some c =
    subst (λ (n : List ℕ). IsFirstOf (asks (Global c.args.name.now) c.args.checks.now) (Global n) c.in-Some.rule) (sym c.in_ok-own-in-Some.ensures)
    (one_failed (Global c.args.name.now) c.args.checks.now c.in-Some.rule (sym c.in-Some.ensures))

pub returns-in-None : goal.returns-in-None
returns-in-None c = none_failed (Global c.args.name.now) c.args.checks.now (sym c.in-None.ensures)
