use Rattle.std.proofs.Common.{sym}
use Rattle.module_arena.specs.Valid.{TheModule}
use Rattle.entry_verify.proofs.OnTypes.Judging.{none_failed, one_failed}
use Rattle.entry_verify.proofs.types.judged.judge_module.Goals as goal

pub returns-in-Some : goal.returns-in-Some
returns-in-Some c = one_failed TheModule c.args.checks.now c.in-Some.rule (sym c.in-Some.ensures)

pub returns-in-None : goal.returns-in-None
returns-in-None c = none_failed TheModule c.args.checks.now (sym c.in-None.ensures)
