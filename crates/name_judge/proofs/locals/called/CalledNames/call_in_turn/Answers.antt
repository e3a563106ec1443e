use Rattle.std.proofs.Common.{refl, sym, ◌∙◌}
use Rattle.name_judge.proofs.OnLocals.Calls.{next_called, in_turn_called}
use Rattle.name_judge.proofs.locals.called.CalledNames.call_in_turn.Goals as goal

pub returns-clause-called : goal.returns-clause-called
returns-clause-called c e = in_turn_called _ _ c.args.written.now _ (sym c.is_in_turn.ensures ∙ c.if-not-is_in_turn.false) (next_called _ _ refl refl)
