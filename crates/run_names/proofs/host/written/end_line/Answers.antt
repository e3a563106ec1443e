use Rattle.std.proofs.Common.{[], ◌∷◌, ◌++◌, Ok, sym, ap, ◌∙◌, append_assoc}
use Rattle.run_rules.specs.Answer.{Gives}
use Rattle.run_rules.specs.Host.{puts_line}
use Rattle.run_names.proofs.OnHost.Refusals.{writes_none}
use Rattle.run_names.proofs.host.written.end_line.Goals as goal

pub returns : goal.returns
returns c = λ m before bytes e. (
  bytes ++ 10 ∷ [],
  ap (λ l. Gives l m (bytes ++ 10 ∷ [])) (sym c.one_leaf.ensures),
  c.in_ok-push.ensures.items ∙ ap (λ l. l ++ 10 ∷ []) e ∙ append_assoc before bytes (10 ∷ []),
)

pub returns-in_err-push : goal.returns-in_err-push
returns-in_err-push c = λ m before bytes e. writes_none (puts_line m (Ok bytes)) m before c.push.new.self.items c.from_residual.result c.from_residual.ensures.0
