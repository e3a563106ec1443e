use Rattle.std.proofs.Common.{ap, Bool, ◌∙◌}
use Rattle.name_rules.specs.Locals.{is_alike}
use Rattle.name_judge.proofs.locals.kind_names.is_marked.Goals as goal

pub returns : goal.returns
returns c = c.is_alike.ensures ∙ ap (λ (mark : Bool). is_alike mark c.args.block) c.mark_at.ensures
