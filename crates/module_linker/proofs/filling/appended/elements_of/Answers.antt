use Rattle.std.proofs.Common.{sym, ap, ◌∙◌}
use Rattle.std.proofs.lemmas.Option.{same_Some}
use Rattle.module_linker.specs.Filling.Elements.{elements_told}
use Rattle.module_linker.proofs.OnFilling.Joined.{told_none}
use Rattle.module_linker.proofs.filling.appended.elements_of.Goals as goal

pub returns-in-Aggregate : goal.returns-in-Aggregate
returns-in-Aggregate c = λ constant at. c.as_slice.ensures ∙ ap elements_told (sym c.in-Aggregate.is ∙ same_Some c.constant.result.now constant (sym c.constant.ensures ∙ at))

pub returns-in_default : goal.returns-in_default
returns-in_default c = λ constant at. told_none c.constant.result.now c.in_default.not-Aggregate ∙ ap elements_told (same_Some c.constant.result.now constant (sym c.constant.ensures ∙ at))
