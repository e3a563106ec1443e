use Rattle.std.proofs.Common.{◌≡◌, sym, ◌∙◌, true, false}
use Rattle.std.proofs.lemmas.Result.{on_ok_weaker}
use Rattle.ir_syntax.specs.View.{item_view}
use Rattle.name_judge.proofs.DistinctNames.{none_earlier}
use Rattle.name_judge.proofs.earlier.earlier_global.Goals as goal

pub returns-then-distinct-clause-earlier : goal.returns-then-distinct-clause-earlier
returns-then-distinct-clause-earlier c before rest are told = none_earlier before (item_view c.args.item.now) rest (told c.if-distinct.true)

pub returns-then-distinct-clause-kept : goal.returns-then-distinct-clause-kept
returns-then-distinct-clause-kept c before are = record { each = λ e. let both : true ≡ false = sym c.if-distinct.true ∙ e in absurd cc }

pub returns-clause-earlier : goal.returns-clause-earlier
returns-clause-earlier c before rest are told = c.first_of_item.ensures.earlier before (are.each c.if-distinct.false)

pub returns-clause-kept : goal.returns-clause-kept
returns-clause-kept c before are = on_ok_weaker c.first_of_item.result (λ new. record { each = λ e. new }) (c.first_of_item.ensures.kept before (are.each c.if-distinct.false))
