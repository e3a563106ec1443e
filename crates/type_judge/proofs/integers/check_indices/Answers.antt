use Rattle.std.proofs.Common.{List, refl, sym, subst, arith, Ok}
use Rattle.std.proofs.lemmas.List.{drop_all}
use Rattle.ir_terminals.specs.declared.values.Integer.{Integer}
use Rattle.name_rules.specs.FunctionDemands.{index_demands}
use Rattle.type_judge.specs.Judging.{IsJudged}
use Rattle.type_judge.proofs.integers.check_indices.Goals as goal

pub returns : goal.returns
returns c = c.indices.invariant.on_ (Ok tt) (subst (λ (is : List Integer). IsJudged (index_demands is) (Ok tt)) (sym (drop_all c.indices.index-index c.args.indices.now (omega arith))) (record { told = refl }))
