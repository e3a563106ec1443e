use Rattle.std.proofs.Common.{sym, subst, List, map}
use Rattle.ir_phrases.specs.declared.constants.ty.Type as the_type
use Rattle.ir_phrases.specs.Constants.Tree.{types}
use Rattle.ir_phrases.specs.Constants.View.{type_view}
use Rattle.name_rules.specs.Demand.{Demand}
use Rattle.name_rules.specs.TypeDemands.{types_demands}
use Rattle.type_judge.specs.Gathered.{known_of}
use Rattle.type_judge.specs.Judging.{IsJudged}
use Rattle.type_judge.proofs.Parts.{types_are}
use Rattle.name_judge.proofs.locals.operations.check_signature.Goals as goal

pub returns-in-Some : goal.returns-in-Some
returns-in-Some c all =
    let known = known_of c.args.known.now in
    let told = subst (λ (ts : List the_type.Type). IsJudged (types_demands known (types (map type_view ts))) c.check_types.result) c.deref.ensures.value c.check_types.ensures in
    rw c.in-Some.is (subst (λ (ds : List Demand). IsJudged ds c.check_types.result) (sym (types_are known (map type_view c.in-Some.signature.parameters.items))) told)
