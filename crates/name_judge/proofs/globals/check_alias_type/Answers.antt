use Rattle.std.proofs.Common.{subst, sym, List, map}
use Rattle.std.specs.Prelude.{flat_map}
use Rattle.ir_phrases.specs.declared.constants.ty.Type as the_type
use Rattle.ir_phrases.specs.Constants.View.{type_view}
use Rattle.ir_syntax.specs.declared.item.WrittenAliasType.{WrittenAliasType}
use Rattle.ir_syntax.specs.View.{alias_type_view}
use Rattle.name_rules.specs.Breaks.{alias_type_demands}
use Rattle.name_rules.specs.Demand.{Demand}
use Rattle.name_rules.specs.TypeDemands.{type_demands}
use Rattle.type_judge.specs.Gathered.{known_of}
use Rattle.type_judge.specs.Judging.{IsJudged}
use Rattle.type_judge.proofs.Parts.{judged_rest, types_are}
use Rattle.name_judge.proofs.globals.check_alias_type.Goals as goal

pub returns-in_ok-check_type-in-Function : goal.returns-in_ok-check_type-in-Function
returns-in_ok-check_type-in-Function c =
    let known = known_of c.args.known.now in
    let r = c.check_types.result in
    let plain = subst (λ (ds : List Demand). IsJudged ds r) (sym (types_are known (map type_view c.deref.result.now))) c.check_types.ensures in
    let all = subst (λ (ts : List the_type.Type). IsJudged (flat_map (type_demands known) (map type_view ts)) r) c.deref.ensures.value plain in
    subst (λ (t : WrittenAliasType). IsJudged (alias_type_demands known (alias_type_view t)) r) (sym c.in-Function.is) (judged_rest _ _ _ c.in_ok-check_type-in-Function.ensures all)
