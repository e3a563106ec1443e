use Rattle.std.proofs.Common.{◌≡◌, ap, sym, ◌∙◌, subst, rules}
use Rattle.ir_phrases.specs.declared.constants.constant.Constant.TheFolds.{the_lemmas}
use Rattle.ir_phrases.specs.Constants.Tree.{ConstantTree, AddressConstant}
use Rattle.ir_phrases.specs.Constants.View.{constant_view, type_view}
use Rattle.name_rules.specs.TypeDemands.{constant_demands, has_name}
use Rattle.name_rules.specs.Written.{type_in}
use Rattle.type_judge.specs.Gathered.{known_of}
use Rattle.name_judge.specs.Locals.Literals.{Hold}
use Rattle.name_judge.proofs.OnLocals.Steps.{asked}
use Rattle.name_judge.proofs.locals.passing.constant_passes.Goals as goal

pub returns-in-Global : goal.returns-in-Global
returns-in-Global c e =
    let known = known_of c.args.known.now in
    let is : constant_view c.args.constant.now ≡ AddressConstant c.in-Global.name = search (rules, the_lemmas) in
    subst (λ (x : ConstantTree). Hold (constant_demands known (type_in (type_view c.args.ty.now)) x)) (sym is) (asked _ _ (ap (has_name known.globals) (sym c.bytes.ensures.bytes) ∙ sym c.has_global.ensures ∙ e))
