use Rattle.std.proofs.Common.{◌≡◌, sym, subst, rules}
use Rattle.ir_phrases.specs.declared.constants.constant.Constant.TheFolds.{the_lemmas}
use Rattle.ir_phrases.specs.Constants.Tree.{ConstantTree, IntegerConstant}
use Rattle.ir_phrases.specs.Constants.View.{constant_view, type_view}
use Rattle.name_rules.specs.TypeDemands.{constant_demands}
use Rattle.name_rules.specs.Written.{type_in}
use Rattle.name_judge.specs.Locals.Literals.{Hold}
use Rattle.name_judge.proofs.OnLocals.Steps.{asked}
use Rattle.name_judge.proofs.locals.literals.is_literal.Goals as goal

pub returns-in-Integer : goal.returns-in-Integer
returns-in-Integer c known e =
    let is : constant_view c.args.constant.now ≡ IntegerConstant (record { negative = c.in-Integer.negative; magnitude = c.in-Integer.magnitude; place = c.in-Integer.field-1 }) = search (rules, the_lemmas) in
    subst (λ (x : ConstantTree). Hold (constant_demands known (type_in (type_view c.args.ty.now)) x)) (sym is) (asked _ _ (c.is_short_at.ensures e))
