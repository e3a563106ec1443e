use Rattle.std.proofs.Common.{ap, sym, subst, ◌∙◌, arith, List, ◌++◌, map, Result, Ok, Err, append_assoc}
use Rattle.std.proofs.lemmas.Result.{err_from_is_err_and}
use Rattle.std.specs.Global.{Vec}
use Rattle.ir_phrases.specs.declared.constants.ty.Type as the_type
use Rattle.ir_phrases.specs.declared.constants.constant.TypedConstant as the_typed
use Rattle.ir_phrases.specs.Constants.Tree.{ConstantTree, constants}
use Rattle.ir_phrases.specs.Constants.View.{type_view, constant_view, typed_constant_view}
use Rattle.name_rules.specs.declared.fault.ResolveFault.{ResolveFault}
use Rattle.name_rules.specs.Demand.{Demand}
use Rattle.name_rules.specs.TypeDemands.{type_demands, constant_demands, constants_demands}
use Rattle.name_rules.specs.Written.{type_in}
use Rattle.type_judge.specs.Gathered.{known_of}
use Rattle.type_judge.specs.Judging.{IsJudged, typed_demands}
use Rattle.type_judge.proofs.Parts.{judged_front, judged_rest, leads_start, leads_next, leads_fails, leads_end}
use Rattle.type_judge.proofs.ConstantShapes.{constants_are, list_shape, address_shape, cast_shape, binary_shape}
use Rattle.type_judge.proofs.constants.+constants.Goals as goal

pub check_constant-returns-in-List : goal.check_constant-returns-in-List
check_constant-returns-in-List t c =
    let known = known_of c.args.known.now in
    let ty = type_in (type_view c.args.ty.now) in
    let shape = ap constant_view c.in-List.is ∙ list_shape c.in-List.field-0 c.in-List.field-1 c.in-List.elements in
    let all = subst (λ (es : List the_typed.TypedConstant). IsJudged (constants_demands known (constants (map typed_constant_view es))) c.check_constants.result) (c.deref-in-List.ensures.value ∙ ap (λ (v : Vec the_typed.TypedConstant). v.items) c.deref.ensures) c.check_constants.ensures in
    subst (λ (k : ConstantTree). IsJudged (constant_demands known ty k) c.check_constants.result) (sym shape) all

pub check_constant-returns-in_err-check_type-in-GetElementPtr : goal.check_constant-returns-in_err-check_type-in-GetElementPtr
check_constant-returns-in_err-check_type-in-GetElementPtr t c =
    let known = known_of c.args.known.now in
    let ty = type_in (type_view c.args.ty.now) in
    let p = err_from_is_err_and c.from_residual.result c.from_residual.ensures.1 in
    let shape = ap constant_view c.in-GetElementPtr.is ∙ address_shape c.in-GetElementPtr.field-0 c.in-GetElementPtr.field-1 c.in-GetElementPtr.source c.in-GetElementPtr.operands in
    let source = subst (λ (s : the_type.Type). IsJudged (type_demands known (type_view s)) (Err c.in_err-check_type-in-GetElementPtr.field-0.0)) c.deref-in-GetElementPtr.ensures c.in_err-check_type-in-GetElementPtr.ensures in
    subst (λ (k : ConstantTree). IsJudged (constant_demands known ty k) c.from_residual.result) (sym shape) (rw (p.1, p.2) (judged_front _ _ _ source))

pub check_constant-returns-in_ok-check_type-in-GetElementPtr : goal.check_constant-returns-in_ok-check_type-in-GetElementPtr
check_constant-returns-in_ok-check_type-in-GetElementPtr t c =
    let known = known_of c.args.known.now in
    let ty = type_in (type_view c.args.ty.now) in
    let shape = ap constant_view c.in-GetElementPtr.is ∙ address_shape c.in-GetElementPtr.field-0 c.in-GetElementPtr.field-1 c.in-GetElementPtr.source c.in-GetElementPtr.operands in
    let source = subst (λ (s : the_type.Type). IsJudged (type_demands known (type_view s)) (Ok tt)) c.deref-in-GetElementPtr.ensures c.in_ok-check_type-in-GetElementPtr.ensures in
    let all = subst (λ (es : List the_typed.TypedConstant). IsJudged (constants_demands known (constants (map typed_constant_view es))) c.check_constants-in-GetElementPtr.result) (c.deref-in-GetElementPtr-3.ensures.value ∙ ap (λ (v : Vec the_typed.TypedConstant). v.items) c.deref-in-GetElementPtr-2.ensures) c.check_constants-in-GetElementPtr.ensures in
    subst (λ (k : ConstantTree). IsJudged (constant_demands known ty k) c.check_constants-in-GetElementPtr.result) (sym shape) (judged_rest _ _ _ source all)

pub check_constants-elements-init : goal.check_constants-elements-init
check_constants-elements-init t c = rw constants_are (leads_start _)

pub check_constants-elements-preserved : goal.check_constants-elements-preserved
check_constants-elements-preserved t c = leads_next (typed_demands (known_of c.args.known.now)) typed_constant_view c.args.elements.now c.elements.element-index c.element-item.result _ (omega arith) c.element-item.is c.in_ok-check_typed_constant.ensures c.elements.invariant

pub check_constants-returns-in_err-check_typed_constant : goal.check_constants-returns-in_err-check_typed_constant
check_constants-returns-in_err-check_typed_constant t c =
    let p = err_from_is_err_and c.from_residual.result c.from_residual.ensures.1 in
    rw (p.1, p.2) (leads_fails (typed_demands (known_of c.args.known.now)) typed_constant_view c.args.elements.now c.elements.element-index c.element-item.result _ _ (omega arith) c.element-item.is c.in_err-check_typed_constant.ensures c.elements.invariant)

pub check_constants-returns : goal.check_constants-returns
check_constants-returns t c = leads_end (typed_demands (known_of c.args.known.now)) typed_constant_view c.args.elements.now c.elements.element-index _ (omega arith) c.elements.invariant

joined : (a b c : List Demand) (r : Result (Unit {0}) ResolveFault) → IsJudged ((a ++ b) ++ c) r → IsJudged (a ++ (b ++ c)) r
joined a b c r j = subst (λ (ds : List Demand). IsJudged ds r) (append_assoc a b c) j

pub check_constant-returns-in_err-check_typed_constant-in-Cast : goal.check_constant-returns-in_err-check_typed_constant-in-Cast
check_constant-returns-in_err-check_typed_constant-in-Cast t c =
    let known = known_of c.args.known.now in
    let ty = type_in (type_view c.args.ty.now) in
    let from = c.in-Cast.operand.value in
    let p = err_from_is_err_and c.from_residual-in_err-check_typed_constant-in-Cast.result c.from_residual-in_err-check_typed_constant-in-Cast.ensures.1 in
    let shape = ap constant_view c.in-Cast.is ∙ cast_shape c.in-Cast.field-0 c.in-Cast.field-1 c.in-Cast.operand c.in-Cast.to in
    let operand = subst (λ (o : the_typed.TypedConstant). IsJudged (typed_demands known (typed_constant_view o)) (Err c.in_err-check_typed_constant-in-Cast.field-0.0)) c.deref-in-Cast.ensures c.in_err-check_typed_constant-in-Cast.ensures in
    subst (λ (k : ConstantTree). IsJudged (constant_demands known ty k) c.from_residual-in_err-check_typed_constant-in-Cast.result) (sym shape)
    (rw (p.1, p.2)
    (joined (type_demands known (type_view from.ty)) (constant_demands known (type_in (type_view from.ty)) (constant_view from.value)) (type_demands known (type_view c.in-Cast.to.value)) _
    (judged_front (typed_demands known (typed_constant_view from)) (type_demands known (type_view c.in-Cast.to.value)) _ operand)))

pub check_constant-returns-in_ok-check_typed_constant-in-Cast : goal.check_constant-returns-in_ok-check_typed_constant-in-Cast
check_constant-returns-in_ok-check_typed_constant-in-Cast t c =
    let known = known_of c.args.known.now in
    let ty = type_in (type_view c.args.ty.now) in
    let from = c.in-Cast.operand.value in
    let shape = ap constant_view c.in-Cast.is ∙ cast_shape c.in-Cast.field-0 c.in-Cast.field-1 c.in-Cast.operand c.in-Cast.to in
    let operand = subst (λ (o : the_typed.TypedConstant). IsJudged (typed_demands known (typed_constant_view o)) (Ok tt)) c.deref-in-Cast.ensures c.in_ok-check_typed_constant-in-Cast.ensures in
    let to = subst (λ (s : the_type.Type). IsJudged (type_demands known (type_view s)) c.check_type-in-Cast.result) c.deref-in-Cast-2.ensures c.check_type-in-Cast.ensures in
    subst (λ (k : ConstantTree). IsJudged (constant_demands known ty k) c.check_type-in-Cast.result) (sym shape)
    (joined (type_demands known (type_view from.ty)) (constant_demands known (type_in (type_view from.ty)) (constant_view from.value)) (type_demands known (type_view c.in-Cast.to.value)) _
    (judged_rest (typed_demands known (typed_constant_view from)) (type_demands known (type_view c.in-Cast.to.value)) _ operand to))

pub check_constant-returns-in_err-check_typed_constant-in-Binary : goal.check_constant-returns-in_err-check_typed_constant-in-Binary
check_constant-returns-in_err-check_typed_constant-in-Binary t c =
    let known = known_of c.args.known.now in
    let ty = type_in (type_view c.args.ty.now) in
    let left = c.in-Binary.left.value in
    let right = typed_demands known (typed_constant_view c.in-Binary.right.value) in
    let p = err_from_is_err_and c.from_residual-in_err-check_typed_constant-in-Binary.result c.from_residual-in_err-check_typed_constant-in-Binary.ensures.1 in
    let shape = ap constant_view c.in-Binary.is ∙ binary_shape c.in-Binary.field-0 c.in-Binary.field-1 c.in-Binary.field-2 c.in-Binary.left c.in-Binary.right in
    let first = subst (λ (o : the_typed.TypedConstant). IsJudged (typed_demands known (typed_constant_view o)) (Err c.in_err-check_typed_constant-in-Binary.field-0.0)) c.deref-in-Binary.ensures c.in_err-check_typed_constant-in-Binary.ensures in
    subst (λ (k : ConstantTree). IsJudged (constant_demands known ty k) c.from_residual-in_err-check_typed_constant-in-Binary.result) (sym shape)
    (rw (p.1, p.2)
    (joined (type_demands known (type_view left.ty)) (constant_demands known (type_in (type_view left.ty)) (constant_view left.value)) right _
    (judged_front (typed_demands known (typed_constant_view left)) right _ first)))

pub check_constant-returns-in_ok-check_typed_constant-in-Binary : goal.check_constant-returns-in_ok-check_typed_constant-in-Binary
check_constant-returns-in_ok-check_typed_constant-in-Binary t c =
    let known = known_of c.args.known.now in
    let ty = type_in (type_view c.args.ty.now) in
    let left = c.in-Binary.left.value in
    let right = typed_demands known (typed_constant_view c.in-Binary.right.value) in
    let shape = ap constant_view c.in-Binary.is ∙ binary_shape c.in-Binary.field-0 c.in-Binary.field-1 c.in-Binary.field-2 c.in-Binary.left c.in-Binary.right in
    let first = subst (λ (o : the_typed.TypedConstant). IsJudged (typed_demands known (typed_constant_view o)) (Ok tt)) c.deref-in-Binary.ensures c.in_ok-check_typed_constant-in-Binary.ensures in
    let second = subst (λ (o : the_typed.TypedConstant). IsJudged (typed_demands known (typed_constant_view o)) c.check_typed_constant-in-Binary-2.result) c.deref-in-Binary-2.ensures c.check_typed_constant-in-Binary-2.ensures in
    subst (λ (k : ConstantTree). IsJudged (constant_demands known ty k) c.check_typed_constant-in-Binary-2.result) (sym shape)
    (joined (type_demands known (type_view left.ty)) (constant_demands known (type_in (type_view left.ty)) (constant_view left.value)) right _
    (judged_rest (typed_demands known (typed_constant_view left)) right _ first second))
