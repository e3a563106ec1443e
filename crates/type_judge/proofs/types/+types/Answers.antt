use Rattle.std.proofs.Common.{arith, ◌≡◌, ap, ◌∙◌, subst, List, [], ◌∷◌, map, Ok, Err}
use Rattle.std.proofs.lemmas.Result.{err_from_is_err_and}
use Rattle.std.specs.Global.{Vec}
use Rattle.ir_phrases.specs.declared.constants.ty.Type as the_type
use Rattle.ir_phrases.specs.declared.constants.ty.ArrayType as the_array
use Rattle.ir_phrases.specs.Constants.Tree.{ArrayType, StructType, types}
use Rattle.ir_phrases.specs.Constants.View.{type_view}
use Rattle.name_rules.specs.Demand.{is_small, is_length}
use Rattle.type_judge.specs.Judging.{IsJudged}
use Rattle.name_rules.specs.TypeDemands.{type_demands, is_past, has_past, have_past}
use Rattle.type_judge.specs.Gathered.{known_of}
use Rattle.type_judge.proofs.Parts.{types_are, leads_start, leads_next, leads_fails, leads_end, judged_next, judged_stop, array_judged, struct_judged}
use Rattle.type_judge.proofs.Shapes.{array_shape, struct_shape}
use Rattle.type_judge.proofs.types.+types.Goals as goal

pub check_types-fields-init : goal.check_types-fields-init
check_types-fields-init t c = rw types_are (leads_start _)

pub check_types-fields-preserved : goal.check_types-fields-preserved
check_types-fields-preserved t c = leads_next (type_demands (known_of c.args.known.now)) type_view c.args.fields.now c.fields.field-index c.field-item.result _ (omega arith) c.field-item.is c.in_ok-check_whole_type.ensures c.fields.invariant

pub check_types-returns-in_err-check_whole_type : goal.check_types-returns-in_err-check_whole_type
check_types-returns-in_err-check_whole_type t c =
    let p = err_from_is_err_and c.from_residual.result c.from_residual.ensures.1 in
    rw (p.1, p.2) (leads_fails (type_demands (known_of c.args.known.now)) type_view c.args.fields.now c.fields.field-index c.field-item.result _ _ (omega arith) c.field-item.is c.in_err-check_whole_type.ensures c.fields.invariant)

pub check_types-returns : goal.check_types-returns
check_types-returns t c = leads_end (type_demands (known_of c.args.known.now)) type_view c.args.fields.now c.fields.field-index _ (omega arith) c.fields.invariant

pub check_whole_type-returns-in_err-check_array_size-in-Array : goal.check_whole_type-returns-in_err-check_array_size-in-Array
check_whole_type-returns-in_err-check_array_size-in-Array t c =
    let known = known_of c.args.known.now in
    let ty = type_view c.args.ty.now in
    let array = c.in-Array.array.value in
    let shape : ty ≡ ArrayType c.in-Array.place array.count (type_view array.element) = ap type_view c.in-Array.is ∙ array_shape c.in-Array.place c.in-Array.array in
    let p = err_from_is_err_and c.from_residual-in_err-check_array_size-in-Array.result c.from_residual-in_err-check_array_size-in-Array.ensures.1 in
    let size = subst (λ (a : the_array.ArrayType). IsJudged (is_small c.in-Array.place (is_past known ty) (has_past known (type_view a.element)) ∷ []) (Err c.in_err-check_array_size-in-Array.field-0.0)) c.deref.ensures c.in_err-check_array_size-in-Array.ensures in
    array_judged known ty c.in-Array.place array.count (type_view array.element) c.measure_of.result shape c.measure_of.ensures _
    (rw (p.1, p.2) (judged_next _ _ _ c.in_ok-check_nesting-in-Array.ensures (judged_stop _ _ _ size)))

pub check_whole_type-returns-in_err-check_length-in-Array : goal.check_whole_type-returns-in_err-check_length-in-Array
check_whole_type-returns-in_err-check_length-in-Array t c =
    let known = known_of c.args.known.now in
    let ty = type_view c.args.ty.now in
    let array = c.in-Array.array.value in
    let shape : ty ≡ ArrayType c.in-Array.place array.count (type_view array.element) = ap type_view c.in-Array.is ∙ array_shape c.in-Array.place c.in-Array.array in
    let p = err_from_is_err_and c.from_residual-in_err-check_length-in-Array.result c.from_residual-in_err-check_length-in-Array.ensures.1 in
    let size = subst (λ (a : the_array.ArrayType). IsJudged (is_small c.in-Array.place (is_past known ty) (has_past known (type_view a.element)) ∷ []) (Ok tt)) c.deref.ensures c.in_ok-check_array_size-in-Array.ensures in
    let long = subst (λ (a : the_array.ArrayType). IsJudged (is_length a.count ∷ []) (Err c.in_err-check_length-in-Array.field-0.0)) c.deref-in-Array.ensures c.in_err-check_length-in-Array.ensures in
    array_judged known ty c.in-Array.place array.count (type_view array.element) c.measure_of.result shape c.measure_of.ensures _
    (rw (p.1, p.2) (judged_next _ _ _ c.in_ok-check_nesting-in-Array.ensures (judged_next _ _ _ size (judged_stop _ _ _ long))))

pub check_whole_type-returns-in_ok-check_length-in-Array : goal.check_whole_type-returns-in_ok-check_length-in-Array
check_whole_type-returns-in_ok-check_length-in-Array t c =
    let known = known_of c.args.known.now in
    let ty = type_view c.args.ty.now in
    let array = c.in-Array.array.value in
    let shape : ty ≡ ArrayType c.in-Array.place array.count (type_view array.element) = ap type_view c.in-Array.is ∙ array_shape c.in-Array.place c.in-Array.array in
    let size = subst (λ (a : the_array.ArrayType). IsJudged (is_small c.in-Array.place (is_past known ty) (has_past known (type_view a.element)) ∷ []) (Ok tt)) c.deref.ensures c.in_ok-check_array_size-in-Array.ensures in
    let long = subst (λ (a : the_array.ArrayType). IsJudged (is_length a.count ∷ []) (Ok tt)) c.deref-in-Array.ensures c.in_ok-check_length-in-Array.ensures in
    let rest = subst (λ (a : the_array.ArrayType). IsJudged (type_demands known (type_view a.element)) c.check_whole_type.result) c.deref-in-Array-2.ensures c.check_whole_type.ensures in
    array_judged known ty c.in-Array.place array.count (type_view array.element) c.measure_of.result shape c.measure_of.ensures _
    (judged_next _ _ _ c.in_ok-check_nesting-in-Array.ensures (judged_next _ _ _ size (judged_next _ _ _ long rest)))

pub check_whole_type-returns-in_err-check_size-in-Struct : goal.check_whole_type-returns-in_err-check_size-in-Struct
check_whole_type-returns-in_err-check_size-in-Struct t c =
    let known = known_of c.args.known.now in
    let ty = type_view c.args.ty.now in
    let fields = types (map type_view c.in-Struct.fields.value.items) in
    let shape : ty ≡ StructType c.in-Struct.place c.in-Struct.field-1 fields = ap type_view c.in-Struct.is ∙ struct_shape c.in-Struct.place c.in-Struct.field-1 c.in-Struct.fields in
    let p = err_from_is_err_and c.from_residual-in_err-check_size-in-Struct.result c.from_residual-in_err-check_size-in-Struct.ensures.1 in
    let size = subst (λ (fs : List the_type.Type). IsJudged (is_small c.in-Struct.place c.is_past.result (have_past known (types (map type_view fs))) ∷ []) (Err c.in_err-check_size-in-Struct.field-0.0)) (c.deref-in-Struct-2.ensures.value ∙ ap (λ (v : Vec the_type.Type). v.items) c.deref-in-Struct.ensures) c.in_err-check_size-in-Struct.ensures in
    struct_judged known ty c.in-Struct.place c.in-Struct.field-1 fields c.measure_of-in-Struct.result c.is_past.result shape c.measure_of-in-Struct.ensures c.is_past.ensures _
    (rw (p.1, p.2) (judged_next _ _ _ c.in_ok-check_nesting-in-Struct.ensures (judged_stop _ _ _ size)))
