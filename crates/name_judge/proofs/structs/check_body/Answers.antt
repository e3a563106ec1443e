use Rattle.std.proofs.Common.{subst, [], ◌∷◌, map, Bool, Ok, Err}
use Rattle.std.proofs.lemmas.Result.{err_from_is_err_and}
use Rattle.ir_phrases.specs.Constants.Tree.{types}
use Rattle.ir_phrases.specs.Constants.View.{type_view}
use Rattle.ir_syntax.specs.View.{body_view}
use Rattle.name_rules.specs.Demand.{is_small}
use Rattle.name_rules.specs.TypeDemands.{have_past}
use Rattle.type_judge.specs.Gathered.{known_of}
use Rattle.type_judge.specs.Judging.{IsJudged}
use Rattle.type_judge.proofs.Parts.{judged_next, judged_stop}
use Rattle.name_judge.proofs.Bodies.{body_judged}
use Rattle.name_judge.proofs.structs.check_body.Goals as goal

pub returns-in_err-check_ends : goal.returns-in_err-check_ends
returns-in_err-check_ends c =
    let known = known_of c.args.known.now in
    let name = c.args.name.now in
    let measure = c.in_ok-measure.ensures in
    let fields = c.fields_of-fields.ensures known in
    let p = err_from_is_err_and c.from_residual-in_err-check_ends.result c.from_residual-in_err-check_ends.ensures.1 in
    body_judged known name (body_view c.args.body.now) c.in_ok-measure.measure (types (map type_view c.fields_of-fields.result.now)) _ measure fields
    (rw (p.1, p.2) (judged_next _ _ _ c.in_ok-check_nesting.ensures (judged_stop _ _ _ (c.in_err-check_ends.ensures known c.requires.structs measure))))

pub returns-in_err-check_size : goal.returns-in_err-check_size
returns-in_err-check_size c =
    let known = known_of c.args.known.now in
    let name = c.args.name.now in
    let measure = c.in_ok-measure.ensures in
    let fields = c.fields_of-fields.ensures known in
    let p = err_from_is_err_and c.from_residual-in_err-check_size.result c.from_residual-in_err-check_size.ensures.1 in
    let size = subst (λ (b : Bool). IsJudged (is_small name.place b (have_past known (types (map type_view c.fields_of-fields.result.now))) ∷ []) (Err c.in_err-check_size.field-0.0)) c.is_large.ensures c.in_err-check_size.ensures in
    body_judged known name (body_view c.args.body.now) c.in_ok-measure.measure (types (map type_view c.fields_of-fields.result.now)) _ measure fields
    (rw (p.1, p.2) (judged_next _ _ _ c.in_ok-check_nesting.ensures (judged_next _ _ _ (c.in_ok-check_ends.ensures known c.requires.structs measure) (judged_stop _ _ _ size))))

pub returns : goal.returns
returns c =
    let known = known_of c.args.known.now in
    let name = c.args.name.now in
    let measure = c.in_ok-measure.ensures in
    let fields = c.fields_of-fields.ensures known in
    let size = subst (λ (b : Bool). IsJudged (is_small name.place b (have_past known (types (map type_view c.fields_of-fields.result.now))) ∷ []) (Ok tt)) c.is_large.ensures c.in_ok-check_size.ensures in
    body_judged known name (body_view c.args.body.now) c.in_ok-measure.measure (types (map type_view c.fields_of-fields.result.now)) _ measure fields
    (judged_next _ _ _ c.in_ok-check_nesting.ensures (judged_next _ _ _ (c.in_ok-check_ends.ensures known c.requires.structs measure) (judged_next _ _ _ size c.check_types.ensures)))
