use Rattle.std.proofs.Common.{Option, refl, ap, sym, ◌∙◌, subst}
use Rattle.std.specs.Prelude.{IfSome}
use Rattle.std.specs.Option.{option_map, option_to_list}
use Rattle.instruction_verify.specs.Last.ValuesById.{IsOf, tree_of}
use Rattle.instruction_verify.specs.declared.last.local_type.LocalType.{LocalType}
use Rattle.instruction_verify.proofs.OnLast.Behind.{grows_none, grows_one, grows_told}
use Rattle.instruction_verify.proofs.last.list.add_result.Goals as goal

pub returns-in_ok-push-in-Some : goal.returns-in_ok-push-in-Some
returns-in_ok-push-in-Some c =
    let t = c.args.types.now in
    let u = c.in-Some.ty in
    let known = subst (λ (o : Option LocalType). IfSome o (IsOf t)) c.in-Some.is c.result_type.ensures.known in
    let given = ap (λ (o : Option LocalType). option_to_list (option_map (tree_of t) o)) (sym c.in-Some.is) ∙ c.result_type.ensures.ty in
    grows_told t given (grows_one t _ _ u (tree_of t u) c.in_ok-push-in-Some.ensures.items known refl)

pub returns-in-None : goal.returns-in-None
returns-in-None c =
    let t = c.args.types.now in
    grows_told t (ap (λ (o : Option LocalType). option_to_list (option_map (tree_of t) o)) (sym c.in-None.is) ∙ c.result_type.ensures.ty) (grows_none t _)
