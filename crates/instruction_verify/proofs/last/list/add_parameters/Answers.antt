use Rattle.std.proofs.Common.{◌≡◌, ◌<◌, List, Some, length, map, slice_get, refl, sym, ap, ◌∙◌, subst, arith}
use Rattle.std.proofs.lemmas.List.{take_all}
use Rattle.std.proofs.lemmas.Option.{slice_get-get_or}
use Rattle.type_table.specs.Types.{tree}
use Rattle.entry_verify.proofs.OnConstants.WholeTold.{mapped_next}
use Rattle.module_arena.specs.declared.entry.Parameter.{Parameter}
use Rattle.instruction_verify.specs.declared.last.local_type.LocalType.TheVariants as written
use Rattle.instruction_verify.proofs.OnLast.Behind.{grows_both, grows_none, grows_one, grows_told}
use Rattle.instruction_verify.proofs.last.list.add_parameters.Goals as goal

pub parameters-init : goal.parameters-init
parameters-init c = grows_none c.args.types.now _

pub parameters-preserved : goal.parameters-preserved
parameters-preserved c =
    let t = c.args.types.now in
    let p = c.parameter-item.result in
    let i = c.parameters.parameter-index in
    let ps = c.args.parameters.now in
    let at : slice_get ps i ≡ Some p = slice_get-get_or ps i p (omega arith) ∙ ap Some (sym c.parameter-item.is) in
    let known = subst (λ (q : Parameter). q.ty < length t.types) (sym c.parameter-item.is) (c.requires i p (omega arith)) in
    grows_told t (mapped_next (λ (q : Parameter). Some (tree t q.ty)) ps i p at)
    (grows_both t c.parameters.invariant (grows_one t _ _ (written.Written p.ty) (Some (tree t p.ty)) c.in_ok-push.ensures.items known refl))

pub returns : goal.returns
returns c =
    let t = c.args.types.now in
    grows_told t (ap (λ (qs : List Parameter). map (λ (q : Parameter). Some (tree t q.ty)) qs) (take_all c.parameters.parameter-index c.args.parameters.now (omega arith))) c.parameters.invariant
