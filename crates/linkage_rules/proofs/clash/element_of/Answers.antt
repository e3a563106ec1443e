use Rattle.std.proofs.Common.{◌≡◌, ◌<◌, length, Some, slice_get, sym, ap, ◌∙◌, subst}
use Rattle.std.proofs.lemmas.Option.{same_Some, slice_get_within}
use Rattle.type_table.specs.Types.{tree, IsGood}
use Rattle.linkage_rules.specs.Globals.{element_of}
use Rattle.linkage_rules.proofs.ElementTypes.{element_known, element_tree}
use Rattle.linkage_rules.proofs.clash.element_of.Goals as goal

pub returns : goal.returns
returns c =
    let t = c.args.arena.now.table in
    let v = c.variable.result.now in
    let x = c.get.result.now in
    let good = subst IsGood c.types.ensures c.type_count-types.ensures.good in
    let at = subst (λ u. slice_get u.types v.ty ≡ Some x) c.types-2.ensures c.get.ensures in
    let lt = slice_get_within t.types v.ty x at in
    let there = subst (λ n. slice_get c.args.arena.now.variables n ≡ Some v) c.new.ensures c.variable.ensures in
    record {
      known = subst (λ n. n < length t.types) (sym c.element_id.ensures) (element_known t good v.ty lt x at);
      element = λ w h.
          ap (tree t) c.element_id.ensures ∙ element_tree t good v.ty lt x at ∙ ap (λ u. element_of (tree t u.ty)) (same_Some v w (sym there ∙ h));
    }
