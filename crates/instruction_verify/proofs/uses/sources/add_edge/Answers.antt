use Rattle.std.proofs.Common.{◌<◌, ℕ, List, [], ◌∷◌, length, OnOk, get_or, set, sym, subst, arith}
use Rattle.std.proofs.lemmas.List.{get_or_default}
use Rattle.std.proofs.lemmas.Result.{on_ok_weaker}
use Rattle.instruction_verify.proofs.OnUses.Edged.{Added, one_edge}
use Rattle.instruction_verify.proofs.uses.sources.add_edge.Goals as goal

pub returns-clause-edges : goal.returns-clause-edges
returns-clause-edges c =
    let sources = c.args.sources.now in
    let from = c.args.from in
    let n = c.number.result in
    let d = c.index-sources-number.result in
    let old : List ℕ = get_or sources n d in
    let lt : n < length sources = omega (arith, c.number.ensures, c.requires) in
    subst (λ (k : ℕ). OnOk c.add.result (Added from (k ∷ []) sources (set sources n c.add.new.self))) c.number.ensures
    (on_ok_weaker c.add.result
    (λ e. subst (λ (x : List ℕ). Added from (n ∷ []) sources (set sources n x)) (sym e) (λ b l. one_edge sources from n old lt (get_or_default sources n d [] lt) b))
    c.add.ensures)
