use Rattle.std.proofs.Common.{subst, sym, ◌∙◌, List, ℕ, get_or}
use Rattle.type_judge.proofs.OnOrder.Placed.{mentioned_at}
use Rattle.type_judge.specs.Ends.Reach.{AreAbove}
use Rattle.type_judge.proofs.ends.ranks.leads_up.Goals as goal

pub returns : goal.returns
returns c up =
    let ranks = c.args.ranks.now in
    let at = mentioned_at c.args.mentions.now c.args.number c.index-mentions-number.result c.requires c.index-mentions-number.is in
    let low = subst (λ (low : ℕ). AreAbove ranks low c.deref.result.now) c.rank_at.ensures (c.are_above.ensures up) in
    subst (λ (ns : List ℕ). AreAbove ranks (get_or ranks c.args.number 0) ns) (c.deref.ensures.value ∙ sym at) low
