use Rattle.std.proofs.Common.{◌∙◌}
use Rattle.entry_verify.proofs.OnConstants.WholeTold.{fact_whole, own_whole}
use Rattle.entry_verify.proofs.constants.constants.fact_of.Goals as goal

pub returns : goal.returns
returns c =
    let a = c.args.arena.now in
    let k = c.args.constant.now in
    c.and.ensures
    ∙ fact_whole a k _ c.fact_within.result
    (own_whole a k _ _ _ c.own_address_passes.ensures c.own_types_suit.ensures c.operands_fit.ensures)
    c.fact_within.ensures
