use Rattle.std.proofs.Common.{◌<◌, length, sym, ◌∙◌, subst}
use Rattle.type_table.specs.Types.{Types}
use Rattle.entry_verify.proofs.OnConstants.LeadsTold.{leads_on, leads_nowhere}
use Rattle.entry_verify.proofs.constants.fits.leads_to_part.Goals as goal

pub returns-in-None : goal.returns-in-None
returns-in-None c =
    sym (leads_nowhere c.args.arena.now c.args.types.now c.requires.same c.args.indices.now c.loop-index.index-index c.loop-index.ty c.index-item.result c.number_at-number.result c.loop-index-test.true c.index-item.is c.number_at-number.ensures c.in-None.ensures.part)
    ∙ c.loop-index.invariant.left

pub loop-index-preserved : goal.loop-index-preserved
loop-index-preserved c = record {
  known = subst (λ (u : Types). c.in-Some.part < length u.types) c.requires.same c.in-Some.ensures.known;
  left =
      leads_on c.args.arena.now c.args.types.now c.requires.same c.args.indices.now c.loop-index.index-index c.loop-index.ty c.in-Some.part c.index-item.result c.number_at-number.result c.loop-index-test.true c.index-item.is c.number_at-number.ensures c.in-Some.ensures.part
      ∙ c.loop-index.invariant.left;
}
