use Rattle.std.proofs.Common.{arith}
use Rattle.entry_verify.proofs.OnConstants.LeadsTold.{indices_told}
use Rattle.entry_verify.proofs.constants.fits.indices_fit.Goals as goal

pub returns-in-len1-up : goal.returns-in-len1-up
returns-in-len1-up c = indices_told c.args.arena.now c.args.types.now c.requires.same c.args.source _ c.args.indices.now c.are_integers-all.result c.leads_to_part-leads.result c.in-len1-up.len_at_least (omega arith) c.are_integers-all.ensures c.leads_to_part-leads.ensures
