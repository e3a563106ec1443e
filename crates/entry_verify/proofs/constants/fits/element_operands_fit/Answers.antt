use Rattle.std.proofs.Common.{arith}
use Rattle.entry_verify.proofs.OnConstants.LeadsTold.{operands_told}
use Rattle.entry_verify.proofs.constants.fits.element_operands_fit.Goals as goal

pub returns-in-len1-up : goal.returns-in-len1-up
returns-in-len1-up c = operands_told c.args.arena.now c.args.types.now c.requires.same c.args.source _ c.args.operands.now c.base-item.result c.is_pointer.result c.indices_fit-steps.result c.in-len1-up.len_at_least (omega arith) c.base-item.is c.is_pointer.ensures c.indices_fit-steps.ensures
