use Rattle.std.proofs.Common.{[]}
use Rattle.instruction_verify.proofs.last.values.fits_here.Goals as goal

pub returns : goal.returns
returns c = c.value_fits.ensures [] []
