use Rattle.record_law.proofs.OnFits.ModulesFit.{module_fits}
use Rattle.record_law.proofs.fits.laws.modules_fit.Goals as goal

pub returns : goal.returns
returns c = module_fits
