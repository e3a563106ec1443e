use Rattle.record_law.proofs.OnFits.ModulesFit.{tree_stands}
use Rattle.record_law.proofs.fits.laws.written_trees_stand.Goals as goal

pub returns : goal.returns
returns c = tree_stands
