use Rattle.run_names.proofs.OnShapes.Outlines.{shape_fits}
use Rattle.run_initial.proofs.constants.distance.before_all.Goals as goal

pub returns-clause-few : goal.returns-clause-few
returns-clause-few c = (shape_fits c.args.types.now c.type_count-count.ensures.good c.type_count-count.ensures.within c.args.ty c.requires.known).nests
