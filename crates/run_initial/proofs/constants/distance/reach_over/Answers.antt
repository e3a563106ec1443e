use Rattle.std.proofs.Common.{◌∙◌, ap, arith}
use Rattle.run_rules.specs.Displace as rules
use Rattle.type_table.specs.declared.layout.Layout.{Layout}
use Rattle.run_names.proofs.OnShapes.Outlines.{laid_is, shape_fits}
use Rattle.run_initial.proofs.constants.distance.reach_over.Goals as goal

pub layout_of-requires : goal.layout_of-requires
layout_of-requires c = record { known = c.requires.place.0; laid = c.requires.place.1 }

pub reach-requires-clause-size : goal.reach-requires-clause-size
reach-requires-clause-size c =
    let t = c.args.types.now in
    let most = (shape_fits t c.type_count-count.ensures.good c.type_count-count.ensures.within c.args.ty c.requires.place.0).size_fits (laid_is t c.args.ty c.requires.place.1) in
    let same = ap (λ (l : Layout). l.size) c.layout_of.ensures in
    omega (arith, most, same)

pub returns-clause-value : goal.returns-clause-value
returns-clause-value c = c.reach.ensures.value ∙ ap (λ (l : Layout). rules.reach c.args.index c.args.width l.size) c.layout_of.ensures
