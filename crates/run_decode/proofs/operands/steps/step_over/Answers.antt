use Rattle.std.proofs.Common.{ap, arith}
use Rattle.run_actions.specs.Stack.Origins.{origin_of}
use Rattle.type_table.specs.declared.layout.Layout.{Layout}
use Rattle.run_names.proofs.OnShapes.Outlines.{laid_is, shape_fits}
use Rattle.run_decode.proofs.operands.steps.step_over.Goals as goal

pub returns-clause-term : goal.returns-clause-term
returns-clause-term c = λ j. record { index = origin_of c.args.index; width = c.args.width; size = ap (λ (l : Layout). l.size) c.layout_of.ensures j }

pub returns-clause-small : goal.returns-clause-small
returns-clause-small c =
    let t = c.args.types.now in
    let most = (shape_fits t c.type_count-count.ensures.good c.type_count-count.ensures.within c.args.ty c.requires.known).size_fits (laid_is t c.args.ty c.requires.laid) in
    let same = ap (λ (l : Layout). l.size) c.layout_of.ensures in
    omega (arith, most, same)
