use Rattle.std.proofs.Common.{subst}
use Rattle.link_names.specs.Shapes.Shapes.{AreApart, shapes_of}
use Rattle.link_names.proofs.OnShapes.Grown.{as_many, keys_are}
use Rattle.link_names.proofs.shapes.shape_set.ShapeSet.count.Goals as goal

pub returns-clause-shapes : goal.returns-clause-shapes
returns-clause-shapes c = as_many c.args.self.now

pub returns-clause-apart : goal.returns-clause-apart
returns-clause-apart c =
    subst (λ l. AreApart (shapes_of l)) c.self.view_is (keys_are c.self.inside.shapes.keys c.self.invariant c.len.ensures.unique).apart
