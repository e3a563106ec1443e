use Rattle.std.proofs.Common.{◌≡◌, Some, length, slice_get, sym, subst}
use Rattle.link_names.specs.Shapes.Shapes.{AreKnownShapes, IsKnownShape, shapes_of, shape_in}
use Rattle.link_names.proofs.OnShapes.Grown.{put_at, put_known}
use Rattle.link_names.proofs.shapes.shape_set.ShapeSet.keep.Goals as goal

pub invariant_of-self : goal.invariant_of-self
invariant_of-self c = subst (AreKnownShapes 0) (sym c.in_err-number.ensures.err) c.self.invariant

pub invariant_of-self-2 : goal.invariant_of-self-2
invariant_of-self-2 c =
    put_known c.self.inside.shapes.keys c.insert_full.new.self.keys c.args.shape c.in_ok-number.ensures.keys c.self.invariant
    (subst (λ l. IsKnownShape (length l) c.args.shape) (sym c.self.view_is) c.requires)

pub returns-clause-is : goal.returns-clause-is
returns-clause-is c =
    let stored = c.in_ok-number.ensures.stored in
    let now = c.insert_full.new.self.keys in
    subst (λ l. slice_get (shapes_of now) c.in_ok-number.number ≡ Some (shape_in (shapes_of l) c.args.shape)) c.self.view_is
    (put_at c.self.inside.shapes.keys now c.args.shape c.in_ok-number.ensures.keys c.self.invariant (subst (λ l. IsKnownShape (length l) c.args.shape) (sym c.self.view_is) c.requires)
    c.in_ok-number.ensures.unique c.in_ok-number.number stored.0 stored.1 stored.2)
