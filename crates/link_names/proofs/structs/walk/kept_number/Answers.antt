use Rattle.std.proofs.Common.{subst}
use Rattle.link_names.specs.Shapes.Shapes.{IsKnownHead, labelled, shapes_of}
use Rattle.link_names.proofs.OnShapes.Grown.{as_many}
use Rattle.link_names.proofs.OnStructs.Walking.{keeps_of}
use Rattle.link_names.proofs.structs.walk.kept_number.Goals as goal

pub keep-requires : goal.keep-requires
keep-requires c = subst (λ n. IsKnownHead n c.args.label c.args.head) (as_many c.args.shapes.now) c.requires

pub returns : goal.returns
returns c = keeps_of (shapes_of c.args.shapes.now) (shapes_of c.keep.new.self) (labelled (shapes_of c.args.shapes.now) c.args.label c.args.head) c.keep.result c.keep.ensures.adds c.keep.ensures.is
