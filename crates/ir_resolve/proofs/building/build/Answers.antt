use Rattle.std.proofs.Common.{arith}
use Rattle.ir_syntax.specs.View.{items_view}
use Rattle.ir_resolve.proofs.OnBuildsWell.Buildable.{can_build}
use Rattle.ir_resolve.proofs.building.build.Goals as goal

pub build_items-requires-clause-buildable : goal.build_items-requires-clause-buildable
build_items-requires-clause-buildable c =
    rw c.as_slice.ensures (can_build (items_view c.args.items.now) c.requires.formed c.requires.narrow c.requires.few c.requires.unbroken)

pub dependency_order-requires : goal.dependency_order-requires
dependency_order-requires c =
    let few = (can_build (items_view c.args.items.now) c.requires.formed c.requires.narrow c.requires.few c.requires.unbroken).few_structs in
    omega (arith, few)
