use Rattle.std.proofs.Common.{subst}
use Rattle.type_table.specs.Types.{Types}
use Rattle.run_rules.specs.Leaves.{slots}
use Rattle.run_names.specs.Shapes.Shapes.{shape_in}
use Rattle.run_decode.specs.Flat.Grown.{AreSlots}
use Rattle.run_decode.proofs.OnFlat.Growth.{adds_then}
use Rattle.run_decode.proofs.Meant.{load_meant}
use Rattle.run_decode.proofs.memory.put_load.Goals as goal

pub returns-clause-grows : goal.returns-clause-grows
returns-clause-grows c = adds_then c.args.pools.now c.put_slots.new.pools c.put_scalar.new.pools c.in_ok-slots.ensures.grows c.in_ok-address.ensures.grows

pub returns-clause-action : goal.returns-clause-action
returns-clause-action c = λ flags.
    let p = c.put_slots.new.pools in
    let which = subst (λ (t : Types). AreSlots p c.in_ok-slots.slots (slots (shape_in t c.args.ty))) c.types.ensures c.in_ok-slots.ensures.slots in
    load_meant c.args.scope.now p c.put_scalar.new.pools c.in_ok-address.ensures.grows flags c.args.to c.to.result c.align_of.result c.args.ty c.args.address c.args.alignment c.in_ok-slots.slots c.in_ok-address.address c.to.ensures c.align_of.ensures which
    c.in_ok-address.ensures.leaf
