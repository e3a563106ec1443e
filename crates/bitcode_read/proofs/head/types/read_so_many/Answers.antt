use Rattle.std.proofs.Common.{◌+◌, ◌-◌, refl, sym, arith}
use Rattle.record_read.proofs.Gathering.{loop_goes, loop_ends}
use Rattle.type_read.proofs.Gathered.{starts_gathered, one_gathered, all_gathered}
use Rattle.bitcode_read.proofs.head.types.read_so_many.Goals as goal

pub places-init : goal.places-init
places-init c = (starts_gathered c.args.types _ c.args.count (c.args.count - 0) c.new-list.result.items (omega arith) c.new-list.ensures.items, omega arith)

pub places-preserved : goal.places-preserved
places-preserved c =
    let on = loop_goes c.places.place c.args.count _ (sym c.places-test.ensures) in
    (one_gathered c.args.types _ _ _ c.args.count (c.args.count - c.places.place) (c.args.count - (c.places.place + 1)) _ _ _ (omega (arith, on.0)) on.1 c.places.invariant.0 c.read_type-ty.ensures c.in_ok-push_known.ensures, omega (arith, on.0))

pub returns : goal.returns
returns c = all_gathered c.args.types _ _ c.args.count (c.args.count - c.places.place) _ _ _ c.places.invariant.0 (loop_ends c.places.place c.args.count _ (sym c.places-test.ensures)) refl c.unbroken.ensures
