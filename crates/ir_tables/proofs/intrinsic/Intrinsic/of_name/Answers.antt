use Rattle.std.proofs.Common.{below_more}
use Rattle.std.proofs.lemmas.Option.{slice_get-get_or}
use Rattle.ir_tables.specs.Intrinsic.{intrinsics}
use Rattle.ir_tables.proofs.IntrinsicNames.{none_of_all, none_here, one_here}
use Rattle.ir_tables.proofs.intrinsic.Intrinsic.of_name.Goals as goal

pub returns-in-Some : goal.returns-in-Some
returns-in-Some c = one_here _ c.in-Some.width c.args.name.now c.in-Some.ensures

pub loop-which-preserved : goal.loop-which-preserved
loop-which-preserved c =
    let at = slice_get-get_or intrinsics c.loop-which.which-index _ c.loop-which-test.true in
    below_more _ _ c.loop-which.invariant (none_here c.loop-which.which-index _ c.args.name.now _ c.in_default.is c.width_in.ensures at)

pub returns : goal.returns
returns c = none_of_all c.loop-which.which-index c.args.name.now c.loop-which-test.false c.loop-which.invariant
