use Rattle.std.proofs.Common.{◌≡◌, length, slice_get, Some, arith}
use Rattle.std.proofs.lemmas.List.{length-map}
use Rattle.type_table.specs.Types.{names}
use Rattle.record_write.proofs.OnOrder.Gaining.{gains_none, gains_name, gains_names}
use Rattle.record_write.proofs.order.gathered.add_structs.Goals as goal

pub loop-number-init : goal.loop-number-init
loop-number-init c = gains_none c.args.table.now

pub loop-number-preserved : goal.loop-number-preserved
loop-number-preserved c =
    let at : slice_get (names c.args.types.now) c.loop-number.number ≡ Some c.struct_name.result.now = cc in
    let is : c.bytes.result.now ≡ c.struct_name.result.now = cc in
    gains_name (names c.args.types.now) c.loop-number.number c.struct_name.result.now c.bytes.result.now at is c.loop-number.invariant c.in_ok-add.ensures

pub returns : goal.returns
returns c =
    let many : length (names c.args.types.now) ≡ length c.args.types.now.structs = length-map c.args.types.now.structs (λ s. s.0) in
    gains_names (names c.args.types.now) c.loop-number.number (omega (arith, many)) c.loop-number.invariant
