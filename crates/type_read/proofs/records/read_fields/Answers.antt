use Rattle.std.proofs.Common.{◌+◌, ◌-◌, refl, sym, arith}
use Rattle.record_read.proofs.Gathering.{loop_goes, loop_ends}
use Rattle.type_read.proofs.Gathered.{starts_gathered, one_gathered, all_gathered}
use Rattle.type_read.proofs.records.read_fields.Goals as goal

pub fields-init : goal.fields-init
fields-init c = (starts_gathered c.args.count _ c.args.size (c.args.size - 0) c.new-fields.result.items (omega arith) c.new-fields.ensures.items, omega arith)

pub fields-preserved : goal.fields-preserved
fields-preserved c =
    let on = loop_goes c.fields.place c.args.size _ (sym c.fields-test.ensures) in
    (one_gathered c.args.count _ _ _ c.args.size (c.args.size - c.fields.place) (c.args.size - (c.fields.place + 1)) _ _ _ (omega (arith, on.0)) on.1 c.fields.invariant.0 c.read_earlier-field.ensures c.in_ok-push_known.ensures, omega (arith, on.0))

pub returns : goal.returns
returns c = all_gathered c.args.count _ _ c.args.size (c.args.size - c.fields.place) _ _ _ c.fields.invariant.0 (loop_ends c.fields.place c.args.size _ (sym c.fields-test.ensures)) refl c.unbroken.ensures
