use Rattle.std.proofs.Common.{sym, refl}
use Rattle.record_read.proofs.Gathering.{loop_goes, loop_ends}
use Rattle.body_read.proofs.OnNames.Running.{none_yet, more_names, all_names}
use Rattle.body_read.proofs.names.names.read_names.Goals as goal

pub names-init : goal.names-init
names-init c = none_yet c.args.texts.now c.args.reader.now c.args.names.now _ c.args.count refl

pub names-preserved-in_ok-is_new : goal.names-preserved-in_ok-is_new
names-preserved-in_ok-is_new c =
    let on = loop_goes c.names.place c.args.count _ (sym c.names-test.ensures) in
    more_names c.args.texts.now c.args.reader.now c.names.reader _ c.args.names.now c.names.names _ c.args.count c.names.place c.names.all_new c.in_ok-is_new.is_new c.in_ok-name.name c.names.invariant _ c.as_ref.ensures.value on.0 on.1
    c.in_ok-name.ensures c.in_ok-is_new.ensures _ c.both-all_new.ensures

pub names-preserved-in_ok-is_new-2 : goal.names-preserved-in_ok-is_new-2
names-preserved-in_ok-is_new-2 c =
    let on = loop_goes c.names.place c.args.count _ (sym c.names-test.ensures) in
    more_names c.args.texts.now c.args.reader.now c.names.reader _ c.args.names.now c.names.names _ c.args.count c.names.place c.names.all_new c.in_ok-is_new.is_new c.in_ok-name.name c.names.invariant _ c.as_ref.ensures.value on.0 on.1
    c.in_ok-name.ensures c.in_ok-is_new.ensures _ c.both-all_new.ensures

pub names-preserved : goal.names-preserved
names-preserved c =
    let on = loop_goes c.names.place c.args.count _ (sym c.names-test.ensures) in
    more_names c.args.texts.now c.args.reader.now c.names.reader _ c.args.names.now c.names.names _ c.args.count c.names.place c.names.all_new c.in_ok-is_new.is_new c.in_ok-name.name c.names.invariant _ c.as_ref.ensures.value on.0 on.1
    c.in_ok-name.ensures c.in_ok-is_new.ensures _ c.both-all_new.ensures

pub returns : goal.returns
returns c = all_names c.args.texts.now c.args.reader.now c.names.reader c.args.names.now c.names.names c.args.count c.names.place c.names.all_new c.names.invariant (loop_ends c.names.place c.args.count _ (sym c.names-test.ensures))
