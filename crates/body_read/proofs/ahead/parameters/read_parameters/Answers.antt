use Rattle.std.proofs.Common.{◌∙◌, Some, sym, subst}
use Rattle.record_table.specs.Bodies.{parameters}
use Rattle.record_table.specs.Fields.{label}
use Rattle.record_table.specs.Layout.{judged}
use Rattle.record_read.specs.Fields.{IsLocal, texts_of}
use Rattle.record_read.specs.Reader.{ReadsAs}
use Rattle.record_read.proofs.Gathering.{loop_goes, loop_ends}
use Rattle.body_read.specs.Ahead.Ahead.{AreNamesOf}
use Rattle.body_read.proofs.OnAhead.Naming.{none_named, one_named, none_kept, all_kept}
use Rattle.body_read.proofs.ahead.parameters.read_parameters.Goals as goal

pub names-init : goal.names-init
names-init c = none_named c.args.texts.now c.args.reader.now c.args.count _ c.new-names.ensures.items

pub names-preserved : goal.names-preserved
names-preserved c =
    let on = loop_goes c.names.place c.args.count _ (sym c.names-test.ensures) in
    one_named c.args.texts.now c.args.reader.now c.names.reader _ c.args.count c.names.place c.names.own _ c.names.names.items _ c.in-Some.name c.names.invariant on.0 on.1
    (subst (λ n. ReadsAs IsLocal (label (texts_of c.args.texts.now) c.names.own) c.names.reader c.read_label.new.reader n) c.in-Some.is c.in_ok-label.ensures) c.in_ok-own-in-Some.ensures c.in_ok-push-in-Some.ensures.items

pub returns-in-None-clause-names : goal.returns-in-None-clause-names
returns-in-None-clause-names c = λ operands front.
    let on = loop_goes c.names.place c.args.count _ (sym c.names-test.ensures) in
    none_kept c.args.texts.now c.args.reader.now c.names.reader _ c.args.count c.names.place c.names.own c.names.names.items operands c.names.invariant on.0 on.1
    (subst (λ n. ReadsAs IsLocal (label (texts_of c.args.texts.now) c.names.own) c.names.reader c.read_label.new.reader n) c.in-None.is c.in_ok-label.ensures) front

pub returns-then-is_some-clause-names : goal.returns-then-is_some-clause-names
returns-then-is_some-clause-names c = λ operands front.
    (all_kept c.args.texts.now c.args.reader.now c.names.reader c.args.count c.names.place c.names.own c.names.names.items operands c.told.result c.names.invariant (loop_ends c.names.place c.args.count _ (sym c.names-test.ensures)) c.told.ensures.told front).0 (sym c.is_some.ensures ∙ c.if-is_some.true)

pub returns-clause-names : goal.returns-clause-names
returns-clause-names c = λ operands front.
    subst (λ ns. AreNamesOf (Some ns) (judged (parameters (texts_of c.args.texts.now) c.args.count) operands)) (sym c.from_vec.ensures)
    ((all_kept c.args.texts.now c.args.reader.now c.names.reader c.args.count c.names.place c.names.own c.names.names.items operands c.told.result c.names.invariant (loop_ends c.names.place c.args.count _ (sym c.names-test.ensures)) c.told.ensures.told front).1 (sym c.is_some.ensures ∙ c.if-is_some.false))
