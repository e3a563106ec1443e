use Rattle.std.proofs.Common.{refl, ◌∙◌}
use Rattle.record_read.specs.declared.entry.NextEntry.TheVariants.{Block, Record, End}
use Rattle.body_read.proofs.OnAhead.Gathering.{gone, gathers_none, passed, gathered_one, gathers_all}
use Rattle.body_read.proofs.ahead.ahead.gather_body.Goals as goal

pub records-init : goal.records-init
records-init c = (c.requires, λ inside others before. gathers_none _ c.args.parameters c.args.voids.now inside others _ c.args.reader.now refl refl refl before)

-- behind a record
pub records-preserved-in-Record : goal.records-preserved-in-Record
records-preserved-in-Record c =
    let next = gone c.records.reader c.next.new.self c.in_ok-code.field-0 (Record c.in-Record.code) c.in_ok-code.ensures c.in-Record.is in
    let one = c.in_ok-gather_record-in-Record.ensures in (
      one.spent ∙ next.0,
      λ inside others before. gathered_one _ c.args.parameters c.args.voids.now inside others _ _ _ c.records.reader _ _ c.in-Record.code (c.records.invariant.1 inside others before) next.2 one.gathers one.left,
    )

-- behind a block that was passed over
pub records-preserved : goal.records-preserved
records-preserved c =
    let next = gone c.records.reader c.next.new.self c.in_ok-code.field-0 (Block c.in-Block.field-0) c.in_ok-code.ensures c.in-Block.is in
    let over = c.in_ok-pass_block-in-Block.ensures in (
      over.0,
      λ inside others before. passed _ c.args.parameters c.args.voids.now inside others _ _ c.records.reader _ _ c.in-Block.field-0 (c.records.invariant.1 inside others before) next.2 over.3,
    )

pub returns-in-End-clause-ahead : goal.returns-in-End-clause-ahead
returns-in-End-clause-ahead c =
    let next = gone c.records.reader c.next.new.self c.in_ok-code.field-0 End c.in_ok-code.ensures c.in-End.is in
    λ inside others before. gathers_all _ c.args.parameters c.args.voids.now inside others _ _ c.records.reader _ (c.records.invariant.1 inside others before) next.2
