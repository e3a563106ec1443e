use Rattle.record_read.specs.declared.entry.NextEntry.TheVariants.{Block, Record, End}
use Rattle.bitcode_read.proofs.OnHead.Finding.{gone, sought_all, sought_block, sought_record, found_here, found_none}
use Rattle.bitcode_read.proofs.head.ahead.find_module.Goals as goal

pub entries-init : goal.entries-init
entries-init c = (c.requires, λ all before. sought_all all c.args.reader.now before)

pub returns-then-id-eq-MODULE_BLOCK-clause-finds : goal.returns-then-id-eq-MODULE_BLOCK-clause-finds
returns-then-id-eq-MODULE_BLOCK-clause-finds c =
    let next = gone c.entries.reader c.next.new.self c.in_ok-id.field-0 (Block c.in-Block.id) c.in_ok-id.ensures c.in-Block.is in
    λ all before. found_here all c.entries.reader _ c.in-Block.id (c.entries.invariant.1 all before) next.2 c.if-id-eq-MODULE_BLOCK.true

pub entries-preserved-in-Continue-branch-3 : goal.entries-preserved-in-Continue-branch-3
entries-preserved-in-Continue-branch-3 c =
    let next = gone c.entries.reader c.next.new.self c.in_ok-id.field-0 (Block c.in-Block.id) c.in_ok-id.ensures c.in-Block.is in
    let over = c.in_ok-pass_block-in-Block.ensures in (
      over.0,
      λ all before. sought_block all c.entries.reader _ _ c.in-Block.id (c.entries.invariant.1 all before) next.2 c.if-id-eq-MODULE_BLOCK.false over.3,
    )

pub entries-preserved : goal.entries-preserved
entries-preserved c =
    let next = gone c.entries.reader c.next.new.self c.in_ok-id.field-0 (Record c.in-Record.field-0) c.in_ok-id.ensures c.in-Record.is in (
      next.0,
      λ all before. sought_record all c.entries.reader _ c.in-Record.field-0 (c.entries.invariant.1 all before) next.2,
    )

pub returns-in-End-clause-finds : goal.returns-in-End-clause-finds
returns-in-End-clause-finds c =
    let next = gone c.entries.reader c.next.new.self c.in_ok-id.field-0 End c.in_ok-id.ensures c.in-End.is in
    λ all before. found_none all c.entries.reader _ (c.entries.invariant.1 all before) next.2
