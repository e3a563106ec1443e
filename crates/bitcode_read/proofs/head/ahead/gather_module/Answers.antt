use Rattle.std.proofs.Common.{◌∷◌}
use Rattle.bit_tree.specs.Pieces.{ended}
use Rattle.record_read.specs.declared.entry.NextEntry.TheVariants.{Block, Record, End}
use Rattle.bitcode_read.proofs.OnHead.Finding.{gone}
use Rattle.bitcode_read.proofs.OnHead.Gathering.{gathers_none, gathered_record, gathered_block, gathers_all, left_fewer}
use Rattle.bitcode_read.proofs.head.ahead.gather_module.Goals as goal

pub entries-init : goal.entries-init
entries-init c = (c.requires.unspent, λ inside others before. gathers_none _ inside others _ _ c.requires.nothing before)

pub entries-preserved-in-Record : goal.entries-preserved-in-Record
entries-preserved-in-Record c =
    let next = gone c.entries.reader c.next.new.self c.in_ok-code.field-0 (Record c.in-Record.code) c.in_ok-code.ensures c.in-Record.is in (
      next.0,
      λ inside others before.
          gathered_record _ inside others c.entries.ahead c.in_ok-counts-in-Record.counts c.entries.has_types c.entries.reader _ c.in-Record.code (c.entries.invariant.1 inside others before) next.2 c.in_ok-counts-in-Record.ensures,
    )

pub entries-preserved : goal.entries-preserved
entries-preserved c =
    let next = gone c.entries.reader c.next.new.self c.in_ok-code.field-0 (Block c.in-Block.id) c.in_ok-code.ensures c.in-Block.is in
    let block = c.in_ok-has_types-in-Block.ensures in (
      block.unspent,
      λ inside others before.
          gathered_block _ inside others c.entries.ahead c.gather_block.new.ahead c.entries.has_types c.in_ok-has_types-in-Block.has_types c.entries.reader _ _ c.in-Block.id (c.entries.invariant.1 inside others before) next.2 block.gathers,
    )

pub entries-smaller : goal.entries-smaller
entries-smaller c =
    let next = gone c.entries.reader c.next.new.self c.in_ok-code.field-0 (Block c.in-Block.id) c.in_ok-code.ensures c.in-Block.is in
    let block = c.in_ok-has_types-in-Block.ensures in
    let b = c.requires.begun in
    let h = c.entries.invariant.1 b.inside b.others b.before in
    left_fewer c.entries.reader c.next.new.self c.gather_block.new.reader c.in-Block.id h.rest (ended ∷ b.others) h.before next.1 next.2 (λ held later before. (block.gathers held later before).1)

pub returns-in-End : goal.returns-in-End
returns-in-End c =
    let next = gone c.entries.reader c.next.new.self c.in_ok-code.field-0 End c.in_ok-code.ensures c.in-End.is in
    λ inside others before. gathers_all _ inside others c.entries.ahead c.entries.has_types c.entries.reader _ (c.entries.invariant.1 inside others before) next.2
