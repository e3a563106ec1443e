use Rattle.std.proofs.Common.{◌≡◌, ◌∷◌, List, length, refl, ap, subst, ◌∙◌, arith}
use Rattle.bit_tree.specs.Pieces.{Piece, ended}
use Rattle.record_table.specs.Faults.{Records}
use Rattle.record_read.specs.Entries.{IsBefore}
use Rattle.record_read.specs.Fields.{texts_of}
use Rattle.record_read.specs.declared.entry.NextEntry.TheVariants.{Block, Record, End}
use Rattle.bitcode_read.proofs.OnHead.Finding.{gone}
use Rattle.bitcode_read.proofs.OnHead.Gathering.{left_fewer}
use Rattle.bitcode_read.specs.Ahead.Bodies.{AddsIfBody}
use Rattle.bitcode_read.proofs.OnAhead.Due.{gathers_none, gathered_record, gathered_block, gathers_all}
use Rattle.bitcode_read.proofs.OnAhead.Counting.{counted_block, counted_record, counts_all, counts_none}
use Rattle.bitcode_read.proofs.ahead.bodies.gather_bodies.Goals as goal

pub entries-init : goal.entries-init
entries-init c = (
  c.requires.unspent,
  λ inside others before. gathers_none _ c.args.types c.args.voids.now inside others _ _ _ c.new-due.ensures.items c.new-bodies.ensures.items before,
  λ inside others before. counts_none inside others 0 _ refl before,
)

pub entries-preserved-in-Continue-branch-3 : goal.entries-preserved-in-Continue-branch-3
entries-preserved-in-Continue-branch-3 c =
    let next = gone c.entries.reader c.next.new.self c.in_ok-code.field-0 (Record c.in-Record.code) c.in_ok-code.ensures c.in-Record.is in
    let one = c.in_ok-gather_record-in-Record.ensures in (
      one.spent ∙ next.0,
      λ inside others before.
          gathered_record _ c.args.types c.args.voids.now inside others c.entries.due.items c.entries.bodies.items c.entries.reader (c.entries.invariant.1 inside others before) _ c.next.new.self _ c.in-Record.code next.2 one.gathers one.left,
      λ inside others before. counted_record inside others c.entries.count c.entries.reader (c.entries.invariant.2 inside others before) _ c.next.new.self _ c.in-Record.code next.2 one.counts one.left,
    )

pub entries-preserved : goal.entries-preserved
entries-preserved c =
    let next = gone c.entries.reader c.next.new.self c.in_ok-code.field-0 (Block c.in-Block.id) c.in_ok-code.ensures c.in-Block.is in
    let block = c.in_ok-gather_block-in-Block.ensures in (
      block.unspent,
      λ inside others before.
          gathered_block _ c.args.types c.args.voids.now inside others c.entries.due.items c.entries.bodies.items c.entries.reader (c.entries.invariant.1 inside others before) _ c.next.new.self _ c.in-Block.id next.2
          (subst (λ d. (held : Records) (rest : List Piece) → IsBefore c.next.new.self.left held (ended ∷ rest)
          → AddsIfBody c.in-Block.id (texts_of c.args.texts.now) c.args.voids.now d held c.entries.bodies.items c.gather_block.new.bodies.items × (c.gather_block.new.reader.left ≡ rest))
          c.as_slice.ensures.value block.gathers),
      λ inside others before. counted_block inside others c.entries.count c.entries.reader (c.entries.invariant.2 inside others before) c.next.new.self _ c.in-Block.id next.2 (λ held later h. (block.gathers held later h).1),
    )

pub entries-smaller : goal.entries-smaller
entries-smaller c =
    let next = gone c.entries.reader c.next.new.self c.in_ok-code.field-0 (Block c.in-Block.id) c.in_ok-code.ensures c.in-Block.is in
    let block = c.in_ok-gather_block-in-Block.ensures in
    let b = c.requires.begun in
    let h = c.entries.invariant.1 b.inside b.others b.before in
    left_fewer c.entries.reader c.next.new.self c.gather_block.new.reader c.in-Block.id h.rest (ended ∷ b.others) h.before next.1 next.2 (λ held later before. (block.gathers held later before).1)

pub returns-in-End-clause-foresees : goal.returns-in-End-clause-foresees
returns-in-End-clause-foresees c =
    let next = gone c.entries.reader c.next.new.self c.in_ok-code.field-0 End c.in_ok-code.ensures c.in-End.is in
    λ inside others before k are. gathers_all _ c.args.types c.args.voids.now inside others c.entries.due.items c.entries.bodies.items c.entries.reader (c.entries.invariant.1 inside others before) _ next.2 k are

pub returns-in-End-clause-counted : goal.returns-in-End-clause-counted
returns-in-End-clause-counted c =
    let next = gone c.entries.reader c.next.new.self c.in_ok-code.field-0 End c.in_ok-code.ensures c.in-End.is in
    λ inside others before. counts_all inside others c.entries.count c.entries.reader (c.entries.invariant.2 inside others before) _ next.2

pub entries-smaller-in-Continue-branch-3 : goal.entries-smaller-in-Continue-branch-3
entries-smaller-in-Continue-branch-3 c =
    let next = gone c.entries.reader c.next.new.self c.in_ok-code.field-0 (Record c.in-Record.code) c.in_ok-code.ensures c.in-Record.is in
    let size = ap length c.in_ok-gather_record-in-Record.ensures.left in
    omega (arith, next.1, size)
