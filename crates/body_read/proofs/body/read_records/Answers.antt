use Rattle.std.proofs.Common.{◌<◌, length, sym, ap, subst, ◌∙◌, arith}
use Rattle.std.proofs.lemmas.Result.{err_from_is_err_and}
use Rattle.record_read.specs.declared.entry.NextEntry.TheVariants.{Block, Record, End}
use Rattle.record_read.specs.Faults.{IsMisplaced}
use Rattle.body_read.specs.Whole.{numbering_in}
use Rattle.body_read.proofs.Told.{memory_refused}
use Rattle.body_read.proofs.Reading.{block_refused, fewer, gone, keeps_given, keeps_none, keeps_on, left_after, left_ends, left_on, reading_ends, reading_starts, record_refused, step, step_counted, step_goes, step_numbers}
use Rattle.body_read.proofs.body.read_records.Goals as goal

pub records-init : goal.records-init
records-init c = (
  c.requires.unspent,
  keeps_none c.args.m.now,
  λ inside others before. record { rest = inside; before = before },
  λ inside others k before outside counts. reading_starts c.args.texts.now k c.args.parameters inside others c.args.m.now c.args.body.now c.requires.empty before outside counts,
)

pub read_record-requires : goal.read_record-requires
read_record-requires c =
    let now = c.records.m in
    let next = gone now.reader c.next.new.self c.in_ok-code.field-0 (Record c.in-Record.code) c.in_ok-code.ensures c.in-Record.is in
    let b = c.requires.begun in
    (left_on b.others now.reader c.next.new.self c.in-Record.code (c.records.invariant.2 b.inside b.others b.before) next.2).0

-- a record was read
pub records-preserved : goal.records-preserved
records-preserved c =
    let now = c.records.m in
    let r = c.next.new.self in
    let next = gone now.reader r c.in_ok-code.field-0 (Record c.in-Record.code) c.in_ok-code.ensures c.in-Record.is in
    let one = c.in_ok-read_record-in-Record.ensures in (
      one.passes.spent ∙ next.0,
      keeps_on c.args.m.now now c.read_record.new.m r c.records.invariant.1 one.passes,
      λ inside others before. left_after others r.left c.read_record.new.m.reader.left one.passes.left (left_on others now.reader r c.in-Record.code (c.records.invariant.2 inside others before) next.2).1,
      λ inside others k before outside counts.
          let x = c.args.texts.now in
          let h = c.records.invariant.3 inside others k before outside counts in
          let s = step x k c.args.parameters inside others c.args.m.now now r _ c.in-Record.code h next.2 in
          let numbers = step_numbers x k c.args.parameters inside others c.args.m.now _ _ c.in-Record.code s in
          let counted = step_counted x k c.args.parameters inside others c.args.m.now _ _ c.in-Record.code s in
          step_goes x k c.args.parameters inside others c.args.m.now _ _ c.in-Record.code s c.read_record.new.m c.read_record.new.body tt
          (one.reads (numbering_in x k c.args.parameters inside) numbers s.s s.operands s.walk s.at s.follows counted),
    )

pub records-smaller : goal.records-smaller
records-smaller c =
    let next = gone c.records.m.reader c.next.new.self c.in_ok-code.field-0 (Record c.in-Record.code) c.in_ok-code.ensures c.in-Record.is in
    let size = ap length c.in_ok-read_record-in-Record.ensures.passes.left in
    omega (arith, next.1, size)

-- ---- refusals

pub returns-in_err-code-clause-reads : goal.returns-in_err-code-clause-reads
returns-in_err-code-clause-reads c = λ inside others k before outside counts.
    let p = err_from_is_err_and c.from_residual.result c.from_residual.ensures.1 in
    rw p.1 (memory_refused _ p.0 p.2)

pub returns-in_err-read_record-in-Record-clause-reads : goal.returns-in_err-read_record-in-Record-clause-reads
returns-in_err-read_record-in-Record-clause-reads c = λ inside others k before outside counts.
    let p = err_from_is_err_and c.from_residual-in_err-read_record-in-Record.result c.from_residual-in_err-read_record-in-Record.ensures.1 in
    let x = c.args.texts.now in
    let now = c.records.m in
    let next = gone now.reader c.next.new.self c.in_ok-code.field-0 (Record c.in-Record.code) c.in_ok-code.ensures c.in-Record.is in
    let h = c.records.invariant.3 inside others k before outside counts in
    let s = step x k c.args.parameters inside others c.args.m.now now c.next.new.self _ c.in-Record.code h next.2 in
    let numbers = step_numbers x k c.args.parameters inside others c.args.m.now _ _ c.in-Record.code s in
    let counted = step_counted x k c.args.parameters inside others c.args.m.now _ _ c.in-Record.code s in
    rw (p.1, p.2) (record_refused x k c.args.parameters inside others c.args.m.now _ _ c.in-Record.code s c.read_record.new.m c.read_record.new.body _
    (c.in_err-read_record-in-Record.ensures.reads (numbering_in x k c.args.parameters inside) numbers s.s s.operands s.walk s.at s.follows counted))

pub returns-in-Block-clause-reads : goal.returns-in-Block-clause-reads
returns-in-Block-clause-reads c = λ inside others k before outside counts.
    let now = c.records.m in
    let next = gone now.reader c.next.new.self c.in_ok-code.field-0 (Block c.in-Block.id) c.in_ok-code.ensures c.in-Block.is in
    let h = c.records.invariant.3 inside others k before outside counts in
    block_refused c.args.texts.now k c.args.parameters inside others c.args.m.now now c.next.new.self _ c.in-Block.id c.misplaced.result h next.2 (subst (λ n. IsMisplaced c.in-Block.id n c.misplaced.result) c.at.ensures c.misplaced.ensures)

-- ---- the end of the block

pub returns-in-End-clause-unspent : goal.returns-in-End-clause-unspent
returns-in-End-clause-unspent c =
    let next = gone c.records.m.reader c.next.new.self c.in_ok-code.field-0 End c.in_ok-code.ensures c.in-End.is in
    next.0

pub returns-in-End-clause-nearer : goal.returns-in-End-clause-nearer
returns-in-End-clause-nearer c =
    let next = gone c.records.m.reader c.next.new.self c.in_ok-code.field-0 End c.in_ok-code.ensures c.in-End.is in
    let b = c.requires.begun in
    let left = left_ends b.others c.records.m.reader c.next.new.self (c.records.invariant.2 b.inside b.others b.before) next.2 in
    subst (λ l. length l < length c.args.m.now.reader.left) (sym left) (fewer c.args.m.now.reader.left b.inside b.others b.before)

pub returns-in-End-clause-behind : goal.returns-in-End-clause-behind
returns-in-End-clause-behind c = λ inside others before.
    let next = gone c.records.m.reader c.next.new.self c.in_ok-code.field-0 End c.in_ok-code.ensures c.in-End.is in
    left_ends others c.records.m.reader c.next.new.self (c.records.invariant.2 inside others before) next.2

pub returns-in-End-clause-keeps : goal.returns-in-End-clause-keeps
returns-in-End-clause-keeps c = keeps_given c.args.m.now c.records.m c.next.new.self c.records.invariant.1

pub returns-in-End-clause-reads : goal.returns-in-End-clause-reads
returns-in-End-clause-reads c = λ inside others k before outside counts.
    let next = gone c.records.m.reader c.next.new.self c.in_ok-code.field-0 End c.in_ok-code.ensures c.in-End.is in
    reading_ends c.args.texts.now k c.args.parameters inside others c.args.m.now c.records.m c.next.new.self c.records.body (c.records.invariant.3 inside others k before outside counts) next.2
