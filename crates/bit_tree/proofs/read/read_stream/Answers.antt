use Rattle.std.proofs.lemmas.Result.{err_from_is_err_and}
use Rattle.bit_tree.proofs.Reading.{starts, stops, finished, entered_ok, goes_on, fewer}
use Rattle.bit_tree.proofs.read.read_stream.Goals as goal

pub loop-entries-init : goal.loop-entries-init
loop-entries-init c = rw c.new-entries.ensures (starts c.args.bytes.now c.in_ok-reader.reader c.in_ok-reader.ensures)

pub returns-in_err-entry : goal.returns-in_err-entry
returns-in_err-entry c =
    let p = err_from_is_err_and c.from_residual-in_err-entry.result c.from_residual-in_err-entry.ensures.1 in
    rw (p.1, p.2) (stops c.args.bytes.now c.loop-entries.reader c.next_entry.new.self c.loop-entries.entries _ c.loop-entries.invariant c.in_err-entry.ensures)

pub returns-then-is_end : goal.returns-then-is_end
returns-then-is_end c = finished c.args.bytes.now c.loop-entries.reader c.next_entry.new.self c.loop-entries.entries c.in_ok-entry.entry c.loop-entries.invariant c.in_ok-entry.ensures (rw c.is_end.ensures at c.if-is_end.true)

pub loop-entries-smaller : goal.loop-entries-smaller
loop-entries-smaller c =
    let one = entered_ok c.args.bytes.now c.loop-entries.reader c.next_entry.new.self c.loop-entries.entries c.in_ok-entry.entry c.loop-entries.invariant c.in_ok-entry.ensures in
    fewer c.args.bytes.now c.loop-entries.reader c.next_entry.new.self c.loop-entries.entries c.in_ok-entry.entry c.loop-entries.invariant one.1 (rw c.is_end.ensures at c.if-is_end.false)

pub loop-entries-preserved : goal.loop-entries-preserved
loop-entries-preserved c =
    let one = entered_ok c.args.bytes.now c.loop-entries.reader c.next_entry.new.self c.loop-entries.entries c.in_ok-entry.entry c.loop-entries.invariant c.in_ok-entry.ensures in
    rw (c.in_ok-push.ensures.ok, c.in_ok-of.ensures) (goes_on c.args.bytes.now c.loop-entries.reader c.next_entry.new.self c.loop-entries.entries c.in_ok-entry.entry c.loop-entries.invariant one.0 one.1 (rw c.is_end.ensures at c.if-is_end.false))
