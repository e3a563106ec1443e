use Rattle.std.proofs.Common.{[]}
use Rattle.std.proofs.lemmas.Result.{err_from_is_err_and}
use Rattle.bit_tree.proofs.Walking.{sets_out, goes_over, comes_nearer, ended_by, stopped_by}
use Rattle.bit_tree.proofs.verdict.judge.Goals as goal

pub judging-init : goal.judging-init
judging-init c = ([], sets_out c.args.bytes.now c.in_ok-reader.reader c.in_ok-reader.ensures)

pub returns-in_err-entry : goal.returns-in_err-entry
returns-in_err-entry c =
    let p = err_from_is_err_and c.from_residual-in_err-entry.result c.from_residual-in_err-entry.ensures.1 in
    rw (p.1, p.2) (stopped_by c.args.bytes.now c.judging.reader c.next_entry.new.self c.judging.invariant.0 _ c.judging.invariant.1 c.in_err-entry.ensures)

pub returns-then-is_end : goal.returns-then-is_end
returns-then-is_end c =
    let all = ended_by c.args.bytes.now c.judging.reader c.next_entry.new.self c.in_ok-entry.entry c.judging.invariant.0 c.judging.invariant.1 c.in_ok-entry.ensures (rw c.is_end.ensures at c.if-is_end.true) in
    record { tree = all.tree; stream = all.stream }

pub judging-smaller : goal.judging-smaller
judging-smaller c = comes_nearer c.args.bytes.now c.judging.reader c.next_entry.new.self c.in_ok-entry.entry c.judging.invariant.0 c.judging.invariant.1 c.in_ok-entry.ensures (rw c.is_end.ensures at c.if-is_end.false)

pub judging-preserved : goal.judging-preserved
judging-preserved c =
    let on = goes_over c.args.bytes.now c.judging.reader c.next_entry.new.self c.in_ok-entry.entry c.judging.invariant.0 c.judging.invariant.1 c.in_ok-entry.ensures (rw c.is_end.ensures at c.if-is_end.false) in
    (_, on.came)
