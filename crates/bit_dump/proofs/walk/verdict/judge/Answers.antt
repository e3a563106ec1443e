use Rattle.std.proofs.lemmas.Result.{err_from_is_err_and}
use Rattle.bit_dump.proofs.OnWalk.Judging.{sets_out, goes_on, comes_nearer, ends, stops}
use Rattle.bit_dump.proofs.walk.verdict.judge.Goals as goal

pub judging-init : goal.judging-init
judging-init c = rw c.new-scope.ensures (sets_out c.args.bytes.now c.in_ok-cursor.cursor c.nothing-kept.result.start c.nothing-kept.result.abbreviation c.in_ok-cursor.ensures c.nothing-kept.ensures)

pub returns-in_err-item : goal.returns-in_err-item
returns-in_err-item c =
    let p = err_from_is_err_and c.from_residual-in_err-item.result c.from_residual-in_err-item.ensures.1 in
    rw (p.1, p.2) (stops c.args.bytes.now c.judging.scope c.judging.cursor c.judging.kept.start c.judging.kept.abbreviation _ c.judging.invariant c.in_err-item.ensures.read)

pub returns-then-is_end : goal.returns-then-is_end
returns-then-is_end c = ends c.args.bytes.now c.judging.scope c.pass_next.new.scope c.judging.cursor c.pass_next.new.cursor c.in_ok-item.item.entry c.in_ok-item.item.blob.now c.judging.kept.start c.judging.kept.abbreviation c.judging.invariant c.in_ok-item.ensures.read (rw c.is_end.ensures at c.if-is_end.true)

pub judging-smaller : goal.judging-smaller
judging-smaller c = comes_nearer c.args.bytes.now c.judging.scope c.pass_next.new.scope c.judging.cursor c.pass_next.new.cursor c.in_ok-item.item.entry c.in_ok-item.item.blob.now c.judging.kept.start c.judging.kept.abbreviation c.judging.invariant c.in_ok-item.ensures.read (rw c.is_end.ensures at c.if-is_end.false)

pub judging-preserved : goal.judging-preserved
judging-preserved c = goes_on c.args.bytes.now c.judging.scope c.pass_next.new.scope c.judging.cursor c.pass_next.new.cursor c.in_ok-item.item.entry c.in_ok-item.item.blob.now c.judging.kept.start c.pass_next.new.kept.start c.judging.kept.abbreviation c.pass_next.new.kept.abbreviation c.judging.invariant c.in_ok-item.ensures.read c.in_ok-item.ensures.bits c.in_ok-item.ensures.kept (rw c.is_end.ensures at c.if-is_end.false)
