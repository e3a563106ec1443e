use Rattle.std.proofs.Common.{sym, refl}
use Rattle.ir_memory.proofs.Finds.{started-none}
use Rattle.ir_memory.proofs.Places.{started-kept, live-there, starts-live}
use Rattle.ir_memory.specs.Seen.{at, all_seen}
use Rattle.ir_memory.proofs.access.started.Goals as goal

pub returns-in_err-index-clause-value : goal.returns-in_err-index-clause-value
returns-in_err-index-clause-value c = rw (c.from_residual.ensures, c.in-Ptr.is) (sym (started-none (all_seen (at c.args._pieces.now) c.args.kept.now) c.in-Ptr.pointer c.args.kind c.in_err-index.ensures.only))

pub returns-then-starts-clause-value : goal.returns-then-starts-clause-value
returns-then-starts-clause-value c =
    rw c.in-Ptr.is (sym (started-kept (at c.args._pieces.now) c.args.kept.now c.in-Ptr.pointer c.args.kind _ _ _ c.in_ok-index.ensures.only c.in_ok-index.ensures.within c.get.ensures (c.if-starts.ensures (at c.args._pieces.now))))

pub returns-else-starts-clause-value : goal.returns-else-starts-clause-value
returns-else-starts-clause-value c =
    rw c.in-Ptr.is (sym (started-kept (at c.args._pieces.now) c.args.kept.now c.in-Ptr.pointer c.args.kind _ _ _ c.in_ok-index.ensures.only c.in_ok-index.ensures.within c.get.ensures (c.if-starts.ensures (at c.args._pieces.now))))

pub returns-then-starts-clause-live : goal.returns-then-starts-clause-live
returns-then-starts-clause-live c =
    live-there c.args.kept.now _ c.get.result.now c.in_ok-index.ensures.within c.get.ensures (starts-live (at c.args._pieces.now) c.get.result.now _ _ _ (c.if-starts.ensures (at c.args._pieces.now)) refl)
