use Rattle.std.proofs.Common.{arith}
use Rattle.ir_memory.specs.Seen.{at}
use Rattle.ir_memory.proofs.Changed.{length-all}
use Rattle.ir_memory.proofs.Search.{only_none, only_last}
use Rattle.ir_memory.proofs.starts.block_at.Goals as goal

pub overflow_mul-from : goal.overflow_mul-from
overflow_mul-from c =
    let long = length-all (at c.args._pieces.now) c.args.kept.now in
    let few = c.requires.starts.few in
    let within = c.pages_below-below.ensures.within in
    omega arith

pub returns-then-below-eq0-clause-only : goal.returns-then-below-eq0-clause-only
returns-then-below-eq0-clause-only c =
    only_none (at c.args._pieces.now) c.args.kept.now c.args.starts.now.items c.args.address c.pages_below-below.result c.requires.starts c.pages_below-below.ensures (omega arith)

pub returns-clause-only : goal.returns-clause-only
returns-clause-only c =
    let long = length-all (at c.args._pieces.now) c.args.kept.now in
    let few = c.requires.starts.few in
    let within = c.pages_below-below.ensures.within in
    let least = c.min.ensures in
    only_last (at c.args._pieces.now) c.args.kept.now c.args.starts.now.items c.args.address c.pages_below-below.result c.requires.starts c.pages_below-below.ensures c.requires.placed.0 _ _ _ c.requires.placed.1 (omega arith) (omega arith) (λ k h l. omega arith) c.last_begun.ensures
