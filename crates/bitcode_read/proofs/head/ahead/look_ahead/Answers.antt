use Rattle.std.proofs.Common.{sym, ◌∙◌}
use Rattle.record_table.specs.Faults.{records}
use Rattle.bitcode_read.proofs.OnHead.Finding.{none_inside}
use Rattle.bitcode_read.proofs.OnHead.Gathering.{nothing_inside}
use Rattle.bitcode_read.proofs.head.ahead.look_ahead.Goals as goal

pub gather_module-requires-clause-begun : goal.gather_module-requires-clause-begun
gather_module-requires-clause-begun c =
    let tree = c.requires.judged.tree in
    let found = c.in_ok-is_there.ensures.finds (records tree) (c.new-reader.ensures.whole tree c.requires.judged.stream) in
    let begun = found.before c.if-is_there.true in
    record { inside = _; others = begun.0; before = begun.1 }

pub returns-then-is_there : goal.returns-then-is_there
returns-then-is_there c = λ tree stream.
    let found = c.in_ok-is_there.ensures.finds (records tree) (c.new-reader.ensures.whole tree stream) in
    let begun = found.before c.if-is_there.true in
    c.in_ok-gather_module.ensures _ begun.0 begun.1

pub returns : goal.returns
returns c = λ tree stream.
    let found = c.in_ok-is_there.ensures.finds (records tree) (c.new-reader.ensures.whole tree stream) in
    nothing_inside _ _ c.nothing_ahead-ahead.result (none_inside (records tree) (sym found.is ∙ c.if-is_there.false)) c.nothing_ahead-ahead.ensures
