use Rattle.std.proofs.Common.{[], sym, ap, subst, ◌∙◌}
use Rattle.record_table.specs.Faults.{records}
use Rattle.record_read.specs.Fields.{texts_of}
use Rattle.bitcode_read.proofs.OnHead.Finding.{none_inside}
use Rattle.bitcode_read.specs.Ahead.Bodies.{Foresees}
use Rattle.bitcode_read.specs.Ahead.Entries.{entry_count}
use Rattle.bitcode_read.proofs.ahead.bodies.look_at_bodies.Goals as goal

pub gather_bodies-requires-clause-begun : goal.gather_bodies-requires-clause-begun
gather_bodies-requires-clause-begun c =
    let tree = c.requires.judged.tree in
    let found = c.in_ok-is_there.ensures.finds (records tree) (c.new-reader.ensures.whole tree c.requires.judged.stream) in
    let begun = found.before c.if-is_there.true in
    record { inside = _; others = begun.0; before = begun.1 }

pub returns-then-is_there-clause-foresees : goal.returns-then-is_there-clause-foresees
returns-then-is_there-clause-foresees c = λ tree k stream are.
    let found = c.in_ok-is_there.ensures.finds (records tree) (c.new-reader.ensures.whole tree stream) in
    let begun = found.before c.if-is_there.true in
    c.in_ok-found.ensures.foresees _ begun.0 begun.1 k are

pub returns-then-is_there-clause-counted : goal.returns-then-is_there-clause-counted
returns-then-is_there-clause-counted c = λ tree stream.
    let found = c.in_ok-is_there.ensures.finds (records tree) (c.new-reader.ensures.whole tree stream) in
    let begun = found.before c.if-is_there.true in
    c.in_ok-found.ensures.counted _ begun.0 begun.1

pub returns-clause-foresees : goal.returns-clause-foresees
returns-clause-foresees c = λ tree k stream are.
    let found = c.in_ok-is_there.ensures.finds (records tree) (c.new-reader.ensures.whole tree stream) in
    subst (λ inside. Foresees (texts_of c.args.texts.now) k c.args.types [] c.new-none.result.items inside) (sym (none_inside (records tree) (sym found.is ∙ c.if-is_there.false))) tt

pub returns-clause-counted : goal.returns-clause-counted
returns-clause-counted c = λ tree stream.
    let found = c.in_ok-is_there.ensures.finds (records tree) (c.new-reader.ensures.whole tree stream) in
    sym (ap (λ x. entry_count x) (none_inside (records tree) (sym found.is ∙ c.if-is_there.false)))
