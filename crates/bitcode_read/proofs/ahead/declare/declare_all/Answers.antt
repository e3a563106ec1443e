use Rattle.std.proofs.Common.{length, map, refl, sym, subst, ◌∙◌}
use Rattle.record_table.specs.Faults.{records}
use Rattle.record_read.specs.Fields.{texts_of}
use Rattle.bitcode_read.proofs.OnHead.Finding.{none_inside}
use Rattle.bitcode_read.specs.Ahead.Bodies.{names_given}
use Rattle.bitcode_read.specs.Ahead.Entries.{Declares}
use Rattle.bitcode_read.proofs.ahead.declare.declare_all.Goals as goal

pub returns-then-is_there : goal.returns-then-is_there
returns-then-is_there c = λ tree stream counted.
    let found = c.in_ok-is_there.ensures.finds (records tree) (c.new-reader.ensures.whole tree stream) in
    let begun = found.before c.if-is_there.true in
    c.in_ok-declare_block.ensures _ begun.0 begun.1 counted

pub returns : goal.returns
returns c = λ tree stream counted.
    let found = c.in_ok-is_there.ensures.finds (records tree) (c.new-reader.ensures.whole tree stream) in
    subst (λ inside. Declares (texts_of c.args.texts.now) (length c.args.arena.now.table.types) c.args.arena.now (map names_given c.args.bodies.now) c.args.arena.now inside)
    (sym (none_inside (records tree) (sym found.is ∙ c.if-is_there.false))) refl
