use Rattle.bit_dump.proofs.OnWalk.Operands.{none_over, bytes_over, elements_count, elements_behind}
use Rattle.bit_dump.proofs.walk.values.next_of_tail.Goals as goal

pub count-left-requires : goal.count-left-requires
count-left-requires c = elements_count c.in-Elements.scalar c.args.cursor.now (rw c.in-Elements.is at c.requires)

pub next_repeated-requires : goal.next_repeated-requires
next_repeated-requires c =
    let h = rw c.in-Elements.is at c.requires in
    (h.0, elements_behind c.in-Elements.scalar c.args.cursor.now c.count-left.new.cursor c.count-left.result h.0 c.count-left.ensures h.1)

pub returns-in-NoTail : goal.returns-in-NoTail
returns-in-NoTail c = λ ns h. none_over c.args.cursor.now c.args.abbreviation.now ns (rw c.in-NoTail.is at h)

pub returns-in-Bytes : goal.returns-in-Bytes
returns-in-Bytes c = λ ns h. bytes_over c.args.cursor.now c.args.abbreviation.now ns (rw c.in-Bytes.is at h)

pub returns-in-Elements : goal.returns-in-Elements
returns-in-Elements c = λ ns h. c.next_repeated.ensures ns (elements_behind c.in-Elements.scalar c.args.cursor.now c.count-left.new.cursor c.count-left.result ns c.count-left.ensures (rw c.in-Elements.is at h))
