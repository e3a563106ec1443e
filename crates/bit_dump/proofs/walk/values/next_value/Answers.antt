use Rattle.bit_dump.proofs.OnWalk.Operands.{repeats_left, over_gives}
use Rattle.bit_dump.proofs.walk.values.next_value.Goals as goal

pub next_field-requires : goal.next_field-requires
next_field-requires c = rw c.in-Fields.is at c.requires

pub returns-in-Fields : goal.returns-in-Fields
returns-in-Fields c = λ ns h. c.next_field.ensures ns (rw c.in-Fields.is at h)

pub next_repeated-requires : goal.next_repeated-requires
next_repeated-requires c =
    let h = rw c.in-Repeats.is at c.requires in
    (h.0, repeats_left c.in-Repeats.scalar c.in-Repeats.left c.args.abbreviation.now c.args.cursor.now h.0 h.1)

pub returns-in-Repeats : goal.returns-in-Repeats
returns-in-Repeats c = λ ns h. c.next_repeated.ensures ns (repeats_left c.in-Repeats.scalar c.in-Repeats.left c.args.abbreviation.now c.args.cursor.now ns (rw c.in-Repeats.is at h))

pub returns-in-Over : goal.returns-in-Over
returns-in-Over c = rw c.in-Over.is (λ ns h. over_gives c.args.abbreviation.now c.args.cursor.now ns h)
