use Rattle.type_read.proofs.Naming.{name_behind_bad, name_added, name_refused}
use Rattle.type_read.proofs.structs.add_struct.Goals as goal

pub returns-in-Some : goal.returns-in-Some
returns-in-Some c = λ all value is h. name_behind_bad c.args.arena.now c.args.names c.in_ok-count.count c.in-Some.place all value h c.in-Some.is c.in_ok-count.ensures.0 c.in_ok-count.ensures.1

pub returns-then-is_new : goal.returns-then-is_new
returns-then-is_new c = λ all value is h.
    name_added c.args.arena.now _ c.args.names c.in_ok-count.count c.args.name all value h c.in-None.is c.in_ok-count.ensures.0 c.in_ok-count.ensures.1 is (rw c.if-is_new.true at c.in_ok-is_new-in-None.ensures)

pub returns-else-is_new : goal.returns-else-is_new
returns-else-is_new c = λ all value is h.
    name_refused c.args.arena.now _ c.args.names c.in_ok-count.count c.args.name all value h c.in-None.is c.in_ok-count.ensures.0 c.in_ok-count.ensures.1 is (rw c.if-is_new.false at c.in_ok-is_new-in-None.ensures)
