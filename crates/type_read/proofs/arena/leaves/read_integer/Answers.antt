use Rattle.std.proofs.Common.{ap, ◌∙◌}
use Rattle.type_table.specs.Types.{Types}
use Rattle.record_read.specs.Reader.{Reader}
use Rattle.module_arena.specs.TypeTests.{width_of}
use Rattle.type_read.specs.Arena.Kept.{tree_at}
use Rattle.type_read.proofs.OnArena.Lasting.{ok_by, stop_broken}
use Rattle.type_read.proofs.OnArena.LeavesRead.{ReadsNumber, goes_stopped, integer_keeps, integer_read, no_integer_read}
use Rattle.type_read.proofs.OnArena.Steps.{none_keeps}
use Rattle.type_read.proofs.arena.leaves.read_integer.Goals as goal

pub returns-in-Some-clause-keeps : goal.returns-in-Some-clause-keeps
returns-in-Some-clause-keeps c =
    let m0 = c.args.m.now in
    let reads : ReadsNumber c.in-Some.width m0.reader c.read_number-number.new.reader c.read_number-number.result = record { value = c.read_number-number.ensures.value; reader = c.read_number-number.ensures.reader } in
    ok_by c.keep_unbroken.result _ _ c.keep_unbroken.ensures
    (λ answer h. integer_keeps m0 c.keep_unbroken.new.self c.args.ty c.read_number-number.new.reader c.in-Some.width c.read_number-number.result answer reads h)

pub returns-in-Some-clause-reads : goal.returns-in-Some-clause-reads
returns-in-Some-clause-reads c = λ k.
    let m0 = c.args.m.now in
    let reads : ReadsNumber c.in-Some.width m0.reader c.read_number-number.new.reader c.read_number-number.result = record { value = c.read_number-number.ensures.value; reader = c.read_number-number.ensures.reader } in
    let width = c.in-Some.ensures.width ∙ ap (λ (t : Types). width_of (tree_at t c.args.ty)) c.table.ensures in
    ok_by c.keep_unbroken.result _ _ c.keep_unbroken.ensures
    (λ answer h. integer_read m0 c.keep_unbroken.new.self c.args.ty c.read_number-number.new.reader k c.in-Some.width c.read_number-number.result answer width reads h)

pub returns-in-None-clause-keeps : goal.returns-in-None-clause-keeps
returns-in-None-clause-keeps c =
    let m0 = c.args.m.now in
    none_keeps m0 (record m0 { reader = c.stop.new.self }) (goes_stopped m0 c.stop.new.self 6 c.stop.ensures)
    (stop_broken 6 m0.reader.walk c.stop.new.self.walk (ap (λ (q : Reader). q.walk) c.stop.ensures) c.stops_where_broken.ensures)

pub returns-in-None-clause-reads : goal.returns-in-None-clause-reads
returns-in-None-clause-reads c = λ k.
    let m0 = c.args.m.now in
    let none = c.in-None.ensures.width ∙ ap (λ (t : Types). width_of (tree_at t c.args.ty)) c.table.ensures in
    no_integer_read m0 m0 c.args.ty c.stop.new.self k none c.stop.ensures
    (stop_broken 6 m0.reader.walk c.stop.new.self.walk (ap (λ (q : Reader). q.walk) c.stop.ensures) c.stops_where_broken.ensures)
