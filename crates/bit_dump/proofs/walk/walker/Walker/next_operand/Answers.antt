use Rattle.std.proofs.Common.{arith}
use Rattle.bit_dump.specs.Walk.Left.{pieces_left}
use Rattle.bit_dump.specs.Walk.Plain.{place_of}
use Rattle.bit_dump.specs.Walk.Values.{left_by}
use Rattle.bit_dump.proofs.OnWalk.Walked.{took, still_walking, took_one, took_none, waiting_value, waits_on}
use Rattle.bit_dump.proofs.walk.walker.Walker.next_operand.Goals as goal

pub returns-then-count-eq0 : goal.returns-then-count-eq0
returns-then-count-eq0 c =
    let left = pieces_left c.self.inside.spent c.self.inside.scope.scope (place_of c.self.inside.waiting c.self.inside.inner c.self.inside.cursor) in
    let found = left_by c.self.inside.stage c.self.inside.kept.abbreviation c.self.inside.inner in
    rw (← c.self.view_is) (took_none c.self.inside.spent left c.self.inside.waiting c.in-Some.count c.self.inside.inner found c.self.inside.has_blob c.self.inside.blob.now c.self.inside.kept.abbreviation c.in-Some.is c.if-count-eq0.true)

pub value-requires : goal.value-requires
value-requires c = rw c.plain_spelling.ensures (waiting_value c.self.inside.waiting c.in-Some.count c.self.inside.inner (left_by c.self.inside.stage c.self.inside.kept.abbreviation c.self.inside.inner) c.in-Some.is (omega arith) (c.self.invariant.read c.if-self.false))

pub invariant_of-self : goal.invariant_of-self
invariant_of-self c = waits_on c.self.inside.spent c.self.inside.scope c.self.inside.waiting c.in-Some.count c.value.result c.self.inside.inner c.value.new.cursor c.self.inside.cursor (left_by c.self.inside.stage c.self.inside.kept.abbreviation c.self.inside.inner) c.self.inside.kept.start c.self.inside.kept.abbreviation c.in-Some.is (omega arith) c.if-self.false (rw c.plain_spelling.ensures at c.value.ensures) c.self.invariant

pub returns-else-count-eq0 : goal.returns-else-count-eq0
returns-else-count-eq0 c =
    let found = left_by c.self.inside.stage c.self.inside.kept.abbreviation c.self.inside.inner in
    rw (← c.self.view_is) (took_one c.self.inside.spent c.self.inside.scope.scope c.self.inside.waiting c.in-Some.count c.value.result c.self.inside.inner c.value.new.cursor c.self.inside.cursor found c.self.inside.has_blob c.self.inside.blob.now c.self.inside.kept.abbreviation c.in-Some.is (omega arith) c.if-self.false (rw c.plain_spelling.ensures at c.value.ensures) (c.self.invariant.read c.if-self.false))

pub invariant_of-self-in-None : goal.invariant_of-self-in-None
invariant_of-self-in-None c = still_walking c.self.inside.spent c.self.inside.scope c.self.inside.waiting c.self.inside.inner c.next_value.new.cursor c.self.inside.cursor (left_by c.self.inside.stage c.self.inside.kept.abbreviation c.self.inside.inner) (left_by c.next_value.new.stage c.self.inside.kept.abbreviation c.next_value.new.cursor) c.self.inside.kept.start c.self.inside.kept.abbreviation c.next_value.result c.in-None.is (rw c.admitted.ensures at c.next_value.ensures) c.self.invariant

pub returns-in-None : goal.returns-in-None
returns-in-None c =
    let before = left_by c.self.inside.stage c.self.inside.kept.abbreviation c.self.inside.inner in
    let later = left_by c.next_value.new.stage c.self.inside.kept.abbreviation c.next_value.new.cursor in
    let gives = rw c.admitted.ensures at c.next_value.ensures in
    let left = pieces_left c.self.inside.spent c.self.inside.scope.scope c.self.inside.cursor in
    rw (← c.self.view_is, c.in-None.is) (took c.self.inside.spent left before later c.self.inside.has_blob c.self.inside.blob.now c.self.inside.kept.abbreviation c.next_value.result c.if-self.false (rw c.in-None.is at (c.self.invariant.read c.if-self.false)) gives)
