use Rattle.std.proofs.Common.{arith}
use Rattle.bit_dump.proofs.OnWalk.Operands.{repeated_value, repeated_gives, repeated_over}
use Rattle.bit_dump.proofs.walk.values.next_repeated.Goals as goal

pub returns-then-left-eq0 : goal.returns-then-left-eq0
returns-then-left-eq0 c = λ ns h. repeated_over c.args.scalar.now c.args.left c.args.cursor.now c.args.abbreviation.now ns c.if-left-eq0.true h

pub value-requires : goal.value-requires
value-requires c = repeated_value c.args.scalar.now c.args.left c.args.cursor.now (omega arith) c.requires

pub returns : goal.returns
returns c = λ ns h. repeated_gives c.args.scalar.now c.args.left c.args.cursor.now c.value.new.cursor c.args.abbreviation.now c.value.result ns (omega arith) c.value.ensures h
