use Rattle.std.proofs.Common.{ap}
use Rattle.bit_stream.specs.Abbreviation.{AdmittedAbbreviation}
use Rattle.bit_dump.proofs.OnWalk.Operands.{starts_id, starts_plain, starts_count, plain_left, starts_code, code_left}
use Rattle.bit_dump.proofs.walk.values.begin.Goals as goal

pub field-id-requires : goal.field-id-requires
field-id-requires c = starts_id c.args.width c.args.abbreviation.now c.args.cursor.now c.requires

pub pass_code-requires : goal.pass_code-requires
pass_code-requires c = rw c.plain_spelling.ensures (starts_plain c.args.width c.field-id.result c.args.abbreviation.now c.args.cursor.now c.field-id.new.cursor c.field-id.ensures.read c.if-id-eq3.true c.requires)

pub count-left-requires : goal.count-left-requires
count-left-requires c =
    let code = rw c.plain_spelling.ensures at c.pass_code.ensures in
    starts_count c.args.width c.field-id.result code.0 c.args.abbreviation.now c.args.cursor.now c.field-id.new.cursor c.pass_code.new.cursor c.field-id.ensures.read c.if-id-eq3.true code.1 c.requires

pub returns-then-id-eq3-clause-left : goal.returns-then-id-eq3-clause-left
returns-then-id-eq3-clause-left c = λ ns h. (
    let code = rw c.plain_spelling.ensures at c.pass_code.ensures in
    rw c.plain_spelling-then-id-eq3.ensures (plain_left c.args.width c.field-id.result code.0 c.count-left.result c.args.abbreviation.now c.args.cursor.now c.field-id.new.cursor c.pass_code.new.cursor c.count-left.new.cursor ns c.field-id.ensures.read c.if-id-eq3.true code.1 c.count-left.ensures h))

pub pass_code-requires-2 : goal.pass_code-requires-2
pass_code-requires-2 c =
    let code = ap (λ (t : AdmittedAbbreviation). t.code) c.abbreviation.view_is in
    rw code (starts_code c.args.width c.field-id.result c.args.abbreviation.now c.args.cursor.now c.field-id.new.cursor c.field-id.ensures.read c.if-id-eq3.false c.requires)

pub returns-clause-left : goal.returns-clause-left
returns-clause-left c = λ ns h. (
    let code = ap (λ (t : AdmittedAbbreviation). t.code) c.abbreviation.view_is in
    let read = rw code at c.pass_code-2.ensures in
    code_left c.args.width c.field-id.result read.0 c.args.abbreviation.now c.args.cursor.now c.field-id.new.cursor c.pass_code-2.new.cursor ns c.field-id.ensures.read c.if-id-eq3.false read.1 h)
