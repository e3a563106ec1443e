use Rattle.std.proofs.Common.{ap, ◌∙◌}
use Rattle.bit_stream.specs.Abbreviation.{AdmittedAbbreviation}
use Rattle.bit_dump.proofs.OnWalk.Operands.{field_value, field_gives, fields_over}
use Rattle.bit_dump.proofs.walk.values.next_field.Goals as goal

pub value-requires : goal.value-requires
value-requires c =
    let operands = c.as_slice.ensures.value ∙ ap (λ (t : AdmittedAbbreviation). t.operands) c.abbreviation.view_is in
    let near = rw operands at c.in-Some.ensures.lookup.3.0 in
    let is = rw operands at c.in-Some.ensures.lookup.1 in
    field_value c.args.abbreviation.now c.args.index c.in-Some.scalar.now c.args.cursor.now near is c.requires

pub returns-in-Some : goal.returns-in-Some
returns-in-Some c = λ ns h. (
    let operands = c.as_slice.ensures.value ∙ ap (λ (t : AdmittedAbbreviation). t.operands) c.abbreviation.view_is in
    let near = rw operands at c.in-Some.ensures.lookup.3.0 in
    let is = rw operands at c.in-Some.ensures.lookup.1 in
    field_gives c.args.abbreviation.now c.args.index c.in-Some.scalar.now c.args.cursor.now c.value.new.cursor c.value.result ns near is c.value.ensures h)

pub next_of_tail-requires : goal.next_of_tail-requires
next_of_tail-requires c =
    let operands = c.as_slice.ensures.value ∙ ap (λ (t : AdmittedAbbreviation). t.operands) c.abbreviation.view_is in
    let far = rw operands at c.in-None.ensures.lookup.3 in
    let tail = ap (λ (t : AdmittedAbbreviation). t.tail) c.abbreviation.view_is in
    rw tail (c.requires.0, fields_over c.args.abbreviation.now c.args.index c.args.cursor.now c.requires.0 far c.requires.1)

pub returns-in-None : goal.returns-in-None
returns-in-None c = λ ns h. (
    let operands = c.as_slice.ensures.value ∙ ap (λ (t : AdmittedAbbreviation). t.operands) c.abbreviation.view_is in
    let far = rw operands at c.in-None.ensures.lookup.3 in
    let tail = ap (λ (t : AdmittedAbbreviation). t.tail) c.abbreviation.view_is in
    c.next_of_tail.ensures ns (rw tail (fields_over c.args.abbreviation.now c.args.index c.args.cursor.now ns far h)))
