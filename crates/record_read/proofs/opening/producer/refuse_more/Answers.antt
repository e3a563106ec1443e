use Rattle.std.proofs.Common.{ap, arith}
use Rattle.std.proofs.lemmas.Bool.{eq-eqb, ne_eqb}
use Rattle.record_read.specs.Reader.{Reader}
use Rattle.record_read.proofs.OnOpening.Fronts.{another_code, another_name}
use Rattle.record_read.proofs.opening.producer.refuse_more.Goals as goal

pub finish-requires : goal.finish-requires
finish-requires c =
    let read = ap (λ (r : Reader). r.at) c.read_name_bytes.ensures in
    let also_at = ap (λ (r : Reader). r.at) c.also.ensures in
    let two = c.requires in
    omega (arith, read, also_at, two)

pub returns-then-code-ne-TEXT : goal.returns-then-code-ne-TEXT
returns-then-code-ne-TEXT c = λ operands walk. another_code c.args.code operands (ne_eqb c.args.code 1 c.if-code-ne-TEXT.true)

pub returns : goal.returns
returns c = λ operands walk.
    another_name c.args.code operands c.args.reader.now c.read_name_bytes.new.reader _ c.finish.result (eq-eqb c.args.code 1 c.if-code-ne-TEXT.false) walk c.requires c.read_name_bytes.ensures c.also.ensures c.finish.ensures.told
