use Rattle.std.proofs.Common.{ap, arith}
use Rattle.std.proofs.lemmas.Bool.{eq-eqb, ne_eqb}
use Rattle.std.proofs.lemmas.Result.{err_from_is_err_and}
use Rattle.record_read.specs.Reader.{Reader}
use Rattle.record_read.proofs.OnOpening.Answering.{out_of_memory}
use Rattle.record_read.proofs.OnOpening.Tables.{more_bytes, more_code}
use Rattle.record_read.proofs.opening.table.refuse_more.Goals as goal

pub finish-requires : goal.finish-requires
finish-requires c =
    let read = ap (λ (r : Reader). r.at) c.in_ok-_bytes.ensures.reader in
    let also_at = ap (λ (r : Reader). r.at) c.also.ensures in
    let some = c.requires in
    omega (arith, read, also_at, some)

pub returns-then-code-ne-TEXT : goal.returns-then-code-ne-TEXT
returns-then-code-ne-TEXT c = λ t operands walk place. more_code t c.args.code operands (ne_eqb c.args.code 1 c.if-code-ne-TEXT.true)

pub returns-in_err-_bytes : goal.returns-in_err-_bytes
returns-in_err-_bytes c = λ t operands walk place.
    let p = err_from_is_err_and c.from_residual.result c.from_residual.ensures.1 in
    rw p.1 (out_of_memory _ _ p.0 p.2)

pub returns : goal.returns
returns c = λ t operands walk place.
    more_bytes t c.args.code operands c.args.reader.now c.read_rest.new.reader _ _ c.finish.result (eq-eqb c.args.code 1 c.if-code-ne-TEXT.false) walk place c.in_ok-_bytes.ensures c.also.ensures c.finish.ensures.told
