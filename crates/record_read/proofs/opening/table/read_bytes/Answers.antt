use Rattle.std.proofs.Common.{ap, ◌∙◌, arith}
use Rattle.std.proofs.lemmas.Bool.{eq-eqb, ne_eqb}
use Rattle.std.proofs.lemmas.Result.{err_from_is_err_and}
use Rattle.record_read.specs.Reader.{Reader}
use Rattle.record_read.proofs.OnOpening.Answering.{out_of_memory}
use Rattle.record_read.proofs.OnOpening.Tables.{never_lost, one_read, one_refused, other_code}
use Rattle.record_read.proofs.opening.table.read_bytes.Goals as goal

pub finish-requires : goal.finish-requires
finish-requires c =
    let read = ap (λ (r : Reader). r.at) c.in_ok-bytes.ensures.reader in
    let some = c.requires in
    omega (arith, read, some)

pub returns-then-code-ne-TEXT-clause-answers : goal.returns-then-code-ne-TEXT-clause-answers
returns-then-code-ne-TEXT-clause-answers c = λ at operands walk place. other_code at c.args.code operands (ne_eqb c.args.code 1 c.if-code-ne-TEXT.true)

pub returns-in_err-bytes-clause-answers : goal.returns-in_err-bytes-clause-answers
returns-in_err-bytes-clause-answers c = λ at operands walk place.
    let p = err_from_is_err_and c.from_residual.result c.from_residual.ensures.1 in
    rw p.1 (out_of_memory _ _ p.0 p.2)

pub returns-in_err-finish-clause-answers : goal.returns-in_err-finish-clause-answers
returns-in_err-finish-clause-answers c = λ at operands walk place.
    let p = err_from_is_err_and c.from_residual-in_err-finish.result c.from_residual-in_err-finish.ensures.1 in
    rw (p.1, p.2) (one_refused at c.args.code operands c.args.reader.now c.read_rest.new.reader _ (eq-eqb c.args.code 1 c.if-code-ne-TEXT.false) walk place c.in_ok-bytes.ensures _ c.in_err-finish.ensures.told)

pub returns-clause-spent : goal.returns-clause-spent
returns-clause-spent c = c.in_ok-finish.ensures.spent ∙ ap (λ (r : Reader). r.spent) c.in_ok-bytes.ensures.reader

pub returns-clause-left : goal.returns-clause-left
returns-clause-left c = c.in_ok-finish.ensures.left ∙ ap (λ (r : Reader). r.left) c.in_ok-bytes.ensures.reader

pub returns-clause-at : goal.returns-clause-at
returns-clause-at c = c.in_ok-finish.ensures.at ∙ ap (λ (r : Reader). r.at) c.in_ok-bytes.ensures.reader

pub returns-clause-answers : goal.returns-clause-answers
returns-clause-answers c = λ at operands walk place.
    one_read at c.args.code operands c.args.reader.now c.read_rest.new.reader _ (eq-eqb c.args.code 1 c.if-code-ne-TEXT.false) walk place c.in_ok-bytes.ensures tt c.in-Some.bytes c.in-Some.is c.in_ok-finish.ensures.told

pub unreachable-requires : goal.unreachable-requires
unreachable-requires c = never_lost c.args.reader.now c.read_rest.new.reader c.in_ok-bytes.bytes tt c.in_ok-bytes.ensures c.in-None.is c.in_ok-finish.ensures.told
