use Rattle.std.proofs.Common.{◌∷◌, ap, subst, ◌∙◌, arith}
use Rattle.std.specs.Prelude.{Ok, Err}
use Rattle.std.proofs.lemmas.Result.{err_from_is_err_and}
use Rattle.bit_tree.specs.Pieces.{ended}
use Rattle.record_read.specs.declared.entry.NextEntry.TheVariants.{Block, Record, End}
use Rattle.record_read.specs.declared.fault.BitcodeFault.TheVariants as fault
use Rattle.record_read.specs.Faults.{IsMisplaced}
use Rattle.record_read.proofs.OnOpening.Answering.{gone, out_of_memory}
use Rattle.record_read.proofs.OnOpening.Tables.{bytes_told, rest_answers, still_begun, table_block, table_missing}
use Rattle.record_read.proofs.OnOpening.Fronts.{record_at}
use Rattle.record_read.proofs.opening.table.read_table.Goals as goal

pub read_bytes-requires : goal.read_bytes-requires
read_bytes-requires c =
    let next = gone c.args.reader.now c.next.new.self c.in_ok-code.field-0 (Record c.in-Record.code) c.in_ok-code.ensures c.in-Record.is in
    let b = c.requires.begun in
    let at = record_at b.inside (ended ∷ b.others) c.args.reader.now c.next.new.self c.in-Record.code (next.2 b.inside (ended ∷ b.others) b.before) in
    omega (arith, at)

pub end_of_table-requires-clause-unspent : goal.end_of_table-requires-clause-unspent
end_of_table-requires-clause-unspent c =
    let next = gone c.args.reader.now c.next.new.self c.in_ok-code.field-0 (Record c.in-Record.code) c.in_ok-code.ensures c.in-Record.is in
    c.in_ok-bytes-in-Record.ensures.spent ∙ next.0

pub end_of_table-requires-clause-begun : goal.end_of_table-requires-clause-begun
end_of_table-requires-clause-begun c =
    let next = gone c.args.reader.now c.next.new.self c.in_ok-code.field-0 (Record c.in-Record.code) c.in_ok-code.ensures c.in-Record.is in
    let b = c.requires.begun in
    still_begun b.inside b.others c.args.reader.now c.next.new.self c.read_bytes.new.reader c.in-Record.code (next.2 b.inside (ended ∷ b.others) b.before) c.in_ok-bytes-in-Record.ensures.left

pub returns-in_ok-end_of_table-in-Record-clause-answers : goal.returns-in_ok-end_of_table-in-Record-clause-answers
returns-in_ok-end_of_table-in-Record-clause-answers c = λ inside others before.
    let next = gone c.args.reader.now c.next.new.self c.in_ok-code.field-0 (Record c.in-Record.code) c.in_ok-code.ensures c.in-Record.is in
    let bytes = c.in_ok-bytes-in-Record.ensures in
    rest_answers inside others c.args.reader.now c.next.new.self c.read_bytes.new.reader c.end_of_table.new.reader c.in-Record.code _ (Ok tt) (next.2 inside (ended ∷ others) before)
    bytes.answers bytes.left bytes.at c.in_ok-end_of_table-in-Record.ensures.answers

pub returns-in_err-end_of_table-in-Record-clause-answers : goal.returns-in_err-end_of_table-in-Record-clause-answers
returns-in_err-end_of_table-in-Record-clause-answers c = λ inside others before.
    let p = err_from_is_err_and c.from_residual-in_err-end_of_table-in-Record.result c.from_residual-in_err-end_of_table-in-Record.ensures.1 in
    let next = gone c.args.reader.now c.next.new.self c.in_ok-code.field-0 (Record c.in-Record.code) c.in_ok-code.ensures c.in-Record.is in
    let bytes = c.in_ok-bytes-in-Record.ensures in
    rw (p.1, p.2) (rest_answers inside others c.args.reader.now c.next.new.self c.read_bytes.new.reader c.end_of_table.new.reader c.in-Record.code _ (Err _) (next.2 inside (ended ∷ others) before)
    bytes.answers bytes.left bytes.at c.in_err-end_of_table-in-Record.ensures.answers)

pub returns-in_err-bytes-in-Record-clause-answers : goal.returns-in_err-bytes-in-Record-clause-answers
returns-in_err-bytes-in-Record-clause-answers c = λ inside others before.
    let p = err_from_is_err_and c.from_residual-in_err-bytes-in-Record.result c.from_residual-in_err-bytes-in-Record.ensures.1 in
    let next = gone c.args.reader.now c.next.new.self c.in_ok-code.field-0 (Record c.in-Record.code) c.in_ok-code.ensures c.in-Record.is in
    rw (p.1, p.2) (bytes_told inside others c.args.reader.now c.next.new.self _ c.in-Record.code _ (next.2 inside (ended ∷ others) before) c.in_err-bytes-in-Record.ensures.answers)

pub returns-in-Block-clause-answers : goal.returns-in-Block-clause-answers
returns-in-Block-clause-answers c = λ inside others before.
    let next = gone c.args.reader.now c.next.new.self c.in_ok-code.field-0 (Block c.in-Block.id) c.in_ok-code.ensures c.in-Block.is in
    table_block inside others c.args.reader.now c.next.new.self _ c.in-Block.id _ (next.2 inside (ended ∷ others) before) (subst (λ n. IsMisplaced c.in-Block.id n c.misplaced.result) c.at.ensures c.misplaced.ensures)

pub returns-in-End-clause-answers : goal.returns-in-End-clause-answers
returns-in-End-clause-answers c = λ inside others before.
    let next = gone c.args.reader.now c.next.new.self c.in_ok-code.field-0 End c.in_ok-code.ensures c.in-End.is in
    table_missing inside others c.args.reader.now c.next.new.self _ _ (next.2 inside (ended ∷ others) before) (ap (λ n. fault.BadRecord 23 n 5) c.at-in-End.ensures)

pub returns-in_err-code-clause-answers : goal.returns-in_err-code-clause-answers
returns-in_err-code-clause-answers c = λ inside others before.
    let p = err_from_is_err_and c.from_residual.result c.from_residual.ensures.1 in
    rw p.1 (out_of_memory _ _ p.0 p.2)
