use Rattle.std.proofs.Common.{[], sym, subst, ◌∙◌}
use Rattle.std.specs.Prelude.{Ok}
use Rattle.std.proofs.lemmas.Result.{err_from_is_err_and}
use Rattle.record_read.specs.Opening.Entering.{EntersModule}
use Rattle.record_read.proofs.OnOpening.Answering.{out_of_memory}
use Rattle.record_read.proofs.OnOpening.Ways.{answers_inline, answers_tabled, begun, refuses_inline, refuses_tabled, table_at, table_refused, tabled}
use Rattle.record_read.proofs.opening.entering.read_texts.Goals as goal

pub read_table-requires-clause-unspent : goal.read_table-requires-clause-unspent
read_table-requires-clause-unspent c = c.in_ok-entry.ensures.0

pub read_table-requires-clause-begun : goal.read_table-requires-clause-begun
read_table-requires-clause-begun c =
    let w = c.requires.whole in
    let b = begun c.args.reader.now.at w.all c.args.reader.now c.next.new.self c.in_ok-entry.entry (c.in_ok-entry.ensures.2 w.all [] w.before) (sym c.is_table.ensures ∙ c.if-is_table.true) in
    record { inside = b.0.inside; others = b.0.pieces; before = b.0.before }

pub returns-in_err-entry-clause-answers : goal.returns-in_err-entry-clause-answers
returns-in_err-entry-clause-answers c = λ all before.
    let p = err_from_is_err_and c.from_residual.result c.from_residual.ensures.1 in
    rw p.1 (out_of_memory _ _ p.0 p.2)

pub returns-in_err-bytes-clause-answers : goal.returns-in_err-bytes-clause-answers
returns-in_err-bytes-clause-answers c = λ all before.
    let p = err_from_is_err_and c.from_residual-in_err-bytes.result c.from_residual-in_err-bytes.ensures.1 in
    let b = begun c.args.reader.now.at all c.args.reader.now c.next.new.self c.in_ok-entry.entry (c.in_ok-entry.ensures.2 all [] before) (sym c.is_table.ensures ∙ c.if-is_table.true) in
    rw (p.1, p.2) (table_refused c.args.reader.now.at all c.next.new.self c.read_table.new.reader _ _ b.0
    (table_at c.args.reader.now c.next.new.self c.read_table.new.reader b.0.pieces _ b.0.inside b.1 (c.in_err-bytes.ensures.answers b.0.inside b.0.pieces b.0.before)))

pub returns-in_err-following-clause-answers : goal.returns-in_err-following-clause-answers
returns-in_err-following-clause-answers c = λ all before.
    let p = err_from_is_err_and c.from_residual-in_err-following.result c.from_residual-in_err-following.ensures.1 in
    rw p.1 (out_of_memory _ _ p.0 p.2)

pub returns-in_err-enter_module-clause-answers : goal.returns-in_err-enter_module-clause-answers
returns-in_err-enter_module-clause-answers c = λ all before.
    let p = err_from_is_err_and c.from_residual-in_err-enter_module.result c.from_residual-in_err-enter_module.ensures.1 in
    let b = begun c.args.reader.now.at all c.args.reader.now c.next.new.self c.in_ok-entry.entry (c.in_ok-entry.ensures.2 all [] before) (sym c.is_table.ensures ∙ c.if-is_table.true) in
    let i = tabled c.args.reader.now.at all c.next.new.self c.read_table.new.reader c.in_ok-bytes.bytes b.0 (table_at c.args.reader.now c.next.new.self c.read_table.new.reader b.0.pieces _ b.0.inside b.1 (c.in_ok-bytes.ensures.answers b.0.inside b.0.pieces b.0.before)) in
    rw (p.1, p.2) (refuses_tabled c.args.reader.now.at all c.in_ok-bytes.bytes c.read_table.new.reader c.next-then-is_table.new.self _ c.in_ok-following.following _ c.at-behind.result i (c.in_ok-following.ensures.2 i.behind [] i.before) c.at-behind.ensures c.in_err-enter_module.ensures)

pub returns-then-is_table-clause-answers : goal.returns-then-is_table-clause-answers
returns-then-is_table-clause-answers c = λ all before.
    let b = begun c.args.reader.now.at all c.args.reader.now c.next.new.self c.in_ok-entry.entry (c.in_ok-entry.ensures.2 all [] before) (sym c.is_table.ensures ∙ c.if-is_table.true) in
    let i = tabled c.args.reader.now.at all c.next.new.self c.read_table.new.reader c.in_ok-bytes.bytes b.0 (table_at c.args.reader.now c.next.new.self c.read_table.new.reader b.0.pieces _ b.0.inside b.1 (c.in_ok-bytes.ensures.answers b.0.inside b.0.pieces b.0.before)) in
    answers_tabled c.args.reader.now.at all c.in_ok-bytes.bytes c.read_table.new.reader c.next-then-is_table.new.self c.in_ok-following.following tt i (c.in_ok-following.ensures.2 i.behind [] i.before) (subst (λ n. EntersModule c.in_ok-following.following n (Ok tt)) c.at-behind.ensures c.in_ok-enter_module.ensures)

pub returns-in_err-enter_module-2-clause-answers : goal.returns-in_err-enter_module-2-clause-answers
returns-in_err-enter_module-2-clause-answers c = λ all before.
    let p = err_from_is_err_and c.from_residual-in_err-enter_module-2.result c.from_residual-in_err-enter_module-2.ensures.1 in
    rw (p.1, p.2) (refuses_inline all c.args.reader.now c.next.new.self _ c.in_ok-entry.entry _ c.at-at.result (c.in_ok-entry.ensures.2 all [] before) (sym c.is_table.ensures ∙ c.if-is_table.false) c.at-at.ensures c.in_err-enter_module-2.ensures)

pub returns-clause-answers : goal.returns-clause-answers
returns-clause-answers c = λ all before.
    answers_inline all c.args.reader.now c.next.new.self c.in_ok-entry.entry tt (c.in_ok-entry.ensures.2 all [] before) (sym c.is_table.ensures ∙ c.if-is_table.false) (subst (λ n. EntersModule c.in_ok-entry.entry n (Ok tt)) c.at-at.ensures c.in_ok-enter_module-2.ensures)
