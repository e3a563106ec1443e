use Rattle.std.proofs.Common.{Some, ap, arith, suc}
use Rattle.std.proofs.lemmas.Result.{err_from_is_err_and}
use Rattle.record_table.specs.Layout.{judged}
use Rattle.record_read.specs.Reader.{Reader}
use Rattle.record_read.proofs.OnOpening.Answering.{out_of_memory}
use Rattle.record_read.specs.Order.Order.{place_of}
use Rattle.record_read.proofs.OnOrder.Recorded.{refused_so, stays_two, text_told}
use Rattle.record_read.proofs.OnOrder.Texts.{text_behind}
use Rattle.record_read.proofs.order.text.read_module_text.Goals as goal

pub end_part-requires : goal.end_part-requires
end_part-requires c =
    let at = ap (λ (r : Reader). r.at) c.in_ok-text.ensures.reader in
    let some = c.requires in
    omega (arith, at, some)

pub returns-clause-stays : goal.returns-clause-stays
returns-clause-stays c = stays_two c.args.reader.now c.read_last.new.reader c.end_part.new.reader _ c.in_ok-text.ensures.reader c.in_ok-end_part.ensures.stays

pub returns-clause-answers : goal.returns-clause-answers
returns-clause-answers c = λ s operands after b.
    let x = judged s.texts.last operands in
    let t = text_behind s _ c.args.last c.args.reader.now c.read_last.new.reader operands c.in_ok-text.text b c.in_ok-text.ensures in
    text_told s (suc s.at) (place_of c.args.part) x.0 x.1 after c.in_ok-text.text c.read_last.new.reader.walk t.kept t.told_is (c.in_ok-end_part.ensures.answers s (after (Some x.0)) x.1 b.last_is t.at t.told_is)

pub returns-in_err-end_part-clause-answers : goal.returns-in_err-end_part-clause-answers
returns-in_err-end_part-clause-answers c = λ s operands after b.
    let p = err_from_is_err_and c.from_residual-in_err-end_part.result c.from_residual-in_err-end_part.ensures.1 in
    let x = judged s.texts.last operands in
    let t = text_behind s _ c.args.last c.args.reader.now c.read_last.new.reader operands c.in_ok-text.text b c.in_ok-text.ensures in
    rw (p.1, p.2) (refused_so _ _ _ _ (c.in_err-end_part.ensures.answers s (after (Some x.0)) x.1 b.last_is t.at t.told_is))

pub returns-in_err-text-clause-answers : goal.returns-in_err-text-clause-answers
returns-in_err-text-clause-answers c = λ s operands after b.
    let p = err_from_is_err_and c.from_residual.result c.from_residual.ensures.1 in
    rw p.1 (out_of_memory _ _ p.0 p.2)
