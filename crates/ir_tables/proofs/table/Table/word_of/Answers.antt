use Rattle.std.proofs.Common.{sym, ◌∙◌}
use Rattle.std.proofs.lemmas.Slice.Eq.{bytes_eq-Decides}
use Rattle.ir_tables.proofs.Tables.{found_at, not_here, found_nowhere}
use Rattle.ir_tables.proofs.table.Table.word_of.Goals as goal

pub returns-then-eq : goal.returns-then-eq
returns-then-eq g c =
    let same = (bytes_eq-Decides c.as_bytes.result.now c.args.word.now).0 (sym c.eq.ensures ∙ c.if-eq.true) in
    found_at (λ entry. entry.word) c.self.inside.rows.now c.args.self.now c.args.word.now c.loop-place.place _ (sym c.self.view_is) c.self.invariant.distinct_words c.loop-place-test.true (sym c.as_bytes.ensures.value ∙ same)

pub loop-place-preserved : goal.loop-place-preserved
loop-place-preserved g c =
    not_here (λ entry. entry.word) c.self.inside.rows.now c.args.word.now c.loop-place.place _ c.loop-place-test.true c.loop-place.invariant
    (λ same. let t = (bytes_eq-Decides c.as_bytes.result.now c.args.word.now).1 (c.as_bytes.ensures.value ∙ same) in let f = c.if-eq.false in let e = c.eq.ensures in cc)

pub returns : goal.returns
returns g c = found_nowhere (λ entry. entry.word) c.self.inside.rows.now c.args.self.now c.args.word.now c.loop-place.place (sym c.self.view_is) c.loop-place-test.false c.loop-place.invariant
