use Rattle.std.proofs.Common.{sym}
use Rattle.ir_tables.proofs.Tables.{found_at, not_here, found_nowhere}
use Rattle.ir_tables.proofs.table.Table.code_of.Goals as goal

pub returns-then-row-code : goal.returns-then-row-code
returns-then-row-code g c = found_at (λ entry. entry.code) c.self.inside.rows.now c.args.self.now c.args.code c.loop-place.place _ (sym c.self.view_is) c.self.invariant.distinct_codes c.loop-place-test.true c.if-row-code.true

pub loop-place-preserved : goal.loop-place-preserved
loop-place-preserved g c = not_here (λ entry. entry.code) c.self.inside.rows.now c.args.code c.loop-place.place _ c.loop-place-test.true c.loop-place.invariant c.if-row-code.false

pub returns : goal.returns
returns g c = found_nowhere (λ entry. entry.code) c.self.inside.rows.now c.args.self.now c.args.code c.loop-place.place (sym c.self.view_is) c.loop-place-test.false c.loop-place.invariant
