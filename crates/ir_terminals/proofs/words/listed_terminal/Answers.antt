use Rattle.std.proofs.Common.{◌≡◌, true, false, sym, ◌∙◌, get_or, arith}
use Rattle.ir_terminals.specs.WordRows.{slot}
use Rattle.ir_terminals.specs.declared.words.TheConstants.{ROWS}
use Rattle.ir_terminals.proofs.WordLists.{row_in, row_tells, rows_long}
use Rattle.ir_terminals.proofs.words.listed_terminal.Goals as goal

pub bounds-rows-from : goal.bounds-rows-from
bounds-rows-from c =
    let n : c.from.result ≡ get_or ROWS (slot c.args.word.now) 0 = rw (← c.slot_of.ensures.slot) c.from.ensures in
    omega (arith, n, row_in c.args.word.now 0, rows_long c.rows-rows.result.now c.rows-rows.ensures)

pub returns-then-eq : goal.returns-then-eq
returns-then-eq c =
    let n : c.from.result ≡ get_or ROWS (slot c.args.word.now) 0 = rw (← c.slot_of.ensures.slot) c.from.ensures in
    sym (row_tells c.rows-rows.result.now c.args.word.now _ c.from.result _ true c.rows-rows.ensures n c.as_bytes.ensures.value (sym c.if-eq.true ∙ c.eq.ensures))

pub returns-else-eq : goal.returns-else-eq
returns-else-eq c =
    let n : c.from.result ≡ get_or ROWS (slot c.args.word.now) 0 = rw (← c.slot_of.ensures.slot) c.from.ensures in
    sym (row_tells c.rows-rows.result.now c.args.word.now _ c.from.result _ false c.rows-rows.ensures n c.as_bytes.ensures.value (sym c.if-eq.false ∙ c.eq.ensures))
