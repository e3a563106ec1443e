use Rattle.std.proofs.Common.{refl, sym, subst}
use Rattle.record_table.specs.Layout.{number}
use Rattle.record_read.specs.Reader.{Reads}
use Rattle.type_read.proofs.OnArena.LeavesRead.{number_short, number_long}
use Rattle.type_read.proofs.arena.leaves.read_number.Goals as goal

pub returns-then-width-le64-clause-value : goal.returns-then-width-le64-clause-value
returns-then-width-le64-clause-value c =
    let low = subst (Reads number c.args.reader.now c.number.new.self) (sym c.from-low.ensures) c.number.ensures in
    (number_short c.args.width c.args.reader.now c.number.new.self c.ask.new.self c.from-low.result c.fits-fits_low.result c.if-width-le64.true low c.fits-fits_low.ensures c.ask.ensures).value

pub returns-then-width-le64-clause-reader : goal.returns-then-width-le64-clause-reader
returns-then-width-le64-clause-reader c =
    let low = subst (Reads number c.args.reader.now c.number.new.self) (sym c.from-low.ensures) c.number.ensures in
    (number_short c.args.width c.args.reader.now c.number.new.self c.ask.new.self c.from-low.result c.fits-fits_low.result c.if-width-le64.true low c.fits-fits_low.ensures c.ask.ensures).reader

pub returns-clause-value : goal.returns-clause-value
returns-clause-value c =
    let low = subst (Reads number c.args.reader.now c.number.new.self) (sym c.from-low.ensures) c.number.ensures in
    let high = subst (Reads number c.number.new.self c.number-2.new.self) (sym c.from-high.ensures) c.number-2.ensures in
    (number_long c.args.width c.args.reader.now c.number.new.self c.number-2.new.self c.ask-2.new.self c.from-low.result c.from-high.result _ c.fits-fits_both.result c.if-width-le64.false low high refl c.fits-fits_both.ensures c.ask-2.ensures).value

pub returns-clause-reader : goal.returns-clause-reader
returns-clause-reader c =
    let low = subst (Reads number c.args.reader.now c.number.new.self) (sym c.from-low.ensures) c.number.ensures in
    let high = subst (Reads number c.number.new.self c.number-2.new.self) (sym c.from-high.ensures) c.number-2.ensures in
    (number_long c.args.width c.args.reader.now c.number.new.self c.number-2.new.self c.ask-2.new.self c.from-low.result c.from-high.result _ c.fits-fits_both.result c.if-width-le64.false low high refl c.fits-fits_both.ensures c.ask-2.ensures).reader
