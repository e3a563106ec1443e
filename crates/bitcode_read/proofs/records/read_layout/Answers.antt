use Rattle.std.proofs.Common.{refl, sym}
use Rattle.std.proofs.lemmas.Result.{err_from_is_err_and}
use Rattle.bitcode_read.proofs.Earlies.{stands_behind, layout_answers}
use Rattle.bitcode_read.proofs.Opened.{refused_so}
use Rattle.bitcode_read.proofs.records.read_layout.Goals as goal

pub returns-clause-room : goal.returns-clause-room
returns-clause-room c = record { variables = c.requires.room.variables; functions = c.requires.room.functions; aliases = c.requires.room.aliases; numbers = c.requires.room.numbers }

pub returns-clause-reads : goal.returns-clause-reads
returns-clause-reads c = λ all known s operands behind h walk at.
    layout_answers _ all known c.args.m.now c.read_module_text.new.reader c.args.sofar.now _ s operands behind at _ h c.in_ok-sofar.ensures.stays (sym c.place-sofar.ensures) refl refl
    (c.in_ok-sofar.ensures.answers s operands (λ x. record s { layout = x }) (stands_behind _ all known c.args.m.now c.args.sofar.now s _ operands h walk at))

pub returns-in_err-sofar-clause-reads : goal.returns-in_err-sofar-clause-reads
returns-in_err-sofar-clause-reads c = λ all known s operands behind h walk at.
    let p = err_from_is_err_and c.from_residual.result c.from_residual.ensures.1 in
    rw (p.1, p.2) (refused_so _ _ _ _ (c.in_err-sofar.ensures.answers s operands (λ x. record s { layout = x }) (stands_behind _ all known c.args.m.now c.args.sofar.now s _ operands h walk at)))
