use Rattle.std.proofs.lemmas.Result.{err_from_is_err_and}
use Rattle.bit_tree.specs.Pieces.{begun, ended, defines}
use Rattle.bit_dump.proofs.Telling.{wants_piece}
use Rattle.bit_dump.proofs.pieces.tell.Goals as goal

pub returns-in_err-begin-in-Begun-clause-told : goal.returns-in_err-begin-in-Begun-clause-told
returns-in_err-begin-in-Begun-clause-told g c =
    let p = err_from_is_err_and c.from_residual.result c.from_residual.ensures.1 in
    rw (c.in-Begun.is, p.1, p.2) (λ before all h. wants_piece before (g.S.Sink.taken c.args.sink.now) all c.args.outline.now (begun c.in-Begun.head.id c.in-Begun.head.width c.in-Begun.head.words) h)

pub returns-in_err-end-in-Ended-clause-told : goal.returns-in_err-end-in-Ended-clause-told
returns-in_err-end-in-Ended-clause-told g c =
    let p = err_from_is_err_and c.from_residual-in_err-end-in-Ended.result c.from_residual-in_err-end-in-Ended.ensures.1 in
    rw (c.in-Ended.is, p.1, p.2) (λ before all h. wants_piece before (g.S.Sink.taken c.args.sink.now) all c.args.outline.now ended h)

pub returns-in_err-operands-in-Defined-clause-told : goal.returns-in_err-operands-in-Defined-clause-told
returns-in_err-operands-in-Defined-clause-told g c =
    let p = err_from_is_err_and c.from_residual-in_err-operands-in-Defined.result c.from_residual-in_err-operands-in-Defined.ensures.1 in
    rw (c.in-Defined.is, p.1, p.2) (λ before all h. wants_piece before (g.S.Sink.taken c.args.sink.now) all c.args.outline.now (defines c.in-Defined.id c.args.walker.now.abbreviation) h)

pub returns-in_err-define-in-Defined-clause-told : goal.returns-in_err-define-in-Defined-clause-told
returns-in_err-define-in-Defined-clause-told g c =
    let p = err_from_is_err_and c.from_residual-in_err-define-in-Defined.result c.from_residual-in_err-define-in-Defined.ensures.1 in
    rw (c.in-Defined.is, p.1, p.2) (λ before all h. wants_piece before (g.S.Sink.taken c.args.sink.now) all c.args.outline.now (defines c.in-Defined.id c.args.walker.now.abbreviation) h)

pub returns-in-Held-clause-told : goal.returns-in-Held-clause-told
returns-in-Held-clause-told g c = rw c.in-Held.is c.tell_record.ensures.told
