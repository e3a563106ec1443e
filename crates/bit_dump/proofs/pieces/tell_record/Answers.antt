use Rattle.std.proofs.Common.{◌≡◌, length, ◌∙◌}
use Rattle.std.proofs.lemmas.Result.{err_from_is_err_and}
use Rattle.bit_tree.specs.Pieces.{holds}
use Rattle.bit_dump.specs.Outline.{after, after_head, after_operands, after_close, record_end}
use Rattle.bit_dump.proofs.Told.{record_told}
use Rattle.bit_dump.proofs.Telling.{head_more, text_more, wants, wants_piece, tried_longer, record_rest}
use Rattle.bit_dump.proofs.pieces.tell_record.Goals as goal

pub returns-in_err-head-clause-told : goal.returns-in_err-head-clause-told
returns-in_err-head-clause-told g c =
    let p = err_from_is_err_and c.from_residual.result c.from_residual.ensures.1 in
    rw (p.1, p.2) (λ before all h. wants_piece before (g.S.Sink.taken c.args.sink.now) all c.args.outline.now (holds c.args.head.id c.args.head.code c.args.walker.now.operands c.args.walker.now.has_blob c.args.walker.now.blob) h)

pub returns-in_err-tell_values-clause-told : goal.returns-in_err-tell_values-clause-told
returns-in_err-tell_values-clause-told g c =
    let p = err_from_is_err_and c.from_residual-in_err-tell_values.result c.from_residual-in_err-tell_values.ensures.1 in
    rw (p.1, p.2) (λ before all h. (
    let w = c.args.walker.now in
    let head = after_head all c.args.head.id c.args.head.code in
    let told = head_more before (g.S.Sink.taken c.args.sink.now) all c.args.outline.now c.head.new.self c.args.head.id c.args.head.code c.in_ok-head.ensures h in
    let more = record_rest all c.args.head.id c.args.head.code w.operands w.has_blob (length w.blob) in
    tried_longer before (g.S.Sink.taken c.tell_values.new.sink) (after_operands head w.operands) (after all (holds c.args.head.id c.args.head.code w.operands w.has_blob w.blob)) c.tell_values.new.outline c.tell_values.new.outline c.in_err-tell_values.field-0.0 more.0 more.1 (c.in_err-tell_values.ensures.told before head told)))

pub returns-in_err-close-clause-told : goal.returns-in_err-close-clause-told
returns-in_err-close-clause-told g c =
    let p = err_from_is_err_and c.from_residual-in_err-close.result c.from_residual-in_err-close.ensures.1 in
    rw (p.1, p.2) (λ before all h. (
    let w = c.args.walker.now in
    let head = after_head all c.args.head.id c.args.head.code in
    let told = head_more before (g.S.Sink.taken c.args.sink.now) all c.args.outline.now c.head.new.self c.args.head.id c.args.head.code c.in_ok-head.ensures h in
    let more = record_rest all c.args.head.id c.args.head.code w.operands w.has_blob (length w.blob) in
    wants before (g.S.Sink.taken c.tell_values.new.sink) (after_operands head w.operands) c.tell_values.new.outline more.0 (after all (holds c.args.head.id c.args.head.code w.operands w.has_blob w.blob)).text more.1 (c.in_ok-tell_values.ensures.told before head told)))

pub returns-clause-told : goal.returns-clause-told
returns-clause-told g c = λ before all h. (
    let w = c.args.walker.now in
    let head = after_head all c.args.head.id c.args.head.code in
    let told = head_more before (g.S.Sink.taken c.args.sink.now) all c.args.outline.now c.head.new.self c.args.head.id c.args.head.code c.in_ok-head.ensures h in
    let values = c.in_ok-tell_values.ensures.told before head told in
    let ends : c.has_blob-has_blob.result ≡ w.has_blob = c.has_blob-has_blob.ensures ∙ c.in_ok-tell_values.ensures.has_blob in
    let blob : c.blob-size.result.now ≡ w.blob = c.blob-size.ensures ∙ c.in_ok-tell_values.ensures.blob in
    let close : c.close.new.self ≡ after_close c.tell_values.new.outline w.has_blob (length w.blob) = rw (ends, blob) at c.in_ok-close.ensures in
    let closed = text_more before (g.S.Sink.taken c.tell_values.new.sink) (after_operands head w.operands) c.tell_values.new.outline c.close.new.self (record_end w.has_blob (length w.blob)) close values in
    rw (record_told all c.args.head.id c.args.head.code w.operands w.has_blob (length w.blob)) at (c.spill.ensures.told before (after_close (after_operands head w.operands) w.has_blob (length w.blob)) closed))
