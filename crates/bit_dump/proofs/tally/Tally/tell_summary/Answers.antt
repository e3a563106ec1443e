use Rattle.std.proofs.Common.{◌++◌, Err, subst, string_bytes}
use Rattle.std.specs.List.{flat_map}
use Rattle.std.proofs.lemmas.Result.{err_from_is_err_and}
use Rattle.bit_dump.specs.Tally.{Tally}
use Rattle.bit_dump.specs.Telling.{Spilled, WroteFirst}
use Rattle.bit_dump.specs.Text.{row_line}
use Rattle.bit_dump.proofs.Spilling.{rows_stop, total_wanted}
use Rattle.bit_dump.proofs.tally.Tally.tell_summary.Goals as goal

pub returns-in_err-put_total-clause-told : goal.returns-in_err-put_total-clause-told
returns-in_err-put_total-clause-told g c =
    let p = err_from_is_err_and c.from_residual-in_err-put_total.result c.from_residual-in_err-put_total.ensures.1 in
    let told = subst (λ (t : Tally). WroteFirst (g.S.Sink.taken c.args.sink.now) (g.S.Sink.taken c.tell_rows.new.sink) (string_bytes c.args.text.now ++ flat_map row_line t.rows) (string_bytes c.tell_rows.new.text)) c.self.view_is c.in_ok-tell_rows.ensures.told in
    rw (p.1, p.2) (total_wanted (g.S.Sink.taken c.args.sink.now) (g.S.Sink.taken c.tell_rows.new.sink) (string_bytes c.args.text.now) (string_bytes c.tell_rows.new.text) c.args.self.now told)

pub returns-in_err-tell_rows-clause-told : goal.returns-in_err-tell_rows-clause-told
returns-in_err-tell_rows-clause-told g c =
    let p = err_from_is_err_and c.from_residual.result c.from_residual.ensures.1 in
    let told = subst (λ (t : Tally). Spilled (flat_map row_line t.rows) (g.S.Sink.taken c.args.sink.now) (string_bytes c.args.text.now) (g.S.Sink.taken c.tell_rows.new.sink) (string_bytes c.tell_rows.new.text) (Err c.in_err-tell_rows.field-0.0)) c.self.view_is c.in_err-tell_rows.ensures.told in
    rw (p.1, p.2) (rows_stop (g.S.Sink.taken c.args.sink.now) (g.S.Sink.taken c.tell_rows.new.sink) (string_bytes c.args.text.now) (string_bytes c.tell_rows.new.text) c.args.self.now c.in_err-tell_rows.field-0.0 told)
