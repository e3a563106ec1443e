use Rattle.std.proofs.Common.{◌∷◌, refl, sym, ap, ◌∙◌, string_bytes}
use Rattle.std.proofs.lemmas.Result.{err_from_is_err_and}
use Rattle.bit_dump.specs.declared.counts.StreamCounts.{StreamCounts}
use Rattle.bit_dump.specs.Halves.{joined, whole}
use Rattle.bit_dump.proofs.Spilling.{no_rows, row_more, row_stops}
use Rattle.bit_dump.proofs.tally.tell_rows.Goals as goal

pub loop-id-init : goal.loop-id-init
loop-id-init g c = record {
  told = no_rows (g.S.Sink.taken c.args.sink.now) (string_bytes c.args.text.now) (joined c.args.upper.now.entries c.args.lower.now.entries) (joined c.args.upper.now.entries c.into_iter-id-iterator.result) (ap (joined c.args.upper.now.entries) c.into_iter-id-iterator.ensures.into_iter_gives.0);
  faults = refl;
}

pub loop-id-preserved : goal.loop-id-preserved
loop-id-preserved g c = record {
  told = row_more (g.S.Sink.taken c.args.sink.now) (g.S.Sink.taken c.loop-id.sink) (g.S.Sink.taken c.tell_row.new.sink) (string_bytes c.args.text.now) (string_bytes c.loop-id.text) (string_bytes c.tell_row.new.text) (joined c.args.upper.now.entries c.args.lower.now.entries) (joined c.args.upper.now.entries c.loop-id.id-iterator) (joined c.args.upper.now.entries c.next.new.self) (c.in-Some.id.now, c.of_halves-counts.result) (ap (joined c.args.upper.now.entries) c.in-Some.ensures.steps ∙ ap (λ (x : StreamCounts). (c.in-Some.id.now, x) ∷ joined c.args.upper.now.entries c.next.new.self) (sym (c.of_halves-counts.ensures ∙ ap (whole c.in-Some.half.now) c.upper_at.ensures))) c.loop-id.invariant.told c.in_ok-tell_row.ensures.told;
  faults = c.in_ok-tell_row.ensures.counted ∙ c.loop-id.invariant.faults;
}

pub returns-in_err-tell_row-clause-told : goal.returns-in_err-tell_row-clause-told
returns-in_err-tell_row-clause-told g c =
    let p = err_from_is_err_and c.from_residual.result c.from_residual.ensures.1 in
    rw (p.1, p.2) (row_stops (g.S.Sink.taken c.args.sink.now) (g.S.Sink.taken c.loop-id.sink) (g.S.Sink.taken c.tell_row.new.sink) (string_bytes c.args.text.now) (string_bytes c.loop-id.text) (string_bytes c.tell_row.new.text) (string_bytes c.tell_row.new.text) (joined c.args.upper.now.entries c.args.lower.now.entries) (joined c.args.upper.now.entries c.loop-id.id-iterator) (joined c.args.upper.now.entries c.next.new.self) (c.in-Some.id.now, c.of_halves-counts.result) c.in_err-tell_row.field-0.0 (ap (joined c.args.upper.now.entries) c.in-Some.ensures.steps ∙ ap (λ (x : StreamCounts). (c.in-Some.id.now, x) ∷ joined c.args.upper.now.entries c.next.new.self) (sym (c.of_halves-counts.ensures ∙ ap (whole c.in-Some.half.now) c.upper_at.ensures))) c.loop-id.invariant.told c.in_err-tell_row.ensures.told)
