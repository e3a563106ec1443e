use Rattle.std.proofs.Common.{ap, ◌∙◌}
use Rattle.bit_dump.specs.Halves.{joined, whole}
use Rattle.bit_dump.specs.Tally.{one_more}
use Rattle.bit_dump.proofs.Joined.{changed}
use Rattle.bit_dump.proofs.tally.add_to.Goals as goal

pub returns : goal.returns
returns c =
    let low = c.halves.result.0 in
    let is = ap (whole low) c.in_ok-set_upper.ensures.here ∙ (c.halves.ensures ∙ (c.in_ok-with.ensures ∙ ap (one_more c.args.kind) c.counts_at.ensures)) in
    ap (joined c.set_upper.new.upper.entries) c.in_ok-insert.ensures.entries
    ∙ changed c.args.upper.now.entries c.set_upper.new.upper.entries c.args.lower.now.entries c.args.id low _ c.in_ok-insert.ensures.was_ordered c.in_ok-set_upper.ensures.others is
