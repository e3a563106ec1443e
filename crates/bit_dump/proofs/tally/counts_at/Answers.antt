use Rattle.std.proofs.Common.{sym, ap, ◌∙◌}
use Rattle.bit_dump.specs.Halves.{whole}
use Rattle.bit_dump.proofs.Joined.{counts_there, counts_none}
use Rattle.bit_dump.proofs.tally.counts_at.Goals as goal

pub returns-in-Some : goal.returns-in-Some
returns-in-Some c =
    c.of_halves.ensures ∙ (ap (whole c.in-Some.half.now) c.upper_at.ensures ∙ sym (counts_there c.args.upper.now.entries c.args.lower.now.entries c.args.id c.in-Some.half.now (sym c.in-Some.ensures.value)))

pub returns-in-None : goal.returns-in-None
returns-in-None c = c.none.ensures ∙ sym (counts_none c.args.upper.now.entries c.args.lower.now.entries c.args.id (sym c.in-None.ensures.value))
