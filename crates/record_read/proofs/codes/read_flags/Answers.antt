use Rattle.std.proofs.Common.{inl, ap}
use Rattle.record_read.specs.Reader.{Reader}
use Rattle.record_read.proofs.Asking.{refused_broken}
use Rattle.record_read.proofs.codes.read_flags.Goals as goal

pub returns-in-None-clause-kept : goal.returns-in-None-clause-kept
returns-in-None-clause-kept c = inl (refused_broken 3 _ _ (ap (λ (r : Reader). r.walk) c.refuse.ensures) c.stops_where_broken.ensures)
