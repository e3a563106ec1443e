use Rattle.std.specs.Io.KnownBytes.{Keeps}
use Rattle.ir_base.proofs.standard.read_again.Given as goal

-- the calls that were interrupted kept the bytes
abbrev pub invariant-loop : goal.invariant-loop
invariant-loop g l = Keeps (g.R.Read.remaining l.fn.from) (g.R.Read.remaining l.from)
