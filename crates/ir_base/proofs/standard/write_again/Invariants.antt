use Rattle.std.specs.Io.KnownBytes.{Keeps}
use Rattle.ir_base.proofs.standard.write_again.Given as goal

-- the calls that were interrupted kept the bytes
abbrev pub invariant-loop : goal.invariant-loop
invariant-loop g l = Keeps (g.W.Write.contents l.fn.to) (g.W.Write.contents l.to)
