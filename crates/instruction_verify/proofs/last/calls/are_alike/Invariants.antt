use Rattle.std.proofs.Common.{◌≡◌, drop}
use Rattle.instruction_verify.specs.Last.CallsById.{are_alike}
use Rattle.instruction_verify.proofs.last.calls.are_alike.Given as goal

-- what is left is alike where all are
abbrev pub invariant-loop-index : goal.invariant-loop-index
invariant-loop-index l = are_alike l.types (drop l.index l.parameters) (drop l.index l.arguments) ≡ are_alike l.types l.parameters l.arguments
