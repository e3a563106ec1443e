use Rattle.std.proofs.Common.{◌≡◌}
use Rattle.bit_stream.specs.Definition.{parts}
use Rattle.bit_stream.proofs.definition.parts.Given as goal

abbrev pub invariant-loop-left : goal.invariant-loop-left
invariant-loop-left l = parts l.left l.operands.items l.cursor ≡ parts l.count l.initial.operands.items l.initial.cursor

abbrev pub decreases-loop-left : goal.decreases-loop-left
decreases-loop-left l = l.left
