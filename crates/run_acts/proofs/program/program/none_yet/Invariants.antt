use Rattle.std.proofs.Common.{◌≡◌, None}
use Rattle.std.specs.Prelude.{replicate}
use Rattle.run_acts.proofs.program.program.none_yet.Given as goal

-- there is room for so many, and nothing in it
abbrev pub invariant-functions : goal.invariant-functions
invariant-functions g l = l.room.items ≡ replicate l._function None
