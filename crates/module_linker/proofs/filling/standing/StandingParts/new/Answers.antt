use Rattle.std.proofs.Common.{slice_get, ap}
use Rattle.module_linker.proofs.filling.standing.StandingParts.new.Goals as goal

pub returns : goal.returns
returns c = record {
  parts_there = λ m x home le at is. ap (λ l. slice_get l home.part) c.in_ok-parts.ensures;
  last = c.in_ok-last.ensures;
}
