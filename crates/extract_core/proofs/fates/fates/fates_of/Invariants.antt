use Rattle.std.proofs.Common.{◌≡◌, take}
use Rattle.extract_core.specs.Fates.Fates.{fates_of}
use Rattle.extract_core.proofs.fates.fates.fates_of.Given as goal

abbrev pub invariant-loop-number : goal.invariant-loop-number
invariant-loop-number l = l.fates ≡ fates_of (take l.number l.kept) (take l.number l.named)
