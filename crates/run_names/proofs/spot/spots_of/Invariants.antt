use Rattle.std.proofs.Common.{◌≡◌, ℕ, ◌+◌, ◌*◌, ◌^◌, ◌≤◌, Some}
use Rattle.std.specs.Prelude.{slice_get}
use Rattle.run_names.specs.declared.spot.Spot.{Spot}
use Rattle.run_names.proofs.Put.{ArePut}
use Rattle.run_names.proofs.spot.spots_of.Given as goal

abbrev pub invariant-variables : goal.invariant-variables
invariant-variables l = record {
  put : ArePut l.program l.program.variables l.number l.spots.items l.next;
  next : l.next ≤ 65536 + l.number * (2 ^ 40 + 2 ^ 17);
  within : (k : ℕ) (s : Spot) → slice_get l.spots.items k ≡ Some s → s.start + s.size ≤ 2 ^ 60;
}
