use Rattle.std.proofs.Common.{◌≡◌, ◌≤◌, ◌+◌}
use Rattle.std.specs.Prelude.{vec_len, vec_capacity}
use Rattle.run_names.proofs.OnValues.Leaves.{IsPartLoaded}
use Rattle.run_names.proofs.values.load.push_leaves.Given as goal

abbrev pub invariant-slots : goal.invariant-slots
invariant-slots l = record {
  part : IsPartLoaded l.memory l.pointer l.align l.slots l.slot-index l.asked l.initial.into.items l.into.items;
  count : vec_len l.into ≡ vec_len l.initial.into + l.slot-index;
  room : vec_capacity l.initial.into ≤ vec_capacity l.into;
}
