use Rattle.std.proofs.Common.{◌≡◌, ◌+◌, ◌-◌, ◌≤◌, length, drop}
use Rattle.std.specs.List.{prefix_len}
use Rattle.run_names.specs.Values.Strings.{is_inside}
use Rattle.run_names.proofs.values.string.inside_count.Given as goal

-- no byte so far is zero
abbrev pub invariant-fours : goal.invariant-fours
invariant-fours l = record {
  done : prefix_len is_inside l.bytes ≡ l.count + prefix_len is_inside (drop l.count l.bytes);
  within : l.count ≤ length l.bytes;
}

-- none is behind the last
abbrev pub decreases-fours : goal.decreases-fours
decreases-fours l = length l.bytes - l.count
