use Rattle.std.proofs.Common.{ℕ, ◌<◌, ◌≤◌, All, take}
use Rattle.entry_copy.proofs.structs.behind.behind.Given as goal

abbrev pub invariant-loop-field : goal.invariant-loop-field
invariant-loop-field l = record {
  upto : l.behind ≤ l.count;
  past : All (λ id. id < l.behind) (take l.field-index l.fields);
  least : (fewer : ℕ) → All (λ id. id < fewer) l.fields → l.behind ≤ fewer;
}
