use Rattle.std.proofs.Common.{◌≡◌, [], false, length}
use Rattle.record_table.specs.Faults.{Records}
use Rattle.record_read.specs.Entries.{IsBefore}
use Rattle.bitcode_read.proofs.OnHead.Finding.{IsSought}
use Rattle.bitcode_read.proofs.head.ahead.find_module.Given as goal

abbrev pub invariant-entries : goal.invariant-entries
invariant-entries l = (l.reader.spent ≡ false) × ((all : Records) → IsBefore l.initial.reader.left all [] → IsSought all l.reader)

abbrev pub decreases-entries : goal.decreases-entries
decreases-entries l = length l.reader.left
