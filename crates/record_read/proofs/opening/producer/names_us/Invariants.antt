use Rattle.std.proofs.Common.{◌≡◌, ◌≤◌, ◌-◌, ℕ, List, None}
use Rattle.record_table.specs.Walk.{going}
use Rattle.record_read.proofs.OnOpening.Naming.{IsNaming}
use Rattle.record_read.proofs.opening.producer.names_us.Given as goal

abbrev pub invariant-bytes : goal.invariant-bytes
invariant-bytes l = (l.place ≤ 17) × ((l.reader ≡ record l.initial.reader { walk = l.reader.walk }) × ((operands : List ℕ) → l.initial.reader.walk ≡ going operands None → IsNaming operands l.place l.reader.walk))

abbrev pub decreases-bytes : goal.decreases-bytes
decreases-bytes l = 17 - l.place
