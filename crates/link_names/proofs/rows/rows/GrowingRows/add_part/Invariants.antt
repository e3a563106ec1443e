use Rattle.linkage_rules.specs.Ids.{modules}
use Rattle.link_names.proofs.OnRows.Adding.{AreAdding}
use Rattle.link_names.proofs.rows.rows.GrowingRows.add_part.Given as goal

abbrev pub invariant-structs : goal.invariant-structs
invariant-structs l = AreAdding (modules l.parts) l.part l.number l.from l.walk l.self l.numbers
