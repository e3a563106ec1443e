use Rattle.link_names.proofs.OnRows.Adding.{AreAdded}
use Rattle.link_names.proofs.rows.rows.add_parts.Given as goal

abbrev pub invariant-parts : goal.invariant-parts
invariant-parts l = AreAdded l.parts l.part l.rows l.numbers
