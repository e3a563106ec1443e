use Rattle.std.proofs.Common.{ap, ◌∙◌}
use Rattle.entry_copy.specs.Tables.{tables_of}
use Rattle.extract_core.proofs.extracting.part_by.Goals as goal

pub fill_part-requires-clause-new : goal.fill_part-requires-clause-new
fill_part-requires-clause-new c = c.new-copier.ensures ∙ ap tables_of c.new-structs.ensures.items

pub returns : goal.returns
returns c = λ s are. c.in_ok-fill_part.ensures s are
