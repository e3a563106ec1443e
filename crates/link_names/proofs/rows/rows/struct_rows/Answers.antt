use Rattle.std.proofs.Common.{◌∙◌}
use Rattle.link_names.proofs.rows.rows.struct_rows.Goals as goal

pub add_parts-requires : goal.add_parts-requires
add_parts-requires c = c.in_ok-rows.ensures

pub returns-clause-names : goal.returns-clause-names
returns-clause-names c = c.into_names.ensures ∙ c.in_ok-numbers.ensures.names

pub returns-clause-numbers : goal.returns-clause-numbers
returns-clause-numbers c = c.in_ok-numbers.ensures.numbers

pub returns-clause-sound : goal.returns-clause-sound
returns-clause-sound c = c.in_ok-numbers.ensures.sound
