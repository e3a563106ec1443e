use Rattle.record_table.proofs.TableLaws.{held_in_table}
use Rattle.record_table.proofs.layout_laws.texts_are_held.Goals as goal

pub returns : goal.returns
returns c = held_in_table
