use Rattle.record_table.proofs.TextsBack.{lays_name}
use Rattle.record_table.proofs.layout_laws.names_are_read_back.Goals as goal

pub returns : goal.returns
returns c = lays_name
