use Rattle.record_table.proofs.TextsBack.{lays_label}
use Rattle.record_table.proofs.layout_laws.labels_are_read_back.Goals as goal

pub returns : goal.returns
returns c = lays_label
