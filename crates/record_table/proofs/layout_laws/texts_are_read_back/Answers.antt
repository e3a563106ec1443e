use Rattle.record_table.proofs.TextsBack.{lays_sized}
use Rattle.record_table.proofs.layout_laws.texts_are_read_back.Goals as goal

pub returns : goal.returns
returns c = lays_sized
