use Rattle.std.proofs.Common.{sym}
use Rattle.ir_memory.specs.Numbered.{kept_in}
use Rattle.ir_memory.proofs.Numbers.{length-numbered}
use Rattle.ir_memory.proofs.table.BlockTable.len.Goals as goal

pub returns : goal.returns
returns c = rw (← c.self.view_is) (sym (length-numbered c.self.inside.count (kept_in c.self.inside.pages.items)))
