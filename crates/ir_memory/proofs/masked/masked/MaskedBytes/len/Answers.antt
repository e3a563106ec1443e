use Rattle.std.proofs.Common.{sym, ap, ◌∙◌, length}
use Rattle.ir_memory.proofs.OnMasked.Puts.{length-masked}
use Rattle.ir_memory.proofs.masked.masked.MaskedBytes.len.Goals as goal

pub returns : goal.returns
returns c = c.len.ensures ∙ c.self.inside.bytes.ok.0 ∙ sym (length-masked _ _) ∙ ap length c.self.view_is
