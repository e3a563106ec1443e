use Rattle.std.proofs.Common.{sym, ap, ◌∙◌}
use Rattle.record_read.specs.Fields.{are_bytes}
use Rattle.record_read.proofs.bytes.is_of_bytes.Goals as goal

pub returns : goal.returns
returns c = ap are_bytes (sym (c.bytes.ensures ∙ c.text.ensures.bytes)) ∙ c.each_is_byte.ensures
