use Rattle.std.proofs.Common.{◌∙◌, append_assoc}
use Rattle.bit_dump.specs.Text.{definition_head}
use Rattle.bit_dump.proofs.text.put_definition_head.Goals as goal

pub returns : goal.returns
unfolding definition_head
returns c = c.in_ok-write.ensures.bytes ∙ rw c.in_ok-put_indent.ensures (simp append_assoc)
