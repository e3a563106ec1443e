use Rattle.ir_printf.proofs.Joined.{reads_whole}
use Rattle.ir_printf.proofs.pattern.a_pattern_is_its_pieces.Goals as goal

pub returns : goal.returns
returns c = reads_whole
