use Rattle.std.proofs.Common.{sym, ◌∙◌}
use Rattle.ir_syntax.proofs.Further.{left_out_by_itself}
use Rattle.ir_syntax.proofs.read.is_bad_left_out.Goals as goal

pub returns : goal.returns
returns c =
    left_out_by_itself c.args.cursor.now c.args.text.now c.requires.text c.requires.token c.requires.first_bad (sym c.is_of_wider_language.ensures ∙ c.if-is_of_wider_language.false) c.is_left_out-2.result c.is_left_out-2.ensures
