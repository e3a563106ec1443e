use Rattle.std.proofs.Common.{sym, ◌∙◌, inl}
use Rattle.ir_syntax.proofs.Refusals.{left_out_told, left_out_wider}
use Rattle.ir_syntax.proofs.read.is_left_out.Goals as goal

pub returns-then-is_left_out : goal.returns-then-is_left_out
returns-then-is_left_out c = λ t e. inl (sym (left_out_told c.args.cursor.now c.args.text.now c.requires.text t e) ∙ (sym c.is_left_out.ensures ∙ c.if-is_left_out.true))

pub returns : goal.returns
returns c =
    λ t e. left_out_wider c.args.text.now c.args.cursor.now.taken t (sym (left_out_told c.args.cursor.now c.args.text.now c.requires.text t e) ∙ (sym c.is_left_out.ensures ∙ c.if-is_left_out.false)) c.is_viable_through.result (rw c.taken.ensures.count at c.is_viable_through.ensures)
