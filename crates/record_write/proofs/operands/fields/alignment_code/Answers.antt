use Rattle.std.proofs.Common.{ℕ, ◌+◌, ◌∷◌, [], ap, sym, ◌∙◌}
use Rattle.record_write.proofs.OnOperands.Numbers.{code_of_none, code_of_some}
use Rattle.record_write.proofs.operands.fields.alignment_code.Goals as goal

pub returns-in-Some : goal.returns-in-Some
returns-in-Some c = λ has. rw c.in-Some.is (code_of_some c.in-Some.bytes (rw c.in-Some.is at has) ∙ ap (λ (m : ℕ). (m + 1) ∷ []) (sym c.from.ensures))

pub returns-in-None : goal.returns-in-None
returns-in-None c = λ has. rw c.in-None.is code_of_none
