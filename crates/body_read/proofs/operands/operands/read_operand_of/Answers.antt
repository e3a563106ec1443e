use Rattle.std.proofs.Common.{ℕ, Option, ◌∙◌, ap, subst, sym}
use Rattle.std.specs.Option.{option_map}
use Rattle.type_read.specs.Arena.Kept.{tree_at}
use Rattle.body_read.specs.Operands.Found.{Finds, HasOperand, both, kept_operand, operand_at, operand_in}
use Rattle.body_read.proofs.OnOperands.Typed.{operand_found}
use Rattle.body_read.proofs.operands.operands.read_operand_of.Goals as goal

pub returns : goal.returns
returns c =
    let m0 = c.args.m.now in
    let t = tree_at m0.growing.arena.table c.args.ty.now in
    subst (Finds HasOperand operand_in (λ k. operand_at k t) m0 c.read_value.new.m)
    (sym (c.operand_of.ensures ∙ ap (λ (x : Option ℕ). option_map kept_operand (both x c.in_ok-value.value)) c.same.ensures))
    (operand_found m0 c.read_value.new.m c.args.ty.now c.in_ok-value.value c.requires c.in_ok-value.ensures)
