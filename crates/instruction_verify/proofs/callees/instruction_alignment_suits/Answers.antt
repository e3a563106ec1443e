use Rattle.std.proofs.Common.{sym, ap, ◌∙◌}
use Rattle.module_arena.specs.InstructionRules.{operation_alignment_suits}
use Rattle.instruction_verify.specs.ArenaOperands.{instruction_in}
use Rattle.instruction_verify.proofs.CalleesTold.{no_alignment}
use Rattle.instruction_verify.proofs.callees.instruction_alignment_suits.Goals as goal

pub returns-in-Load : goal.returns-in-Load
returns-in-Load c a values blocks = c.alignment_suits.ensures ∙ ap (λ i. operation_alignment_suits (instruction_in a values blocks i).operation) (sym c.in-Load.is)

pub returns-in-Store : goal.returns-in-Store
returns-in-Store c a values blocks = c.alignment_suits-in-Store.ensures ∙ ap (λ i. operation_alignment_suits (instruction_in a values blocks i).operation) (sym c.in-Store.is)

pub returns-in-Alloca : goal.returns-in-Alloca
returns-in-Alloca c a values blocks = c.alignment_suits-in-Alloca.ensures ∙ ap (λ i. operation_alignment_suits (instruction_in a values blocks i).operation) (sym c.in-Alloca.is)

pub returns-in_default : goal.returns-in_default
returns-in_default c a values blocks = no_alignment a values blocks c.args.instruction.now c.in_default.not-Load c.in_default.not-Store c.in_default.not-Alloca
