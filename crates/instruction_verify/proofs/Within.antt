-- The types of an instruction are types of the table.
use Rattle.std.proofs.Common.{◌≡◌, ℕ, ◌<◌, All, length, sym, subst}
use Rattle.std.proofs.lemmas.List.Elements.{All-weaker}
use Rattle.type_table.specs.Types.{Types}
use Rattle.module_arena.specs.Known.{HasOperand as KnowsOperand, HasValue, KnowsInst}
use Rattle.module_arena.specs.Lists.{Lists}
use Rattle.module_arena.specs.Mentions.{bare_values_of, end_operands_of, operands_of, types_of}
use Rattle.module_arena.specs.declared.instruction.Inst as the_inst
use Rattle.module_arena.specs.declared.instruction.Ending as the_ending
use Rattle.module_arena.specs.declared.instruction.Operand.{Operand}
use Rattle.module_arena.specs.declared.instruction.Value as the_value
use Rattle.module_arena.specs.declared.instruction.Value.TheVariants as value
use Rattle.instruction_verify.specs.ArenaOperands.{HasConstant, HasInst, HasOperand}

module _ (a : Lists) (t : Types) (same : t ≡ a.table) (i : the_inst.Inst) (known : HasInst a i) where
  pub types_within : All (λ (o : Operand). o.ty < length t.types) (operands_of i)
  types_within =
      subst (λ (u : Types). All (λ (o : Operand). o.ty < length u.types) (operands_of i)) (sym same)
      (All-weaker (HasOperand a) (λ (o : Operand). o.ty < length a.table.types) (λ o h. h.0) (operands_of i) known.operands_known)

  pub written_within : All (λ (ty : ℕ). ty < length t.types) (types_of i)
  written_within = subst (λ (u : Types). All (λ (ty : ℕ). ty < length u.types) (types_of i)) (sym same) known.types_known

-- ---- what every arena knows of its instructions is enough

module _ (a : Lists) (values blocks : ℕ) where
  value_known : (v : the_value.Value) → HasValue (length a.constants) values v → HasConstant a v
  value_known (value.Local id) h = tt
  value_known (value.Known id) h = h

  operand_known : (o : Operand) → KnowsOperand (length a.table.types) (length a.constants) values o → HasOperand a o
  operand_known o h = (h.0, value_known o.value h.1)

  pub instruction_known : (i : the_inst.Inst) → KnowsInst (length a.table.types) (length a.constants) values blocks i → HasInst a i
  instruction_known i known = record {
    operands_known = All-weaker (KnowsOperand (length a.table.types) (length a.constants) values) (HasOperand a) operand_known (operands_of i) known.operands_known;
    values_known = All-weaker (HasValue (length a.constants) values) (HasConstant a) value_known (bare_values_of i) known.values_known;
    types_known = known.types_known;
  }

  pub ending_known : (e : the_ending.Ending) → All (KnowsOperand (length a.table.types) (length a.constants) values) (end_operands_of e) → All (HasOperand a) (end_operands_of e)
  ending_known e known = All-weaker (KnowsOperand (length a.table.types) (length a.constants) values) (HasOperand a) operand_known (end_operands_of e) known
