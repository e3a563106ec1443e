-- The instructions and blocks of a text: integer types have 1 to 128 bits, and a store has no result.
use Rattle.std.proofs.Common.{◌∷◌, Some}
use Rattle.ir_tables.specs.declared.opcode.Opcode.TheVariants as op
use Rattle.ir_terminals.specs.PhraseRows.Row.{Row, keep_first, pair, optional}
use Rattle.ir_terminals.specs.declared.limits.Limits.{Limits}
use Rattle.ir_terminals.specs.declared.terminal.Terminal.TheVariants as terminal
use Rattle.ir_terminals.specs.Role.{class}
use Rattle.ir_terminals.specs.Tokens.{word, local_row, label_row}
use Rattle.ir_phrases.specs.Constants.Types.{type_shape}
use Rattle.ir_phrases.specs.Constants.Forms.{AllAre}
use Rattle.ir_phrases.proofs.OnConstants.Gives.{Gives, gives_any, gives_weaker, gives_mapped, gives_both, gives_second, gives_before, gives_pair, gives_alt, gives_many, gives_labelled}
use Rattle.ir_phrases.specs.Instructions.Dropped.{attachments_row}
use Rattle.ir_phrases.specs.Instructions.Operations.{tail_shape}
use Rattle.ir_phrases.specs.Instructions.Instructions.{result_classes, operation_classes, instruction_shape, instruction_core, instructions_row}
use Rattle.ir_phrases.specs.Instructions.Endings.{target_row, next_target_row, return_value_core, return_shape, return_core, branch_target_shape, branch_target_core, branch_shape, branch_core, case_core, cases_shape, cases_core, switch_targets_core, switch_shape, switch_core, unreachable_shape, unreachable_core, ending_shape, ending_core}
use Rattle.ir_phrases.specs.Instructions.Blocks.{block_shape, block_core, block_row, block_list_row, blocks_row}
use Rattle.item_build.specs.Buildable.Narrow.{IsNarrowInstruction, IsNarrowCase, IsNarrowEnding, IsNarrowBlock}
use Rattle.ir_resolve.proofs.OnReadsNarrow.Lists.{all_of}
use Rattle.ir_resolve.proofs.OnReadsNarrow.Types.{gives_value_type}
use Rattle.ir_resolve.proofs.OnReadsNarrow.Constants.{gives_value, gives_typed_value, gives_typed_constant}
use Rattle.ir_resolve.proofs.OnReadsNarrow.Operations.{gives_operation_over}
use Rattle.ir_resolve.proofs.OnReadsNarrow.Stores.{other_stores_nothing, bare_stores_nothing, gives_no_store}

-- two things at once
gives_also : {T A : Type 0} {r : Row T A} {P Q : A → Type 0} → Gives r P → Gives r Q → Gives r (λ a. P a × Q a)
gives_also h g = record { value = λ us a w. (h.value us a w, g.value us a w) }

module _ (limits : Limits) where
  gives_instruction_core : Gives (instruction_core limits) IsNarrowInstruction
  unfolding instruction_core
  gives_instruction_core =
      gives_alt class
      (gives_mapped _ IsNarrowInstruction
      (gives_pair (gives_any (keep_first local_row (word terminal.Equals))) (gives_also (gives_operation_over limits result_classes) (gives_no_store limits)))
      (λ v x. (x.1.0, other_stores_nothing (Some v.0) v.1 x.1.1)))
      (gives_mapped _ IsNarrowInstruction (gives_operation_over limits operation_classes) (λ o x. (x, bare_stores_nothing o)))

  gives_instructions : Gives (instructions_row limits) (AllAre IsNarrowInstruction)
  gives_instructions = gives_many class (gives_labelled instruction_shape gives_instruction_core)

  gives_return_value_core : Gives (return_value_core limits) IsNarrowEnding
  unfolding return_value_core
  gives_return_value_core =
      gives_alt class (gives_mapped _ IsNarrowEnding (gives_any (word terminal.Void)) (λ p x. tt))
      (gives_mapped _ IsNarrowEnding (gives_pair (gives_value_type limits) (gives_value limits)) (λ v x. (x.0, x.1)))

  gives_return_core : Gives (return_core limits) IsNarrowEnding
  unfolding return_core
  gives_return_core = gives_second (word (terminal.Opcode op.Ret)) (gives_before attachments_row (gives_labelled type_shape gives_return_value_core))

  gives_branch_target_core : Gives (branch_target_core limits) IsNarrowEnding
  unfolding branch_target_core
  gives_branch_target_core =
      gives_alt class (gives_mapped _ IsNarrowEnding (gives_any target_row) (λ t x. tt))
      (gives_mapped _ IsNarrowEnding (gives_pair (gives_typed_value limits) (gives_any (pair next_target_row next_target_row))) (λ v x. x.0))

  gives_branch_core : Gives (branch_core limits) IsNarrowEnding
  unfolding branch_core
  gives_branch_core = gives_second (word (terminal.Opcode op.Br)) (gives_before attachments_row (gives_labelled branch_target_shape gives_branch_target_core))

  gives_case_core : Gives (case_core limits) IsNarrowCase
  unfolding case_core
  gives_case_core = gives_weaker IsNarrowCase (gives_pair (gives_typed_constant limits) (gives_any next_target_row)) (λ v x. x.0)

  gives_cases_core : Gives (cases_core limits) (AllAre IsNarrowCase)
  unfolding cases_core
  gives_cases_core = gives_second (word terminal.OpenBracket) (gives_before (word terminal.CloseBracket) (gives_many class (gives_labelled type_shape gives_case_core)))

  gives_switch_targets_core : Gives (switch_targets_core limits) (λ v. AllAre IsNarrowCase v.1)
  unfolding switch_targets_core
  gives_switch_targets_core =
      gives_weaker (λ v. AllAre IsNarrowCase v.1) (gives_pair (gives_any next_target_row) (gives_before attachments_row (gives_labelled cases_shape gives_cases_core))) (λ v x. x.1)

  gives_switch_core : Gives (switch_core limits) IsNarrowEnding
  unfolding switch_core
  gives_switch_core =
      gives_second (word (terminal.Opcode op.Switch))
      (gives_mapped _ IsNarrowEnding (gives_pair (gives_typed_value limits) (gives_labelled tail_shape gives_switch_targets_core)) (λ v x. (x.0, all_of IsNarrowCase v.1.1 x.1)))

  gives_unreachable_core : Gives unreachable_core IsNarrowEnding
  unfolding unreachable_core
  gives_unreachable_core = gives_mapped _ IsNarrowEnding (gives_any (keep_first (word (terminal.Opcode op.Unreachable)) attachments_row)) (λ p x. tt)

  gives_ending_core : Gives (ending_core limits) IsNarrowEnding
  unfolding ending_core
  gives_ending_core =
      gives_alt class (gives_labelled return_shape gives_return_core)
      (gives_alt class (gives_labelled branch_shape gives_branch_core)
      (gives_alt class (gives_labelled switch_shape gives_switch_core) (gives_labelled unreachable_shape gives_unreachable_core)))

  gives_block_core : Gives (block_core limits) IsNarrowBlock
  unfolding block_core
  gives_block_core =
      gives_mapped _ IsNarrowBlock
      (gives_pair (gives_any (optional class label_row)) (gives_pair gives_instructions (gives_labelled ending_shape gives_ending_core)))
      (λ v x. (all_of IsNarrowInstruction v.1.0 x.1.0, x.1.1))

  gives_block : Gives (block_row limits) IsNarrowBlock
  gives_block = gives_labelled block_shape gives_block_core

  gives_block_list : Gives (block_list_row limits) (AllAre IsNarrowBlock)
  gives_block_list = gives_both (λ b bs. b ∷ bs) (AllAre IsNarrowBlock) gives_block (gives_many class gives_block) (λ b bs x xs. (x, xs))

  pub gives_blocks : Gives (blocks_row limits) (AllAre IsNarrowBlock)
  gives_blocks = gives_second (word terminal.OpenBrace) (gives_before (word terminal.CloseBrace) gives_block_list)
