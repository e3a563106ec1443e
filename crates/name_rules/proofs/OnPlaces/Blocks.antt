-- What the instructions and blocks of a text ask for stands at their tokens, in order.
use Rattle.std.proofs.Common.{◌≡◌, List, [], ◌∷◌, true, false, Option, Some, None, refl, ap, subst, append_assoc, ◌==◌}
use Rattle.ir_base.specs.declared.place.Place.{Place}
use Rattle.ir_lexer.specs.Ahead.{Located}
use Rattle.ir_tables.specs.declared.opcode.Opcode.TheVariants as op
use Rattle.ir_terminals.specs.PhraseRows.Row.{keep_first}
use Rattle.ir_terminals.specs.declared.limits.Limits.{Limits}
use Rattle.ir_terminals.specs.declared.terminal.Terminal.TheVariants as terminal
use Rattle.ir_terminals.specs.declared.values.Local.{Local}
use Rattle.ir_terminals.specs.declared.values.Local.TheVariants as locals
use Rattle.ir_terminals.specs.Role.{class}
use Rattle.ir_terminals.specs.Terminal.{code}
use Rattle.ir_terminals.specs.Tokens.{word, local_row, label_row}
use Rattle.ir_terminals.specs.Values.{local_of, label_of}
use Rattle.ir_phrases.specs.Constants.Types.{type_shape}
use Rattle.ir_phrases.specs.Instructions.Tree.{InstructionTree, CaseTree, EndingTree, BlockTree}
use Rattle.ir_phrases.specs.Instructions.Dropped.{comma_shape, attachments_row}
use Rattle.ir_phrases.specs.Instructions.Operations.{tail_shape}
use Rattle.ir_phrases.specs.Instructions.Instructions.{result_classes, operation_classes, instruction_shape, instruction_core, instructions_row}
use Rattle.ir_phrases.specs.Instructions.Endings.{target_shape, target_core, target_row, next_target_core, next_target_row, return_value_core, return_shape, return_core, branch_target_shape, branch_target_core, branch_shape, branch_core, case_core, cases_shape, cases_core, switch_targets_core, switch_shape, switch_core, unreachable_shape, unreachable_core, ending_shape, ending_core}
use Rattle.ir_phrases.specs.Instructions.Blocks.{block_shape, block_core, block_row, block_list_row, blocks_row}
use Rattle.name_rules.specs.declared.fault.ResolveFault.TheVariants as faults
use Rattle.name_rules.specs.Demand.{Demand, ask, is_first, place_of_name, place_of_local}
use Rattle.name_rules.specs.FunctionDemands.{Called, called_with, called_after, call_demands, block_demand, instruction_demands, instructions_demands, case_demands, ending_demands, block_demands, blocks_demands}
use Rattle.name_rules.specs.Locals.{Locals, announced_result, announced_block}
use Rattle.name_rules.specs.Spelled.{decimal}
use Rattle.name_rules.specs.TypeDemands.{Known, type_demands, constant_demands}
use Rattle.name_rules.specs.Written.{type_in}
use Rattle.name_rules.specs.Places.Places.{InOrder}
use Rattle.name_rules.proofs.OnPlaces.Orders.{at_first}
use Rattle.name_rules.proofs.OnPlaces.Draws.{Draws, Drawn, draws_any, draws_one, draws_mapped, draws_so, draws_second, draws_before, pair_asked, draws_pair, draws_alt, if_there, draws_optional, Follows, draws_many_by, draws_some_by, all_asked, draws_many, draws_labelled}
use Rattle.name_rules.proofs.OnPlaces.Tokens.{local_place, label_place}
use Rattle.name_rules.proofs.OnPlaces.Types.{draws_value_type}
use Rattle.name_rules.proofs.OnPlaces.Constants.{draws_local, draws_value, draws_typed_value, draws_typed_constant}
use Rattle.name_rules.proofs.OnPlaces.Operations.{draws_operation_over}

-- ---- what a parameter, block or result is called

-- that it is the first stands at its token
pub first_stands : (t : Located) (place : Place) (earlier : Option Place) → place ≡ t.place → InOrder (t ∷ []) (is_first place earlier)
first_stands t place None e = tt
first_stands t place (Some earlier) e = at_first t [] (ask false (faults.Duplicate place earlier)) [] (ap Some e) tt

-- what is called so far, and what is written of a name
abbrev pub called_asked : Called → Local → List Demand
called_asked before written = call_demands before (Some written)

call_stands : (t : Located) (written : Local) → place_of_local written ≡ t.place → Drawn called_asked (t ∷ []) written
call_stands t (locals.Named written) e before = first_stands t written.place (place_of_name before.names written.name) e
call_stands t (locals.Numbered number place) e before =
    at_first t [] (ask (number == before.next) (faults.WrongNumber place before.next (decimal number))) [] (ap Some e) tt

pub draws_result : Draws local_row called_asked
draws_result = draws_one class (code terminal.Local ∷ []) local_of called_asked (λ t l e. call_stands t l (local_place t l e))

draws_label : Draws label_row called_asked
draws_label = draws_one class (code terminal.Label ∷ []) label_of called_asked (λ t l e. call_stands t l (label_place t l e))

-- where it may be written
abbrev pub written_asked : Called → Option Local → List Demand
written_asked before written = call_demands before written

pub written_there : (us : List Located) (o : Option Local) → Drawn (if_there called_asked) us o → Drawn written_asked us o
written_there us None d x = tt
written_there us (Some l) d x = d x

-- ---- instructions

-- inside a function, behind what is called so far
abbrev pub Behind : Type 0
Behind = (Known × Locals) × Called

abbrev instruction_asked : Behind → InstructionTree → List Demand
instruction_asked x i = instruction_demands x.0.0 x.0.1 x.1 i

abbrev instructions_asked : Behind → List InstructionTree → List Demand
instructions_asked x all = instructions_demands x.0.0 x.0.1 x.1 all

follow_instructions : Follows instruction_asked instructions_asked
follow_instructions = record {
  first = λ x i. x;
  next = λ x i. (x.0, called_after x.1 (announced_result i));
  none = λ x. refl;
  some = λ x i more. refl;
}

-- a block that is named
abbrev target_asked : Known × Locals → Local → List Demand
target_asked x target = block_demand x.0 x.1 target ∷ []

abbrev case_asked : Known × Locals → CaseTree → List Demand
case_asked x case = case_demands x.0 x.1 case

abbrev ending_asked : Known × Locals → EndingTree → List Demand
ending_asked x ending = ending_demands x.0 x.1 ending

abbrev block_asked : Behind → BlockTree → List Demand
block_asked x block = block_demands x.0.0 x.0.1 x.1 block

-- the blocks of a function
abbrev pub blocks_asked : Behind → List BlockTree → List Demand
blocks_asked x blocks = blocks_demands x.0.0 x.0.1 x.1 blocks

follow_blocks : Follows block_asked blocks_asked
follow_blocks = record {
  first = λ x b. x;
  next = λ x b. (x.0, called_after x.1 (announced_block b));
  none = λ x. refl;
  some = λ x b more. refl;
}

draws_target_core : Draws target_core target_asked
unfolding target_core
draws_target_core = draws_second (word terminal.LabelWord) (draws_so target_asked draws_local (λ us l d x. d (x.1, true)))

draws_target : Draws target_row target_asked
draws_target = draws_labelled target_shape draws_target_core

draws_next_target_core : Draws next_target_core target_asked
unfolding next_target_core
draws_next_target_core = draws_second (word terminal.Comma) draws_target

draws_next_target : Draws next_target_row target_asked
draws_next_target = draws_labelled comma_shape draws_next_target_core

module _ (limits : Limits) where
  draws_instruction_core : Draws (instruction_core limits) instruction_asked
  unfolding instruction_core
  draws_instruction_core =
      draws_alt class
      (draws_mapped _ instruction_asked (draws_pair (draws_before (word terminal.Equals) draws_result) (draws_operation_over limits result_classes)) (λ us v d x. d (x.1, x.0)))
      (draws_mapped _ instruction_asked (draws_operation_over limits operation_classes) (λ us o d x. d x.0))

  draws_instructions : Draws (instructions_row limits) instructions_asked
  draws_instructions = draws_many_by class instructions_asked follow_instructions (draws_labelled instruction_shape draws_instruction_core)

  -- ---- ends

  draws_return_value_core : Draws (return_value_core limits) ending_asked
  unfolding return_value_core
  draws_return_value_core =
      draws_alt class (draws_mapped _ ending_asked (draws_any (Unit {0}) (word terminal.Void)) (λ us p d x. tt))
      (draws_mapped _ ending_asked (draws_pair (draws_value_type limits) (draws_value limits)) (λ us v d x. d (x.0, (x.0, (x.1, type_in v.0)))))

  draws_return_core : Draws (return_core limits) ending_asked
  unfolding return_core
  draws_return_core = draws_second (word (terminal.Opcode op.Ret)) (draws_before attachments_row (draws_labelled type_shape draws_return_value_core))

  draws_branch_target_core : Draws (branch_target_core limits) ending_asked
  unfolding branch_target_core
  draws_branch_target_core =
      draws_alt class (draws_mapped _ ending_asked draws_target (λ us t d x. d x))
      (draws_mapped _ ending_asked (draws_pair (draws_typed_value limits) (draws_pair draws_next_target draws_next_target)) (λ us v d x. d (x, (x, x))))

  draws_branch_core : Draws (branch_core limits) ending_asked
  unfolding branch_core
  draws_branch_core = draws_second (word (terminal.Opcode op.Br)) (draws_before attachments_row (draws_labelled branch_target_shape draws_branch_target_core))

  draws_case_core : Draws (case_core limits) case_asked
  unfolding case_core
  draws_case_core =
      draws_so case_asked (draws_pair (draws_typed_constant limits) draws_next_target)
      (λ us v d x. subst (InOrder us) (append_assoc (type_demands x.0 v.0.0) (constant_demands x.0 (type_in v.0.0) v.0.1) (target_asked x v.1)) (d (x.0, x)))

  draws_cases_core : Draws (cases_core limits) (all_asked case_asked)
  unfolding cases_core
  draws_cases_core = draws_second (word terminal.OpenBracket) (draws_before (word terminal.CloseBracket) (draws_many class (draws_labelled type_shape draws_case_core)))

  draws_switch_targets_core : Draws (switch_targets_core limits) (pair_asked target_asked (all_asked case_asked))
  unfolding switch_targets_core
  draws_switch_targets_core = draws_pair draws_next_target (draws_before attachments_row (draws_labelled cases_shape draws_cases_core))

  draws_switch_core : Draws (switch_core limits) ending_asked
  unfolding switch_core
  draws_switch_core =
      draws_second (word (terminal.Opcode op.Switch))
      (draws_mapped _ ending_asked (draws_pair (draws_typed_value limits) (draws_labelled tail_shape draws_switch_targets_core)) (λ us v d x. d (x, (x, x))))

  draws_unreachable_core : Draws unreachable_core ending_asked
  unfolding unreachable_core
  draws_unreachable_core = draws_mapped _ ending_asked (draws_any (Unit {0}) (keep_first (word (terminal.Opcode op.Unreachable)) attachments_row)) (λ us p d x. tt)

  draws_ending_core : Draws (ending_core limits) ending_asked
  unfolding ending_core
  draws_ending_core =
      draws_alt class (draws_labelled return_shape draws_return_core)
      (draws_alt class (draws_labelled branch_shape draws_branch_core)
      (draws_alt class (draws_labelled switch_shape draws_switch_core) (draws_labelled unreachable_shape draws_unreachable_core)))

  -- ---- blocks

  draws_block_core : Draws (block_core limits) block_asked
  unfolding block_core
  draws_block_core =
      draws_mapped _ block_asked
      (draws_pair (draws_so written_asked (draws_optional class draws_label) written_there) (draws_pair draws_instructions (draws_labelled ending_shape draws_ending_core)))
      (λ us v d x. d (x.1, ((x.0, called_with x.1 (true, v.0)), x.0)))

  draws_block : Draws (block_row limits) block_asked
  draws_block = draws_labelled block_shape draws_block_core

  draws_block_list : Draws (block_list_row limits) blocks_asked
  draws_block_list = draws_some_by blocks_asked follow_blocks draws_block (draws_many_by class blocks_asked follow_blocks draws_block)

  pub draws_blocks : Draws (blocks_row limits) blocks_asked
  draws_blocks = draws_second (word terminal.OpenBrace) (draws_before (word terminal.CloseBrace) draws_block_list)
