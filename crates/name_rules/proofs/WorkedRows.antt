-- What a text comes to, for worked rows.
use Rattle.std.specs.Prelude.{ℕ, Bool, true, false, List, Result, Ok, Err, Option, Some, None}
use Rattle.ir_syntax.specs.Tree.{ItemTree}
use Rattle.ir_syntax.specs.Answers.{text_answer}
use Rattle.ir_syntax.specs.Items.{language}
use Rattle.module_arena.specs.Module.{Module}
use Rattle.name_rules.specs.declared.fault.ResolveFault.{ResolveFault}
use Rattle.name_rules.specs.Spelled.{digits_before}
use Rattle.name_rules.specs.Measured.{measures_within, hold_within}
use Rattle.name_rules.specs.ModuleOf.{module_of_items}
use Rattle.name_rules.specs.Breaks.{first_break}
use Rattle.ir_phrases.specs.Constants.Constants.{constant_core, elements_core, expression_core, holder_core, operands_core, typed_core}
use Rattle.ir_phrases.specs.Constants.Flags.{flags_core}
use Rattle.ir_tables.specs.MayHave.{may_have}
use Rattle.ir_phrases.specs.Constants.Types.{fields_core, nest_core, type_core, types_core, value_type_core}
use Rattle.ir_phrases.specs.Constants.Values.{typed_value_core, value_core}
use Rattle.ir_phrases.specs.Instructions.Blocks.{block_core}
use Rattle.ir_phrases.specs.Instructions.Calls.{argument_core, argument_list_core, arguments_core, call_core, call_end_core, called_core, result_type_core, signature_core}
use Rattle.ir_phrases.specs.Instructions.Dropped.{attachments_core, function_attribute_core, function_attributes_core, parameter_attributes_core}
use Rattle.ir_phrases.specs.Instructions.Endings.{branch_core, branch_target_core, case_core, cases_core, ending_core, next_target_core, return_core, return_value_core, switch_core, switch_targets_core, target_core, unreachable_core}
use Rattle.ir_phrases.specs.Instructions.Instructions.{instruction_core, operation_over_core}
use Rattle.ir_phrases.specs.Instructions.Operations.{address_core, alloca_core, arms_core, binary_core, cast_core, cast_type_core, compare_core, element_address_core, extract_core, freeze_core, from_block_core, incoming_core, indices_core, insert_core, load_core, next_typed_value_core, next_value_core, operand_list_core, operands_core as operations_operands_core, operation_core, phi_core, select_core, store_core}
use Rattle.ir_phrases.specs.Instructions.Tails.{alignment_core, count_core, listed_core}
use Rattle.ir_lexer.specs.Ahead.{ahead, ahead_within}
use Rattle.ir_lexer.specs.Class.{byte_class}
use Rattle.ir_lexer.specs.Form.{run as form_run}
use Rattle.ir_lexer.specs.Front.{next_token}
use Rattle.ir_lexer.specs.Gap.{gap_length}
use Rattle.ir_lexer.specs.Lexer.{after as lexer_after, answer as lexer_answer, skipped as lexer_skipped}
use Rattle.ir_lexer.specs.Place.{place_after}
use Rattle.ir_lexer.specs.Quoted.{decode, digit_value, unescaped}
use Rattle.ir_syntax.specs.Functions.{body_core, declared_core, defined_core, head_core, parameter_core, parameters_core}
use Rattle.ir_syntax.specs.Items.{item_core}
use Rattle.ir_syntax.specs.Variables.{initialiser_core, variable_rest_core, variable_core}
use Rattle.ir_syntax.specs.Aliases.{alias_type_core, target_core as alias_target_core, alias_core, global_behind_core}
use Rattle.ir_syntax.specs.Heads.{global_head_core}
use Rattle.ir_tables.specs.Flag.{flag_of_code, flag_of_word}
use Rattle.ir_tables.specs.Linkage.{linkage_of_code, linkage_of_word}
use Rattle.ir_tables.specs.Opcode.{opcode_of_code, opcode_of_word}
use Rattle.ir_tables.specs.Predicate.{predicate_of_code, predicate_of_word}
use Rattle.ir_tables.specs.UndefinedKind.{undefined_of_code, undefined_of_word}
use Rattle.ir_terminals.specs.LeftOut.{left_out_words}
use Rattle.ir_terminals.specs.Position.{tokens_left as position_left}
use Rattle.ir_terminals.specs.Role.{terminal as role_terminal}
use Rattle.ir_terminals.specs.Words.{word_terminal, words_by_role}

-- the items of the text, or the number of the first bad token
unfoldable pub items_of : List ℕ → Result (List ItemTree) ℕ
unfolding constant_core elements_core expression_core holder_core operands_core typed_core flags_core may_have fields_core nest_core type_core types_core value_type_core typed_value_core value_core block_core argument_core argument_list_core arguments_core call_core call_end_core called_core result_type_core signature_core attachments_core function_attribute_core function_attributes_core parameter_attributes_core branch_core branch_target_core case_core cases_core ending_core next_target_core return_core return_value_core switch_core switch_targets_core target_core unreachable_core instruction_core operation_over_core address_core alloca_core arms_core binary_core cast_core cast_type_core compare_core element_address_core extract_core freeze_core from_block_core incoming_core indices_core insert_core load_core next_typed_value_core next_value_core operand_list_core operations_operands_core operation_core phi_core select_core store_core alignment_core count_core listed_core ahead ahead_within byte_class form_run next_token gap_length lexer_after lexer_answer lexer_skipped place_after decode digit_value unescaped body_core declared_core defined_core head_core parameter_core parameters_core item_core initialiser_core variable_rest_core variable_core alias_type_core alias_target_core alias_core global_behind_core global_head_core flag_of_code flag_of_word linkage_of_code linkage_of_word opcode_of_code opcode_of_word predicate_of_code predicate_of_word undefined_of_code undefined_of_word left_out_words position_left role_terminal word_terminal words_by_role
items_of text = text_answer language text

-- items that are a module, a refusal, or no items
pub data Outcome : Type 0 where
  Accepted : Module → Outcome
  Refused : ResolveFault → Outcome
  NoItems : ℕ → Outcome

abbrev pub judged : Option ResolveFault → List ItemTree → Outcome
judged None items = Accepted (module_of_items items)
judged (Some fault) items = Refused fault

abbrev pub outcome : Result (List ItemTree) ℕ → Outcome
outcome (Err i) = NoItems i
outcome (Ok items) = judged (first_break items) items

-- what a text comes to
unfoldable pub comes_to : List ℕ → Outcome
unfolding items_of digits_before measures_within hold_within
comes_to text = outcome (items_of text)

abbrev pub is_accepted : Outcome → Bool
is_accepted (Accepted m) = true
is_accepted _ = false
