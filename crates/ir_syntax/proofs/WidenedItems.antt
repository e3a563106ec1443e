-- The rows of items, within limits that are wider.
use Rattle.std.proofs.Common.{[], ◌∷◌, Bool, true, false, refl, Option, Some, None}
use Rattle.ir_lexer.specs.Ahead.{Located}
use Rattle.ir_tables.specs.declared.linkage.Linkage.{Linkage}
use Rattle.ir_tables.specs.declared.linkage.Linkage.TheVariants as linkage
use Rattle.ir_terminals.specs.PhraseRows.Row.{fail, keep_second, nothing, optional}
use Rattle.ir_terminals.specs.declared.limits.Limits.{Limits}
use Rattle.ir_terminals.specs.declared.terminal.Terminal.TheVariants as terminal
use Rattle.ir_terminals.specs.Role.{class}
use Rattle.ir_terminals.specs.Tokens.{word, global_name_row, local_row}
use Rattle.ir_phrases.specs.Instructions.Dropped.{comma_shape, parameter_attributes_row, function_attributes_row, convention_row}
use Rattle.ir_syntax.specs.Heads.{optional_linkage_row, global_words_row, GlobalHead, global_head_row}
use Rattle.ir_syntax.specs.Variables.{opaque_row, plain_body_row, packed_body_row, body_row, struct_row, constant_word_row, initialiser_core, initialiser_row, tails_row, variable_rest_core, variable_rest_row, variable_core, variable_row}
use Rattle.ir_syntax.specs.Aliases.{alias_type_core, alias_type_row, target_row, alias_core, alias_row, global_behind_shape, global_behind_core, global_row}
use Rattle.ir_syntax.specs.Functions.{parameter_shape, parameter_core, parameter_row, dots_row, ParametersTree, parameter_step, more_parameters_shape, more_parameters_row, some_parameters_row, parameter_list_row, parameters_core, parameters_row, head_core, head_row, metadata_row, declared_core, declared_row, declaration_row, body_core, body_row as function_body_row, defined_core, defined_row, definition_row}
use Rattle.ir_syntax.specs.Items.{source_row, target_row as target_item_row, attributes_row, metadata_item_row, item_core, item_row, items_row}
use Rattle.ir_syntax.proofs.Widened.{IsWidened, widened_same, widened_labelled, widened_alt, widened_chain, widened_mapped, widened_second, widened_both, widened_before, widened_pair, widened_many, widened_loop}
use Rattle.ir_syntax.proofs.WidenedConstants.{IsWider, widened_word, widened_type, widened_fields, widened_constant}
use Rattle.ir_syntax.proofs.WidenedInstructions.{widened_signature, widened_blocks}

module _ {may : Located → Bool} {narrow wide : Limits} (wider : IsWider may narrow wide) where
  -- structs
  widened_plain_body : IsWidened may (plain_body_row narrow) (plain_body_row wide)
  widened_plain_body = widened_mapped (widened_second (widened_word terminal.OpenBrace) (widened_before (widened_fields wider) (widened_word terminal.CloseBrace)))

  widened_packed_body : IsWidened may (packed_body_row narrow) (packed_body_row wide)
  widened_packed_body =
      widened_mapped
      (widened_second (widened_word terminal.Less)
      (widened_second (widened_word terminal.OpenBrace)
      (widened_before (widened_fields wider)
      (widened_second (widened_word terminal.CloseBrace) (widened_word terminal.Greater)))))

  widened_struct_body : IsWidened may (body_row narrow) (body_row wide)
  widened_struct_body = widened_alt class (widened_same opaque_row) (widened_alt class widened_plain_body widened_packed_body refl) refl

  widened_struct : IsWidened may (struct_row narrow) (struct_row wide)
  widened_struct =
      widened_mapped
      (widened_pair (widened_before wider.names (widened_second (widened_word terminal.Equals) (widened_word terminal.«Type»))) widened_struct_body)

  -- variables and aliases
  widened_initialiser_core : (written : Option Linkage) → IsWidened may (initialiser_core narrow written) (initialiser_core wide written)
  unfolding initialiser_core
  widened_initialiser_core None = widened_mapped (widened_constant wider)
  widened_initialiser_core (Some linkage.External) = widened_same (nothing None)
  widened_initialiser_core (Some linkage.ExternWeak) = widened_same (nothing None)
  widened_initialiser_core (Some _) = widened_mapped (widened_constant wider)

  widened_initialiser : (written : Option Linkage) → IsWidened may (initialiser_row narrow written) (initialiser_row wide written)
  widened_initialiser written = widened_labelled (widened_initialiser_core written)

  widened_variable_rest_core : (written : Option Linkage) → IsWidened may (variable_rest_core narrow written) (variable_rest_core wide written)
  unfolding variable_rest_core
  widened_variable_rest_core written = widened_pair (widened_initialiser written) (widened_same tails_row)

  widened_variable_rest : (written : Option Linkage) → IsWidened may (variable_rest_row narrow written) (variable_rest_row wide written)
  widened_variable_rest written = widened_labelled (widened_variable_rest_core written)

  widened_variable_core : (h : GlobalHead) → IsWidened may (variable_core narrow h) (variable_core wide h)
  unfolding variable_core
  widened_variable_core h = widened_mapped (widened_pair (widened_same constant_word_row) (widened_pair (widened_type wider) (widened_variable_rest h.1)))

  widened_variable : (h : GlobalHead) → IsWidened may (variable_row narrow h) (variable_row wide h)
  widened_variable h = widened_labelled (widened_variable_core h)

  widened_alias_type_core : IsWidened may (alias_type_core narrow) (alias_type_core wide)
  unfolding alias_type_core
  widened_alias_type_core = widened_both (widened_type wider) (widened_signature wider)

  widened_alias_type : IsWidened may (alias_type_row narrow) (alias_type_row wide)
  widened_alias_type = widened_labelled widened_alias_type_core

  widened_alias_core : (h : GlobalHead) → IsWidened may (alias_core narrow h) (alias_core wide h)
  unfolding alias_core
  widened_alias_core h = widened_mapped (widened_second (widened_word terminal.«Alias») (widened_pair widened_alias_type (widened_same target_row)))

  widened_alias : (h : GlobalHead) → IsWidened may (alias_row narrow h) (alias_row wide h)
  widened_alias h = widened_labelled (widened_alias_core h)

  widened_global_behind_core : (h : GlobalHead) → IsWidened may (global_behind_core narrow h) (global_behind_core wide h)
  unfolding global_behind_core
  widened_global_behind_core h = widened_alt class (widened_alias h) (widened_variable h) refl

  widened_global : IsWidened may (global_row narrow) (global_row wide)
  widened_global =
      widened_chain global_behind_shape global_behind_shape (widened_same global_head_row) (λ h. widened_labelled {s = global_behind_shape} (widened_global_behind_core h))

  -- parameters
  widened_parameter_core : IsWidened may (parameter_core narrow) (parameter_core wide)
  unfolding parameter_core
  widened_parameter_core = widened_pair (widened_type wider) (widened_same (keep_second parameter_attributes_row (optional class local_row)))

  widened_parameter : IsWidened may (parameter_row narrow) (parameter_row wide)
  widened_parameter = widened_labelled widened_parameter_core

  module _ (some more : Bool) (dots : IsWidened may (dots_row some) (dots_row more)) where
    widened_parameter_step : (s : ParametersTree) → IsWidened may (parameter_step some narrow s) (parameter_step more wide s)
    widened_parameter_step (before, true) = widened_same (fail comma_shape)
    widened_parameter_step (before, false) = widened_second (widened_word terminal.Comma) (widened_alt class (widened_mapped dots) (widened_mapped widened_parameter) refl)

    widened_more_parameters : (s : ParametersTree) → IsWidened may (more_parameters_row some narrow s) (more_parameters_row more wide s)
    widened_more_parameters s =
        widened_labelled (widened_loop class (record { first = comma_shape.first; more = parameter_shape.more; empty = false }) widened_parameter_step s)

    widened_some_parameters : IsWidened may (some_parameters_row some narrow) (some_parameters_row more wide)
    widened_some_parameters = widened_chain more_parameters_shape more_parameters_shape widened_parameter (λ p. widened_more_parameters (p ∷ [], false))

    widened_parameter_list : IsWidened may (parameter_list_row some narrow) (parameter_list_row more wide)
    widened_parameter_list = widened_alt class (widened_mapped dots) (widened_alt class widened_some_parameters (widened_same (nothing ([], false))) refl) refl

    widened_parameters_core : IsWidened may (parameters_core some narrow) (parameters_core more wide)
    unfolding parameters_core
    widened_parameters_core = widened_second (widened_word terminal.OpenParenthesis) (widened_before widened_parameter_list (widened_word terminal.CloseParenthesis))

    widened_parameters : IsWidened may (parameters_row some narrow) (parameters_row more wide)
    widened_parameters = widened_labelled widened_parameters_core

  -- functions
  widened_head_core : IsWidened may (head_core narrow) (head_core wide)
  unfolding head_core
  widened_head_core =
      widened_mapped
      (widened_pair (widened_same optional_linkage_row)
      (widened_second (widened_same global_words_row)
      (widened_second (widened_same convention_row)
      (widened_second (widened_same parameter_attributes_row)
      (widened_pair (widened_type wider) (widened_same global_name_row))))))

  widened_head : IsWidened may (head_row narrow) (head_row wide)
  widened_head = widened_labelled widened_head_core

  widened_declared_core : IsWidened may (declared_core narrow) (declared_core wide)
  unfolding declared_core
  widened_declared_core = widened_mapped (widened_before (widened_parameters true true (widened_same (dots_row true))) (widened_same function_attributes_row))

  widened_declared : IsWidened may (declared_row narrow) (declared_row wide)
  widened_declared = widened_labelled widened_declared_core

  widened_declaration : IsWidened may (declaration_row narrow) (declaration_row wide)
  widened_declaration =
      widened_mapped (widened_pair (widened_word terminal.Declare) (widened_second (widened_same metadata_row) (widened_pair widened_head widened_declared)))

  widened_body_core : IsWidened may (body_core narrow) (body_core wide)
  unfolding body_core
  widened_body_core = widened_second (widened_same function_attributes_row) (widened_second (widened_same metadata_row) (widened_blocks wider))

  widened_body : IsWidened may (function_body_row narrow) (function_body_row wide)
  widened_body = widened_labelled widened_body_core

  module _ (dots : IsWidened may (dots_row narrow.with_left_out) (dots_row wide.with_left_out)) where
    widened_defined_core : IsWidened may (defined_core narrow) (defined_core wide)
    unfolding defined_core
    widened_defined_core = widened_pair (widened_parameters narrow.with_left_out wide.with_left_out dots) widened_body

    widened_defined : IsWidened may (defined_row narrow) (defined_row wide)
    widened_defined = widened_labelled widened_defined_core

    widened_definition : IsWidened may (definition_row narrow) (definition_row wide)
    widened_definition = widened_mapped (widened_pair (widened_word terminal.Define) (widened_pair widened_head widened_defined))

    -- items
    widened_item_core : IsWidened may (item_core narrow) (item_core wide)
    unfolding item_core
    widened_item_core =
        widened_alt class (widened_same source_row)
        (widened_alt class (widened_same (keep_second (word terminal.Target) target_item_row))
        (widened_alt class widened_struct
        (widened_alt class widened_global
        (widened_alt class widened_declaration
        (widened_alt class widened_definition
        (widened_alt class (widened_same attributes_row) (widened_same metadata_item_row) refl) refl) refl) refl) refl) refl) refl

    widened_item : IsWidened may (item_row narrow) (item_row wide)
    widened_item = widened_labelled widened_item_core

    -- the items of wider limits go on where those of the narrower do, or at these tokens
    pub widened_items : IsWidened may (items_row narrow) (items_row wide)
    widened_items = widened_many class widened_item refl
