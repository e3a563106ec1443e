-- The rows of items are read.
use Rattle.std.proofs.Common.{[], ◌∷◌, Bool, true, false, cond, Option, Some, None, refl}
use Rattle.ir_tables.specs.declared.linkage.Linkage.{Linkage}
use Rattle.ir_tables.specs.declared.linkage.Linkage.TheVariants as linkage
use Rattle.ir_terminals.specs.PhraseRows.Row.{PhraseShape, keep_second}
use Rattle.ir_terminals.specs.PhraseRows.Reads.{Reads}
use Rattle.ir_terminals.proofs.OnPhraseRows.Plain.{reads_nothing, reads_fail, reads_one, reads_mapped, reads_labelled, reads_wider}
use Rattle.ir_terminals.proofs.OnPhraseRows.Chain.{reads_chain, reads_both, reads_second, reads_before, reads_pair}
use Rattle.ir_terminals.proofs.OnPhraseRows.Alt.{reads_alt, reads_optional}
use Rattle.ir_terminals.proofs.OnPhraseRows.Repeated.{reads_many}
use Rattle.ir_terminals.proofs.OnPhraseRows.Loop.{reads_loop}
use Rattle.ir_terminals.specs.declared.limits.Limits.{Limits}
use Rattle.ir_terminals.specs.declared.terminal.Terminal.TheVariants as terminal
use Rattle.ir_terminals.specs.declared.values.Integer.{Integer}
use Rattle.ir_terminals.specs.Role.{class}
use Rattle.ir_terminals.specs.Tokens.{word}
use Rattle.ir_terminals.specs.Terminal.{code}
use Rattle.ir_terminals.specs.Values.{place_of_token}
use Rattle.ir_terminals.proofs.RowsRead.{reads_word, reads_integer, reads_global_name, reads_local, reads_named_local, reads_quoted, reads_linkage, reads_matched, reads_braced}
use Rattle.ir_phrases.proofs.OnConstants.Grammar.{reads_type, reads_fields, reads_constant}
use Rattle.ir_phrases.specs.Instructions.Dropped.{comma_shape}
use Rattle.ir_phrases.proofs.OnInstructions.CallsGrammar.{reads_signature}
use Rattle.ir_phrases.proofs.OnInstructions.DroppedGrammar.{reads_section}
use Rattle.ir_phrases.proofs.OnInstructions.Grammar.{reads_blocks, reads_attachment, reads_parameter_attributes, reads_function_attributes, reads_convention}
use Rattle.ir_syntax.specs.Heads.{optional_linkage_row, global_word_shape, global_word_row, global_words_row, GlobalHead, global_head_shape, global_head_core}
use Rattle.ir_syntax.specs.Variables.{opaque_row, plain_body_row, packed_body_row, body_row, struct_row, constant_word_row, initialiser_shape, initialiser_core, initialiser_row, tail_row, tail_shape, tail_step, tails_row, variable_of, variable_rest_shape, variable_rest_core, variable_shape, variable_core}
use Rattle.ir_syntax.specs.Aliases.{alias_type_of, alias_type_shape, alias_type_core, target_core, alias_of, alias_shape, alias_core, global_behind_shape, global_behind_core, global_row}
use Rattle.ir_syntax.specs.Functions.{parameter_shape, parameter_core, parameter_row, dots_row, ParametersTree, parameter_step, more_parameters_shape, more_parameters_row, some_parameters_row, parameter_list_row, parameters_shape, parameters_core, parameters_row, head_shape, head_core, head_row, metadata_row, declared_shape, declared_core, declaration_row, body_shape, body_core, defined_core, definition_row}
use Rattle.ir_syntax.specs.Items.{source_row, target_row, attributes_row, metadata_name_row, node_row, metadata_item_row, item_shape, item_core, item_row, items_row}

reads_metadata_name : Reads class metadata_name_row metadata_name_row.shape
reads_metadata_name = reads_one class (code terminal.MetaName ∷ code terminal.MetaNumber ∷ []) place_of_token

reads_optional_linkage : Reads class optional_linkage_row optional_linkage_row.shape
reads_optional_linkage = reads_optional class reads_linkage refl

pub reads_global_word : Reads class global_word_row global_word_shape
reads_global_word = reads_alt class (reads_mapped class _ (reads_word terminal.GlobalDropped)) (reads_mapped class _ (reads_word terminal.UnnamedAddress)) refl refl

reads_global_words : Reads class global_words_row global_words_row.shape
reads_global_words = reads_loop class (λ u. reads_global_word) refl refl tt

reads_opaque : Reads class opaque_row opaque_row.shape
reads_opaque = reads_mapped class _ (reads_word terminal.Opaque)

reads_plain_body : (limits : Limits) → Reads class (plain_body_row limits) (plain_body_row limits).shape
reads_plain_body limits =
    reads_mapped class _ (reads_second class (reads_word terminal.OpenBrace) (reads_before class (reads_fields limits) (reads_word terminal.CloseBrace) refl) refl)

reads_packed_body : (limits : Limits) → Reads class (packed_body_row limits) (packed_body_row limits).shape
reads_packed_body limits =
    reads_mapped class _
    (reads_second class (reads_word terminal.Less)
    (reads_second class (reads_word terminal.OpenBrace)
    (reads_before class (reads_fields limits)
    (reads_second class (reads_word terminal.CloseBrace) (reads_word terminal.Greater) refl) refl) refl) refl)

reads_body : (limits : Limits) → Reads class (body_row limits) (body_row limits).shape
reads_body limits = reads_alt class reads_opaque (reads_alt class (reads_plain_body limits) (reads_packed_body limits) refl refl) refl refl

pub reads_struct : (limits : Limits) → Reads class (struct_row limits) (struct_row limits).shape
reads_struct limits =
    reads_mapped class _
    (reads_pair class
    (reads_before class (reads_named_local limits) (reads_second class (reads_word terminal.Equals) (reads_word terminal.«Type») refl) refl)
    (reads_body limits) refl)

reads_constant_word : Reads class constant_word_row constant_word_row.shape
reads_constant_word = reads_alt class (reads_mapped class _ (reads_word terminal.Global)) (reads_mapped class _ (reads_word terminal.Constant)) refl refl

reads_global_head_core : Reads class global_head_core global_head_shape
unfolding global_head_core
reads_global_head_core =
    reads_wider class global_head_shape
    (reads_pair class (reads_before class reads_global_name (reads_word terminal.Equals) refl)
    (reads_before class reads_optional_linkage reads_global_words refl) refl)
    refl refl (λ e. e)

reads_initialiser_core : (limits : Limits) (written : Option Linkage) → Reads class (initialiser_core limits written) initialiser_shape
unfolding initialiser_core
reads_initialiser_core limits None = reads_wider class initialiser_shape (reads_mapped class Some (reads_constant limits)) refl refl (λ e. refl)
reads_initialiser_core limits (Some linkage.External) = reads_wider class initialiser_shape (reads_nothing class None) refl refl (λ e. refl)
reads_initialiser_core limits (Some linkage.ExternWeak) = reads_wider class initialiser_shape (reads_nothing class None) refl refl (λ e. refl)
reads_initialiser_core limits (Some _) = reads_wider class initialiser_shape (reads_mapped class Some (reads_constant limits)) refl refl (λ e. refl)

reads_initialiser : (limits : Limits) (written : Option Linkage) → Reads class (initialiser_row limits written) initialiser_shape
reads_initialiser limits written = reads_labelled (reads_initialiser_core limits written)

reads_tail : (alignment : Option Integer) → Reads class (tail_row alignment) tail_shape
reads_tail None =
    reads_alt class (reads_mapped class Some (reads_second class (reads_word terminal.Align) reads_integer refl))
    (reads_alt class (reads_mapped class _ reads_section) (reads_mapped class _ reads_attachment) refl refl) refl refl
reads_tail (Some a) =
    reads_wider class tail_shape (reads_alt class (reads_mapped class _ reads_section) (reads_mapped class _ reads_attachment) refl refl) refl refl (λ e. e)

pub reads_tail_step : (alignment : Option Integer) → Reads class (tail_step alignment) comma_shape
reads_tail_step alignment = reads_second class (reads_word terminal.Comma) (reads_labelled (reads_tail alignment)) refl

reads_tails : Reads class tails_row tails_row.shape
reads_tails = reads_loop class reads_tail_step refl refl None

reads_variable_rest_core : (limits : Limits) (written : Option Linkage) → Reads class (variable_rest_core limits written) variable_rest_shape
unfolding variable_rest_core
reads_variable_rest_core limits written =
    reads_wider class variable_rest_shape (reads_pair class (reads_initialiser limits written) reads_tails refl) refl refl (λ e. e)

reads_variable_core : (limits : Limits) (h : GlobalHead) → Reads class (variable_core limits h) variable_shape
unfolding variable_core
reads_variable_core limits h =
    reads_wider class variable_shape
    (reads_mapped class (variable_of h)
    (reads_pair class reads_constant_word
    (reads_pair class (reads_type limits) (reads_labelled (reads_variable_rest_core limits h.1)) refl) refl))
    refl refl (λ e. e)

reads_alias_type_core : (limits : Limits) → Reads class (alias_type_core limits) alias_type_shape
unfolding alias_type_core
reads_alias_type_core limits = reads_both class alias_type_of (reads_type limits) (reads_signature limits) refl

reads_target_core : Reads class target_core comma_shape
unfolding target_core
reads_target_core = reads_second class (reads_word terminal.Comma) (reads_second class (reads_word terminal.Ptr) reads_global_name refl) refl

reads_alias_core : (limits : Limits) (h : GlobalHead) → Reads class (alias_core limits h) alias_shape
unfolding alias_core
reads_alias_core limits h =
    reads_mapped class (alias_of h)
    (reads_second class (reads_word terminal.«Alias»)
    (reads_pair class (reads_labelled (reads_alias_type_core limits)) (reads_labelled reads_target_core) refl) refl)

reads_global_behind_core : (limits : Limits) (h : GlobalHead) → Reads class (global_behind_core limits h) global_behind_shape
unfolding global_behind_core
reads_global_behind_core limits h =
    reads_wider class global_behind_shape
    (reads_alt class (reads_labelled (reads_alias_core limits h)) (reads_labelled (reads_variable_core limits h)) refl refl)
    refl refl (λ e. e)

pub reads_global : (limits : Limits) → Reads class (global_row limits) (global_row limits).shape
reads_global limits = reads_chain class (reads_labelled reads_global_head_core) (λ h. reads_labelled (reads_global_behind_core limits h)) refl

reads_parameter_core : (limits : Limits) → Reads class (parameter_core limits) parameter_shape
unfolding parameter_core
reads_parameter_core limits =
    reads_wider class parameter_shape
    (reads_pair class (reads_type limits) (reads_second class reads_parameter_attributes (reads_optional class reads_local refl) refl) refl)
    refl refl (λ e. e)

pub reads_parameter : (limits : Limits) → Reads class (parameter_row limits) parameter_shape
reads_parameter limits = reads_labelled (reads_parameter_core limits)

reads_dots : (may_stand : Bool) → Reads class (dots_row may_stand) (dots_row may_stand).shape
reads_dots may_stand = reads_one class (code terminal.Dots ∷ []) (λ t. cond may_stand (Some true) None)

abbrev pub step_shape : PhraseShape
step_shape = record { first = comma_shape.first; more = parameter_shape.more; empty = false }

reads_parameter_step_at : (dots : Bool) (limits : Limits) (before : ParametersTree) (ended : Bool) → Reads class (parameter_step dots limits (before.0, ended)) step_shape
reads_parameter_step_at dots limits before true = reads_wider class step_shape (reads_fail class comma_shape) refl refl (λ e. e)
reads_parameter_step_at dots limits before false =
    reads_wider class step_shape
    (reads_second class (reads_word terminal.Comma)
    (reads_alt class (reads_mapped class _ (reads_dots dots)) (reads_mapped class _ (reads_parameter limits)) refl refl) refl)
    refl refl (λ e. e)

pub reads_parameter_step : (dots : Bool) (limits : Limits) (s : ParametersTree) → Reads class (parameter_step dots limits s) step_shape
reads_parameter_step dots limits (before, ended) = reads_parameter_step_at dots limits (before, ended) ended

reads_more_parameters : (dots : Bool) (limits : Limits) (s : ParametersTree) → Reads class (more_parameters_row dots limits s) more_parameters_shape
reads_more_parameters dots limits s = reads_labelled (reads_loop class (reads_parameter_step dots limits) refl refl s)

reads_some_parameters : (dots : Bool) (limits : Limits) → Reads class (some_parameters_row dots limits) (some_parameters_row dots limits).shape
reads_some_parameters dots limits = reads_chain class (reads_parameter limits) (λ p. reads_more_parameters dots limits (p ∷ [], false)) refl

reads_parameter_list : (dots : Bool) (limits : Limits) → Reads class (parameter_list_row dots limits) (parameter_list_row dots limits).shape
reads_parameter_list dots limits =
    reads_alt class (reads_mapped class _ (reads_dots dots)) (reads_alt class (reads_some_parameters dots limits) (reads_nothing class _) refl refl) refl refl

reads_parameters_core : (dots : Bool) (limits : Limits) → Reads class (parameters_core dots limits) parameters_shape
unfolding parameters_core
reads_parameters_core dots limits =
    reads_second class (reads_word terminal.OpenParenthesis) (reads_before class (reads_parameter_list dots limits) (reads_word terminal.CloseParenthesis) refl) refl

reads_parameters : (dots : Bool) (limits : Limits) → Reads class (parameters_row dots limits) parameters_shape
reads_parameters dots limits = reads_labelled (reads_parameters_core dots limits)

reads_head_core : (limits : Limits) → Reads class (head_core limits) head_shape
unfolding head_core
reads_head_core limits =
    reads_wider class head_shape
    (reads_mapped class _
    (reads_pair class reads_optional_linkage
    (reads_second class reads_global_words
    (reads_second class reads_convention
    (reads_second class reads_parameter_attributes
    (reads_pair class (reads_type limits) reads_global_name refl) refl) refl) refl) refl))
    refl refl (λ e. e)

reads_head : (limits : Limits) → Reads class (head_row limits) head_shape
reads_head limits = reads_labelled (reads_head_core limits)

reads_metadata : Reads class metadata_row metadata_row.shape
reads_metadata = reads_loop class (λ u. reads_attachment) refl refl tt

reads_declared_core : (limits : Limits) → Reads class (declared_core limits) declared_shape
unfolding declared_core
reads_declared_core limits = reads_wider class declared_shape (reads_mapped class _ (reads_before class (reads_parameters true limits) reads_function_attributes refl)) refl refl (λ e. e)

reads_declaration : (limits : Limits) → Reads class (declaration_row limits) (declaration_row limits).shape
reads_declaration limits =
    reads_mapped class _
    (reads_pair class (reads_word terminal.Declare)
    (reads_second class reads_metadata
    (reads_pair class (reads_head limits) (reads_labelled (reads_declared_core limits)) refl) refl) refl)

reads_body_core : (limits : Limits) → Reads class (body_core limits) body_shape
unfolding body_core
reads_body_core limits = reads_wider class body_shape (reads_second class reads_function_attributes (reads_second class reads_metadata (reads_blocks limits) refl) refl) refl refl (λ e. e)

reads_defined_core : (limits : Limits) → Reads class (defined_core limits) parameters_shape
unfolding defined_core
reads_defined_core limits = reads_wider class parameters_shape (reads_pair class (reads_parameters limits.with_left_out limits) (reads_labelled (reads_body_core limits)) refl) refl refl (λ e. e)

reads_definition : (limits : Limits) → Reads class (definition_row limits) (definition_row limits).shape
reads_definition limits =
    reads_mapped class _
    (reads_pair class (reads_word terminal.Define)
    (reads_pair class (reads_head limits) (reads_labelled (reads_defined_core limits)) refl) refl)

pub reads_source : Reads class source_row source_row.shape
reads_source =
    reads_mapped class _
    (reads_pair class (reads_before class (reads_word terminal.SourceFilename) (reads_word terminal.Equals) refl) reads_quoted refl)

pub reads_target : Reads class (keep_second (word terminal.Target) target_row) (keep_second (word terminal.Target) target_row).shape
reads_target =
    reads_second class (reads_word terminal.Target)
    (reads_alt class
    (reads_mapped class _ (reads_pair class (reads_before class (reads_word terminal.DataLayout) (reads_word terminal.Equals) refl) reads_quoted refl))
    (reads_mapped class _ (reads_pair class (reads_before class (reads_word terminal.Triple) (reads_word terminal.Equals) refl) reads_quoted refl))
    refl refl) refl

pub reads_attributes : Reads class attributes_row attributes_row.shape
reads_attributes =
    reads_mapped class _
    (reads_before class (reads_word terminal.«Attributes»)
    (reads_second class (reads_word terminal.Group)
    (reads_second class (reads_word terminal.Equals) reads_braced refl) refl) refl)

reads_node : Reads class node_row node_row.shape
reads_node =
    reads_alt class (reads_second class (reads_word terminal.MetaMark) (reads_matched terminal.OpenBrace) refl)
    (reads_second class (reads_word terminal.MetaName) (reads_matched terminal.OpenParenthesis) refl) refl refl

pub reads_metadata_item : Reads class metadata_item_row metadata_item_row.shape
reads_metadata_item =
    reads_mapped class _
    (reads_before class reads_metadata_name
    (reads_second class (reads_word terminal.Equals)
    (reads_second class (reads_optional class (reads_word terminal.Distinct) refl) reads_node refl) refl) refl)

reads_item_core : (limits : Limits) → Reads class (item_core limits) item_shape
unfolding item_core
reads_item_core limits =
    reads_wider class item_shape
    (reads_alt class reads_source
    (reads_alt class reads_target
    (reads_alt class (reads_struct limits)
    (reads_alt class (reads_global limits)
    (reads_alt class (reads_declaration limits)
    (reads_alt class (reads_definition limits)
    (reads_alt class reads_attributes reads_metadata_item refl refl) refl refl) refl refl) refl refl) refl refl) refl refl) refl refl)
    refl refl (λ e. e)

pub reads_item : (limits : Limits) → Reads class (item_row limits) item_shape
reads_item limits = reads_labelled (reads_item_core limits)

pub reads_items : (limits : Limits) → Reads class (items_row limits) (items_row limits).shape
reads_items limits = reads_many class (reads_item limits) refl refl
