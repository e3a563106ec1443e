-- The items of a text: integer types have 1 to 128 bits, and a store has no result.
use Rattle.std.proofs.Common.{List, [], ◌∷◌, Bool, true, false, Option, Some, None, sym, subst, inl, inr}
use Rattle.ir_tables.specs.declared.linkage.Linkage.{Linkage}
use Rattle.ir_tables.specs.declared.linkage.Linkage.TheVariants as linkage
use Rattle.ir_terminals.specs.PhraseRows.Row.{keep_second, optional}
use Rattle.ir_terminals.specs.declared.limits.Limits.{Limits}
use Rattle.ir_terminals.specs.declared.terminal.Terminal.TheVariants as terminal
use Rattle.ir_terminals.specs.Position.{text_tokens}
use Rattle.ir_terminals.specs.Role.{class}
use Rattle.ir_terminals.specs.Tokens.{word, global_name_row, named_local_row, local_row}
use Rattle.ir_phrases.specs.Constants.Tree.{TypeTree}
use Rattle.ir_phrases.specs.Constants.Forms.{AllAre}
use Rattle.ir_phrases.proofs.OnConstants.Gives.{Gives, gives_any, gives_weaker, gives_fail, gives_nothing, gives_mapped, gives_chain, gives_both, gives_second, gives_before, gives_pair, gives_alt, gives_many, gives_loop, gives_labelled, all_more}
use Rattle.ir_phrases.specs.Instructions.Tree.{SignatureTree}
use Rattle.ir_phrases.specs.Instructions.Dropped.{comma_shape, convention_row, parameter_attributes_row, function_attributes_row}
use Rattle.ir_syntax.specs.Tree.{PlainBody, PackedBody, ParameterTree, HeadTree}
use Rattle.ir_syntax.specs.Heads.{GlobalHead, optional_linkage_row, global_words_row, global_head_row}
use Rattle.ir_syntax.specs.Variables.{body_row, struct_row, constant_word_row, initialiser_shape, initialiser_core, tails_row, variable_rest_shape, variable_rest_core, variable_shape, variable_core}
use Rattle.ir_syntax.specs.Aliases.{alias_type_of, alias_type_shape, alias_type_core, target_row as alias_target_row, alias_shape, alias_core, global_behind_shape, global_behind_core, global_row}
use Rattle.ir_syntax.specs.Functions.{parameter_shape, parameter_core, parameter_row, dots_row, ParametersTree, parameter_step, more_parameters_shape, more_parameters_row, some_parameters_row, parameter_list_row, parameters_shape, parameters_core, parameters_row, head_shape, head_core, metadata_row, parameter_types, declared_shape, declared_core, declaration_row, body_shape, body_core, defined_core, definition_row}
use Rattle.ir_syntax.specs.Items.{source_row, target_row, attributes_row, metadata_item_row, item_shape, item_core, items_row, language}
use Rattle.item_build.specs.Buildable.Narrow.{IsNarrow, IsNarrowSignature, IsNarrowBlock, IsNarrowBody, IsNarrowInitialiser, IsNarrowAlias, IsNarrowParameter, IsNarrowItem}
use Rattle.ir_resolve.specs.ReadsNarrow.Laws.{ReadsNarrow}
use Rattle.ir_resolve.proofs.OnReadsNarrow.Lists.{all_of}
use Rattle.ir_resolve.proofs.OnReadsNarrow.Types.{gives_type, gives_fields}
use Rattle.ir_resolve.proofs.OnReadsNarrow.Constants.{gives_constant}
use Rattle.ir_resolve.proofs.OnReadsNarrow.Calls.{gives_signature}
use Rattle.ir_resolve.proofs.OnReadsNarrow.Blocks.{gives_blocks}

abbrev IsNarrowHead : HeadTree → Type 0
IsNarrowHead head = IsNarrow head.returns

abbrev AreNarrowParameters : ParametersTree → Type 0
AreNarrowParameters s = AllAre IsNarrowParameter s.0

alias_narrow : (t : TypeTree) (s : Option SignatureTree) → IsNarrow t → IsNarrowSignature s → IsNarrowAlias (alias_type_of t s)
alias_narrow t None x y = x
alias_narrow t (Some s) x y = (x, y)

types_narrow : (all : List ParameterTree) → AllAre IsNarrowParameter all → AllAre IsNarrow (parameter_types all)
types_narrow [] x = tt
types_narrow (p ∷ all) x = (x.0, types_narrow all x.1)

module _ (limits : Limits) where
  -- ---- structs

  gives_body : Gives (body_row limits) IsNarrowBody
  gives_body =
      gives_alt class (gives_mapped _ IsNarrowBody (gives_any (word terminal.Opaque)) (λ p x. tt))
      (gives_alt class
      (gives_mapped PlainBody IsNarrowBody (gives_second (word terminal.OpenBrace) (gives_before (word terminal.CloseBrace) (gives_fields limits))) (λ f x. all_of IsNarrow f x))
      (gives_mapped PackedBody IsNarrowBody
      (gives_second (word terminal.Less)
      (gives_second (word terminal.OpenBrace) (gives_before (keep_second (word terminal.CloseBrace) (word terminal.Greater)) (gives_fields limits))))
      (λ f x. all_of IsNarrow f x)))

  gives_struct : Gives (struct_row limits) IsNarrowItem
  gives_struct =
      gives_mapped _ IsNarrowItem
      (gives_pair (gives_before (keep_second (word terminal.Equals) (word terminal.«Type»)) (gives_any (named_local_row limits))) gives_body)
      (λ v x. x.1)

  -- ---- variables and aliases

  gives_initialiser_core : (written : Option Linkage) → Gives (initialiser_core limits written) IsNarrowInitialiser
  unfolding initialiser_core
  gives_initialiser_core None = gives_mapped Some IsNarrowInitialiser (gives_constant limits) (λ c x. x)
  gives_initialiser_core (Some linkage.External) = gives_nothing None IsNarrowInitialiser tt
  gives_initialiser_core (Some linkage.ExternWeak) = gives_nothing None IsNarrowInitialiser tt
  gives_initialiser_core (Some _) = gives_mapped Some IsNarrowInitialiser (gives_constant limits) (λ c x. x)

  gives_rest_core : (written : Option Linkage) → Gives (variable_rest_core limits written) (λ v. IsNarrowInitialiser v.0)
  unfolding variable_rest_core
  gives_rest_core written =
      gives_weaker (λ v. IsNarrowInitialiser v.0) (gives_pair (gives_labelled initialiser_shape (gives_initialiser_core written)) (gives_any tails_row)) (λ v x. x.0)

  gives_variable_core : (h : GlobalHead) → Gives (variable_core limits h) IsNarrowItem
  unfolding variable_core
  gives_variable_core h =
      gives_mapped _ IsNarrowItem
      (gives_pair (gives_any constant_word_row) (gives_pair (gives_type limits) (gives_labelled variable_rest_shape (gives_rest_core h.1))))
      (λ v x. (x.1.0, x.1.1))

  gives_alias_type_core : Gives (alias_type_core limits) IsNarrowAlias
  unfolding alias_type_core
  gives_alias_type_core = gives_both alias_type_of IsNarrowAlias (gives_type limits) (gives_signature limits) alias_narrow

  gives_alias_core : (h : GlobalHead) → Gives (alias_core limits h) IsNarrowItem
  unfolding alias_core
  gives_alias_core h =
      gives_mapped _ IsNarrowItem
      (gives_second (word terminal.«Alias») (gives_pair (gives_labelled alias_type_shape gives_alias_type_core) (gives_any alias_target_row)))
      (λ v x. x.0)

  gives_behind_core : (h : GlobalHead) → Gives (global_behind_core limits h) IsNarrowItem
  unfolding global_behind_core
  gives_behind_core h = gives_alt class (gives_labelled alias_shape (gives_alias_core h)) (gives_labelled variable_shape (gives_variable_core h))

  gives_global : Gives (global_row limits) IsNarrowItem
  gives_global = gives_chain global_behind_shape IsNarrowItem (gives_any global_head_row) (λ h x. gives_labelled global_behind_shape (gives_behind_core h))

  -- ---- functions

  gives_parameter_core : Gives (parameter_core limits) IsNarrowParameter
  unfolding parameter_core
  gives_parameter_core =
      gives_weaker IsNarrowParameter (gives_pair (gives_type limits) (gives_second parameter_attributes_row (gives_any (optional class local_row)))) (λ v x. x.0)

  gives_parameter : Gives (parameter_row limits) IsNarrowParameter
  gives_parameter = gives_labelled parameter_shape gives_parameter_core

  gives_head_core : Gives (head_core limits) IsNarrowHead
  unfolding head_core
  gives_head_core =
      gives_mapped _ IsNarrowHead
      (gives_pair (gives_any optional_linkage_row)
      (gives_second global_words_row
      (gives_second convention_row (gives_second parameter_attributes_row (gives_pair (gives_type limits) (gives_any global_name_row))))))
      (λ v x. x.1.0)

  module _ (dots : Bool) where
    step_by : (parts : List ParameterTree) (closed : Bool) → AllAre IsNarrowParameter parts → Gives (parameter_step dots limits (parts, closed)) AreNarrowParameters
    step_by parts true x = gives_fail comma_shape AreNarrowParameters
    step_by parts false x =
        gives_second (word terminal.Comma)
        (gives_alt class
        (gives_mapped _ AreNarrowParameters (gives_any (dots_row dots)) (λ d y. x))
        (gives_mapped _ AreNarrowParameters gives_parameter (λ p y. all_more IsNarrowParameter parts p x y)))

    step_gives : (s : ParametersTree) → AreNarrowParameters s → Gives (parameter_step dots limits s) AreNarrowParameters
    step_gives (parts, closed) x = step_by parts closed x

    gives_more : (s : ParametersTree) → AreNarrowParameters s → Gives (more_parameters_row dots limits s) AreNarrowParameters
    gives_more s x =
        gives_labelled more_parameters_shape
        (gives_loop class (record { first = comma_shape.first; more = parameter_shape.more; empty = false }) AreNarrowParameters step_gives s x)

    gives_some : Gives (some_parameters_row dots limits) AreNarrowParameters
    gives_some = gives_chain more_parameters_shape AreNarrowParameters gives_parameter (λ p x. gives_more (p ∷ [], false) (x, tt))

    gives_parameter_list : Gives (parameter_list_row dots limits) AreNarrowParameters
    gives_parameter_list =
        gives_alt class (gives_mapped _ AreNarrowParameters (gives_any (dots_row dots)) (λ d x. tt))
        (gives_alt class gives_some (gives_nothing ([], false) AreNarrowParameters tt))

    gives_parameters_core : Gives (parameters_core dots limits) AreNarrowParameters
    unfolding parameters_core
    gives_parameters_core = gives_second (word terminal.OpenParenthesis) (gives_before (word terminal.CloseParenthesis) gives_parameter_list)

    gives_parameters : Gives (parameters_row dots limits) AreNarrowParameters
    gives_parameters = gives_labelled parameters_shape gives_parameters_core

  gives_declared_core : Gives (declared_core limits) (λ s. AllAre IsNarrow s.0)
  unfolding declared_core
  gives_declared_core = gives_mapped _ (λ s. AllAre IsNarrow s.0) (gives_before function_attributes_row (gives_parameters true)) (λ s x. types_narrow s.0 x)

  gives_declaration : Gives (declaration_row limits) IsNarrowItem
  gives_declaration =
      gives_mapped _ IsNarrowItem
      (gives_pair (gives_any (word terminal.Declare))
      (gives_second metadata_row (gives_pair (gives_labelled head_shape gives_head_core) (gives_labelled declared_shape gives_declared_core))))
      (λ v x. (x.1.0, all_of IsNarrow v.1.1.0 x.1.1))

  gives_body_core : Gives (body_core limits) (AllAre IsNarrowBlock)
  unfolding body_core
  gives_body_core = gives_second function_attributes_row (gives_second metadata_row (gives_blocks limits))

  gives_defined_core : Gives (defined_core limits) (λ v. AreNarrowParameters v.0 × AllAre IsNarrowBlock v.1)
  unfolding defined_core
  gives_defined_core = gives_pair (gives_parameters limits.with_left_out) (gives_labelled body_shape gives_body_core)

  gives_definition : Gives (definition_row limits) IsNarrowItem
  gives_definition =
      gives_mapped _ IsNarrowItem
      (gives_pair (gives_any (word terminal.Define)) (gives_pair (gives_labelled head_shape gives_head_core) (gives_labelled parameters_shape gives_defined_core)))
      (λ v x. (x.1.0, all_of IsNarrowParameter v.1.1.0.0 x.1.1.0, all_of IsNarrowBlock v.1.1.1 x.1.1.1))

  -- ---- all items

  gives_source : Gives source_row IsNarrowItem
  gives_source = record { value = λ us a w. subst IsNarrowItem (sym w.2) tt }

  gives_target : Gives (keep_second (word terminal.Target) target_row) IsNarrowItem
  gives_target = record { value = λ us a w. elim w.5 [ inl x ↦ subst IsNarrowItem (sym x.2) tt | inr x ↦ subst IsNarrowItem (sym x.2) tt ] }

  gives_attributes : Gives attributes_row IsNarrowItem
  gives_attributes = record { value = λ us a w. subst IsNarrowItem (sym w.2) tt }

  gives_metadata : Gives metadata_item_row IsNarrowItem
  gives_metadata = record { value = λ us a w. subst IsNarrowItem (sym w.2) tt }

  gives_item_core : Gives (item_core limits) IsNarrowItem
  unfolding item_core
  gives_item_core =
      gives_alt class gives_source
      (gives_alt class gives_target
      (gives_alt class gives_struct
      (gives_alt class gives_global
      (gives_alt class gives_declaration
      (gives_alt class gives_definition
      (gives_alt class gives_attributes gives_metadata))))))

  gives_items : Gives (items_row limits) (AllAre IsNarrowItem)
  gives_items = gives_many class (gives_labelled item_shape gives_item_core)

-- the items of a text
pub are_narrow : ReadsNarrow
are_narrow text items h = record { each = all_of IsNarrowItem items ((gives_items language).value (text_tokens text) items h.are_items) }
