-- The items of a text of bytes: widths, bytes, names, and how deep constants nest.
use Rattle.std.proofs.Common.{◌≡◌, ℕ, List, [], ◌∷◌, ◌++◌, Bool, true, false, Option, Some, None, sym, subst}
use Rattle.ir_lexer.specs.Ahead.{Located, tokens_in}
use Rattle.ir_lexer.specs.Tokens.{Tokens}
use Rattle.ir_tables.specs.declared.linkage.Linkage.{Linkage}
use Rattle.ir_tables.specs.declared.linkage.Linkage.TheVariants as linkage
use Rattle.ir_terminals.specs.PhraseRows.Row.{keep_first, keep_second}
use Rattle.ir_terminals.specs.declared.terminal.Terminal.TheVariants as terminal
use Rattle.ir_terminals.specs.Position.{text_tokens}
use Rattle.ir_terminals.specs.Role.{class}
use Rattle.ir_terminals.specs.Terminal.{code}
use Rattle.ir_terminals.specs.Values.{name_of_global, named_local_of, text_of}
use Rattle.ir_terminals.specs.Tokens.{word, global_name_row, named_local_row, quoted_row}
use Rattle.ir_phrases.specs.Constants.Tree.{TypeTree}
use Rattle.ir_phrases.specs.Constants.Forms.{AllAre}
use Rattle.ir_phrases.proofs.OnConstants.Gives.{IfThere, all_more}
use Rattle.ir_phrases.specs.Instructions.Tree.{SignatureTree}
use Rattle.ir_phrases.specs.Instructions.Dropped.{comma_shape, convention_row, parameter_attributes_row, function_attributes_row}
use Rattle.ir_syntax.specs.Tree.{BodyTree, OpaqueBody, PlainBody, PackedBody, AliasTypeTree, PlainAlias, FunctionAlias, ParameterTree, HeadTree, ItemTree, SourceFilename, DataLayout, TargetTriple, Struct, Variable, Alias, Declaration, Definition, Attributes, Metadata}
use Rattle.ir_syntax.specs.Heads.{GlobalHead, optional_linkage_row, global_words_row, global_head_shape, global_head_core}
use Rattle.ir_syntax.specs.Variables.{body_row, struct_row, constant_word_row, initialiser_shape, initialiser_core, tails_row, variable_rest_shape, variable_rest_core, variable_shape, variable_core}
use Rattle.ir_syntax.specs.Aliases.{alias_type_of, alias_type_shape, alias_type_core, target_row as alias_target_row, alias_shape, alias_core, global_behind_shape, global_behind_core, global_row}
use Rattle.ir_syntax.specs.Functions.{parameter_shape, parameter_core, parameter_row, dots_row, ParametersTree, parameter_step, more_parameters_shape, more_parameters_row, some_parameters_row, parameter_list_row, parameters_shape, parameters_core, parameters_row, head_shape, head_core, metadata_row, parameter_types, declared_shape, declared_core, declaration_row, body_shape, body_core, defined_core, definition_row}
use Rattle.ir_syntax.specs.Items.{source_row, target_row, attributes_row, metadata_item_row, item_shape, item_core, items_row, language}
use Rattle.ir_syntax.specs.Answers.{HasItems}
use Rattle.module_arena.specs.Names.{is_name}
use Rattle.name_rules.proofs.OnReading.Given.{AreBytes, IsSpelled, Given, given_any, given_weaker, given_fail, given_nothing, given_one, given_mapped, given_chain, given_both, given_second, given_before, given_pair, given_alt, given_optional, given_many, given_loop, given_labelled}
use Rattle.name_rules.proofs.OnReading.Spellings.{IsLocalWell, global_well, struct_well, quoted_well, front_bytes}
use Rattle.name_rules.proofs.OnReading.Types.{HasWidths, given_type, given_fields}
use Rattle.name_rules.proofs.OnReading.Constants.{IsWell, given_constant}
use Rattle.name_rules.proofs.OnReading.Instructions.{IsBlockWell, IsSignatureWell, given_signature, given_local, given_blocks}

abbrev pub IsNameWell : List ℕ → Type 0
IsNameWell name = is_name name ≡ true

abbrev pub IsBodyWell : BodyTree → Type 0
IsBodyWell OpaqueBody = Unit {0}
IsBodyWell (PlainBody fields) = AllAre HasWidths fields
IsBodyWell (PackedBody fields) = AllAre HasWidths fields

abbrev pub IsAliasTypeWell : AliasTypeTree → Type 0
IsAliasTypeWell (PlainAlias ty) = HasWidths ty
IsAliasTypeWell (FunctionAlias returns parameters variadic) = HasWidths returns × AllAre HasWidths parameters

abbrev pub IsParameterWell : ParameterTree → Type 0
IsParameterWell p = HasWidths p.0 × IfThere IsLocalWell p.1

abbrev pub IsHeadWell : HeadTree → Type 0
IsHeadWell head = HasWidths head.returns × IsNameWell head.name.name

abbrev pub IsItemWell : ItemTree → Type 0
IsItemWell (SourceFilename place text) = AreBytes text.text
IsItemWell (DataLayout place text) = AreBytes text.text
IsItemWell (TargetTriple place text) = AreBytes text.text
IsItemWell (Struct name body) = IsNameWell name.name × IsBodyWell body
IsItemWell (Variable v) = IsNameWell v.name.name × HasWidths v.ty × IfThere (IsWell 64) v.initialiser
IsItemWell (Alias a) = IsNameWell a.name.name × IsAliasTypeWell a.ty
IsItemWell (Declaration place head parameters variadic) = IsHeadWell head × AllAre HasWidths parameters
IsItemWell (Definition place head parameters blocks) = IsHeadWell head × AllAre IsParameterWell parameters × AllAre (IsBlockWell language) blocks
IsItemWell (Attributes place) = Unit {0}
IsItemWell (Metadata place) = Unit {0}

given_global_name : Given global_name_row (λ n. IsNameWell n.name)
given_global_name = given_one class (code terminal.GlobalName ∷ []) name_of_global (λ n. IsNameWell n.name) global_well

given_struct_name : Given (named_local_row language) (λ n. IsNameWell n.name)
given_struct_name = given_one class (code terminal.Local ∷ []) (named_local_of false) (λ n. IsNameWell n.name) struct_well

given_quoted : Given quoted_row (λ s. AreBytes s.text)
given_quoted = given_one class (code terminal.Quoted ∷ []) text_of (λ s. AreBytes s.text) quoted_well

-- ---- structs

given_body : Given (body_row language) IsBodyWell
given_body =
    given_alt class (given_mapped _ IsBodyWell (given_any (word terminal.Opaque)) (λ p x. tt))
    (given_alt class
    (given_mapped PlainBody IsBodyWell (given_second (word terminal.OpenBrace) (given_before (word terminal.CloseBrace) (given_fields language))) (λ f x. x))
    (given_mapped PackedBody IsBodyWell
    (given_second (word terminal.Less)
    (given_second (word terminal.OpenBrace) (given_before (keep_second (word terminal.CloseBrace) (word terminal.Greater)) (given_fields language))))
    (λ f x. x)))

given_struct : Given (struct_row language) IsItemWell
given_struct =
    given_mapped _ IsItemWell
    (given_pair (given_before (keep_second (word terminal.Equals) (word terminal.«Type»)) given_struct_name) given_body)
    (λ v x. (x.0, x.1))

-- ---- variables and aliases

given_initialiser_core : (written : Option Linkage) → Given (initialiser_core language written) (IfThere (IsWell 64))
unfolding initialiser_core
given_initialiser_core None = given_mapped Some (IfThere (IsWell 64)) (given_constant language) (λ c x. x)
given_initialiser_core (Some linkage.External) = given_nothing None (IfThere (IsWell 64)) tt
given_initialiser_core (Some linkage.ExternWeak) = given_nothing None (IfThere (IsWell 64)) tt
given_initialiser_core (Some _) = given_mapped Some (IfThere (IsWell 64)) (given_constant language) (λ c x. x)

given_rest_core : (written : Option Linkage) → Given (variable_rest_core language written) (λ v. IfThere (IsWell 64) v.0)
unfolding variable_rest_core
given_rest_core written =
    given_weaker (λ v. IfThere (IsWell 64) v.0) (given_pair (given_labelled initialiser_shape (given_initialiser_core written)) (given_any tails_row)) (λ v x. x.0)

given_variable_core : (h : GlobalHead) → IsNameWell h.0.name → Given (variable_core language h) IsItemWell
unfolding variable_core
given_variable_core h good =
    given_mapped _ IsItemWell
    (given_pair (given_any constant_word_row) (given_pair (given_type language) (given_labelled variable_rest_shape (given_rest_core h.1))))
    (λ v x. (good, x.1.0, x.1.1))

alias_type_well : (t : TypeTree) (s : Option SignatureTree) → HasWidths t → IsSignatureWell s → IsAliasTypeWell (alias_type_of t s)
alias_type_well t None x y = x
alias_type_well t (Some s) x y = (x, y)

given_alias_type_core : Given (alias_type_core language) IsAliasTypeWell
unfolding alias_type_core
given_alias_type_core = given_both alias_type_of IsAliasTypeWell (given_type language) (given_signature language) alias_type_well

given_alias_core : (h : GlobalHead) → IsNameWell h.0.name → Given (alias_core language h) IsItemWell
unfolding alias_core
given_alias_core h good =
    given_mapped _ IsItemWell
    (given_second (word terminal.«Alias») (given_pair (given_labelled alias_type_shape given_alias_type_core) (given_any alias_target_row)))
    (λ v x. (good, x.0))

given_behind_core : (h : GlobalHead) → IsNameWell h.0.name → Given (global_behind_core language h) IsItemWell
unfolding global_behind_core
given_behind_core h good = given_alt class (given_labelled alias_shape (given_alias_core h good)) (given_labelled variable_shape (given_variable_core h good))

given_global_head_core : Given global_head_core (λ h. IsNameWell h.0.name)
unfolding global_head_core
given_global_head_core =
    given_weaker (λ h. IsNameWell h.0.name) (given_pair (given_before (word terminal.Equals) given_global_name) (given_any (keep_first optional_linkage_row global_words_row))) (λ h x. x.0)

given_global : Given (global_row language) IsItemWell
given_global = given_chain global_behind_shape IsItemWell (given_labelled global_head_shape given_global_head_core) (λ h x. given_labelled global_behind_shape (given_behind_core h x))

-- ---- functions

given_parameter_core : Given (parameter_core language) IsParameterWell
unfolding parameter_core
given_parameter_core = given_pair (given_type language) (given_second parameter_attributes_row (given_optional class (given_local language)))

given_parameter : Given (parameter_row language) IsParameterWell
given_parameter = given_labelled parameter_shape given_parameter_core

abbrev AreParametersWell : ParametersTree → Type 0
AreParametersWell s = AllAre IsParameterWell s.0

module _ (dots : Bool) where
  step_by : (parts : List ParameterTree) (closed : Bool) → AllAre IsParameterWell parts → Given (parameter_step dots language (parts, closed)) AreParametersWell
  step_by parts true x = given_fail comma_shape AreParametersWell
  step_by parts false x =
      given_second (word terminal.Comma)
      (given_alt class
      (given_mapped _ AreParametersWell (given_any (dots_row dots)) (λ d y. x))
      (given_mapped _ AreParametersWell given_parameter (λ p y. all_more IsParameterWell parts p x y)))

  step_given : (s : ParametersTree) → AreParametersWell s → Given (parameter_step dots language s) AreParametersWell
  step_given (parts, closed) x = step_by parts closed x

  given_more : (s : ParametersTree) → AreParametersWell s → Given (more_parameters_row dots language s) AreParametersWell
  given_more s x =
      given_labelled more_parameters_shape
      (given_loop class (record { first = comma_shape.first; more = parameter_shape.more; empty = false }) AreParametersWell step_given s x)

  given_some : Given (some_parameters_row dots language) AreParametersWell
  given_some = given_chain more_parameters_shape AreParametersWell given_parameter (λ p x. given_more (p ∷ [], false) (x, tt))

  given_parameter_list : Given (parameter_list_row dots language) AreParametersWell
  given_parameter_list =
      given_alt class (given_mapped _ AreParametersWell (given_any (dots_row dots)) (λ d x. tt))
      (given_alt class given_some (given_nothing ([], false) AreParametersWell tt))

  given_parameters_core : Given (parameters_core dots language) AreParametersWell
  unfolding parameters_core
  given_parameters_core = given_second (word terminal.OpenParenthesis) (given_before (word terminal.CloseParenthesis) given_parameter_list)

  given_parameters : Given (parameters_row dots language) AreParametersWell
  given_parameters = given_labelled parameters_shape given_parameters_core

given_head_core : Given (head_core language) IsHeadWell
unfolding head_core
given_head_core =
    given_mapped _ IsHeadWell
    (given_pair (given_any optional_linkage_row)
    (given_second global_words_row (given_second convention_row (given_second parameter_attributes_row (given_pair (given_type language) given_global_name)))))
    (λ v x. (x.1.0, x.1.1))

types_well : (all : List ParameterTree) → AllAre IsParameterWell all → AllAre HasWidths (parameter_types all)
types_well [] x = tt
types_well (p ∷ all) x = (x.0.0, types_well all x.1)

given_declared_core : Given (declared_core language) (λ s. AllAre HasWidths s.0)
unfolding declared_core
given_declared_core =
    given_mapped _ (λ s. AllAre HasWidths s.0) (given_before function_attributes_row (given_parameters true)) (λ s x. types_well s.0 x)

given_declaration : Given (declaration_row language) IsItemWell
given_declaration =
    given_mapped _ IsItemWell
    (given_pair (given_any (word terminal.Declare))
    (given_second metadata_row (given_pair (given_labelled head_shape given_head_core) (given_labelled declared_shape given_declared_core))))
    (λ v x. (x.1.0, x.1.1))

given_body_core : Given (body_core language) (AllAre (IsBlockWell language))
unfolding body_core
given_body_core = given_second function_attributes_row (given_second metadata_row (given_blocks language))

given_defined_core : Given (defined_core language) (λ v. AreParametersWell v.0 × AllAre (IsBlockWell language) v.1)
unfolding defined_core
given_defined_core = given_pair (given_parameters false) (given_labelled body_shape given_body_core)

given_definition : Given (definition_row language) IsItemWell
given_definition =
    given_mapped _ IsItemWell
    (given_pair (given_any (word terminal.Define)) (given_pair (given_labelled head_shape given_head_core) (given_labelled parameters_shape given_defined_core)))
    (λ v x. (x.1.0, x.1.1.0, x.1.1.1))

-- ---- all items

given_source : Given source_row IsItemWell
given_source = given_mapped _ IsItemWell (given_pair (given_any (keep_first (word terminal.SourceFilename) (word terminal.Equals))) given_quoted) (λ v x. x.1)

given_target : Given target_row IsItemWell
given_target =
    given_alt class
    (given_mapped _ IsItemWell (given_pair (given_any (keep_first (word terminal.DataLayout) (word terminal.Equals))) given_quoted) (λ v x. x.1))
    (given_mapped _ IsItemWell (given_pair (given_any (keep_first (word terminal.Triple) (word terminal.Equals))) given_quoted) (λ v x. x.1))

given_attributes : Given attributes_row IsItemWell
given_attributes = record { value = λ us a q w. subst IsItemWell (sym w.2) tt }

given_metadata : Given metadata_item_row IsItemWell
given_metadata = record { value = λ us a q w. subst IsItemWell (sym w.2) tt }

given_item_core : Given (item_core language) IsItemWell
unfolding item_core
given_item_core =
    given_alt class given_source
    (given_alt class (given_second (word terminal.Target) given_target)
    (given_alt class given_struct
    (given_alt class given_global
    (given_alt class given_declaration
    (given_alt class given_definition
    (given_alt class given_attributes given_metadata))))))

given_items : Given (items_row language) (AllAre IsItemWell)
given_items = given_many class (given_labelled item_shape given_item_core)

tokens_spelled : (text : List ℕ) (ts : List Located) → AreBytes text → Tokens text (tokens_in ts) → AllAre IsSpelled ts
tokens_spelled text [] all h = tt
tokens_spelled text (t ∷ ts) all (rest, b, more) =
    let behind = front_bytes b.gap (t.token.spelling ++ rest) (subst AreBytes b.parts all) in
    let parts = front_bytes t.token.spelling rest behind.1 in
    (record { token = b.token.token; bytes = parts.0 }, tokens_spelled rest ts parts.1 more)

-- the items of a text of bytes
pub items_well : (text : List ℕ) (items : List ItemTree) → AreBytes text → HasItems text items → AllAre IsItemWell items
items_well text items all h = given_items.value (text_tokens text) items (tokens_spelled text (text_tokens text) all h.are_tokens) h.are_items
