-- The items of a text have the parts of their phrases.
use Rattle.std.proofs.Common.{◌≡◌, ℕ, List, Option, Some, None, refl, sym, subst, not, is_some, inl, inr}
use Rattle.ir_tables.specs.declared.linkage.Linkage.{Linkage}
use Rattle.ir_tables.specs.declared.linkage.Linkage.TheVariants as linkage
use Rattle.ir_terminals.specs.PhraseRows.Row.{keep_second}
use Rattle.ir_terminals.specs.declared.limits.Limits.{Limits}
use Rattle.ir_terminals.specs.declared.terminal.Terminal.TheVariants as terminal
use Rattle.ir_terminals.specs.Position.{text_tokens}
use Rattle.ir_terminals.specs.Role.{class}
use Rattle.ir_terminals.specs.Tokens.{word}
use Rattle.ir_phrases.specs.Constants.Tree.{ConstantTree}
use Rattle.ir_phrases.specs.Constants.Types.{type_row}
use Rattle.ir_phrases.specs.Constants.Forms.{AllAre, IsNotEmpty}
use Rattle.ir_phrases.proofs.OnConstants.Gives.{Gives, gives_any, gives_weaker, gives_nothing, gives_mapped, gives_chain, gives_second, gives_pair, gives_alt, gives_many, gives_labelled}
use Rattle.ir_phrases.proofs.OnConstants.Formed.{gives_constant}
use Rattle.ir_phrases.specs.Instructions.Dropped.{function_attributes_row}
use Rattle.ir_phrases.specs.Instructions.Forms.{IsBlockFormed}
use Rattle.ir_phrases.proofs.OnInstructions.Formed.{gives_blocks}
use Rattle.ir_syntax.specs.Tree.{ItemTree}
use Rattle.ir_syntax.specs.Heads.{GlobalHead, global_head_row}
use Rattle.ir_syntax.specs.Variables.{constant_word_row, initialiser_shape, initialiser_core, tails_row, variable_rest_shape, variable_rest_core, variable_shape, variable_core, struct_row}
use Rattle.ir_syntax.specs.Aliases.{alias_shape, alias_core, global_behind_shape, global_behind_core, global_row}
use Rattle.ir_syntax.specs.Functions.{metadata_row, parameters_shape, parameters_row, head_row, body_shape, body_core, defined_core, definition_row, declaration_row}
use Rattle.ir_syntax.specs.Items.{source_row, target_row, attributes_row, metadata_item_row, item_shape, item_core, items_row, language}
use Rattle.ir_syntax.specs.Answers.{HasItems}
use Rattle.ir_syntax.specs.Forms.{is_declaring, IsInitialiserFormed, IsItemFormed, AreItemsFormed}

-- what is written behind this linkage
abbrev IsAsked : Option Linkage → Option ConstantTree → Type 0
IsAsked written initialiser = (is_some initialiser ≡ not (is_declaring written)) × IsInitialiserFormed initialiser

gives_initialiser_core : (limits : Limits) (written : Option Linkage) → Gives (initialiser_core limits written) (IsAsked written)
unfolding initialiser_core
gives_initialiser_core limits None = gives_mapped Some (IsAsked None) (gives_constant limits) (λ c x. (refl, x))
gives_initialiser_core limits (Some linkage.External) = gives_nothing None (IsAsked (Some linkage.External)) (refl, tt)
gives_initialiser_core limits (Some linkage.ExternWeak) = gives_nothing None (IsAsked (Some linkage.ExternWeak)) (refl, tt)
gives_initialiser_core limits (Some _) = gives_mapped Some _ (gives_constant limits) (λ c x. (refl, x))

gives_variable_rest_core : (limits : Limits) (written : Option Linkage) → Gives (variable_rest_core limits written) (λ v. IsAsked written v.0)
unfolding variable_rest_core
gives_variable_rest_core limits written =
    gives_weaker (λ v. IsAsked written v.0) (gives_pair (gives_labelled initialiser_shape (gives_initialiser_core limits written)) (gives_any tails_row)) (λ v x. x.0)

gives_variable_core : (limits : Limits) (h : GlobalHead) → Gives (variable_core limits h) IsItemFormed
unfolding variable_core
gives_variable_core limits h =
    gives_mapped _ IsItemFormed
    (gives_pair (gives_any constant_word_row) (gives_pair (gives_any (type_row limits)) (gives_labelled variable_rest_shape (gives_variable_rest_core limits h.1))))
    (λ v x. x.1.1)

gives_alias_core : (limits : Limits) (h : GlobalHead) → Gives (alias_core limits h) IsItemFormed
unfolding alias_core
gives_alias_core limits h = record { value = λ us a w. subst IsItemFormed (sym w.2) tt }

gives_global_behind_core : (limits : Limits) (h : GlobalHead) → Gives (global_behind_core limits h) IsItemFormed
unfolding global_behind_core
gives_global_behind_core limits h =
    gives_alt class (gives_labelled alias_shape (gives_alias_core limits h)) (gives_labelled variable_shape (gives_variable_core limits h))

gives_global : (limits : Limits) → Gives (global_row limits) IsItemFormed
gives_global limits = gives_chain global_behind_shape IsItemFormed (gives_any global_head_row) (λ h x. gives_labelled global_behind_shape (gives_global_behind_core limits h))

gives_body_core : (limits : Limits) → Gives (body_core limits) (λ bs. IsNotEmpty bs × AllAre IsBlockFormed bs)
unfolding body_core
gives_body_core limits = gives_second function_attributes_row (gives_second metadata_row (gives_blocks limits))

gives_defined_core : (limits : Limits) → Gives (defined_core limits) (λ v. IsNotEmpty v.1 × AllAre IsBlockFormed v.1)
unfolding defined_core
gives_defined_core limits =
    gives_weaker (λ v. IsNotEmpty v.1 × AllAre IsBlockFormed v.1)
    (gives_pair (gives_any (parameters_row limits.with_left_out limits)) (gives_labelled body_shape (gives_body_core limits))) (λ v x. x.1)

gives_definition : (limits : Limits) → Gives (definition_row limits) IsItemFormed
gives_definition limits =
    gives_mapped _ IsItemFormed
    (gives_pair (gives_any (word terminal.Define)) (gives_pair (gives_any (head_row limits)) (gives_labelled parameters_shape (gives_defined_core limits))))
    (λ v x. x.1.1)

gives_source : Gives source_row IsItemFormed
gives_source = record { value = λ us a w. subst IsItemFormed (sym w.2) tt }

gives_target : Gives (keep_second (word terminal.Target) target_row) IsItemFormed
gives_target = record { value = λ us a w. elim w.5 [ inl x ↦ subst IsItemFormed (sym x.2) tt | inr x ↦ subst IsItemFormed (sym x.2) tt ] }

gives_struct : (limits : Limits) → Gives (struct_row limits) IsItemFormed
gives_struct limits = record { value = λ us a w. subst IsItemFormed (sym w.2) tt }

gives_declaration : (limits : Limits) → Gives (declaration_row limits) IsItemFormed
gives_declaration limits = record { value = λ us a w. subst IsItemFormed (sym w.2) tt }

gives_attributes : Gives attributes_row IsItemFormed
gives_attributes = record { value = λ us a w. subst IsItemFormed (sym w.2) tt }

gives_metadata : Gives metadata_item_row IsItemFormed
gives_metadata = record { value = λ us a w. subst IsItemFormed (sym w.2) tt }

gives_item_core : (limits : Limits) → Gives (item_core limits) IsItemFormed
unfolding item_core
gives_item_core limits =
    gives_alt class gives_source
    (gives_alt class gives_target
    (gives_alt class (gives_struct limits)
    (gives_alt class (gives_global limits)
    (gives_alt class (gives_declaration limits)
    (gives_alt class (gives_definition limits)
    (gives_alt class gives_attributes gives_metadata))))))

gives_items : (limits : Limits) → Gives (items_row limits) (AllAre IsItemFormed)
gives_items limits = gives_many class (gives_labelled item_shape (gives_item_core limits))

-- the items of a text
pub items_formed : (text : List ℕ) (items : List ItemTree) → HasItems text items → AreItemsFormed items
items_formed text items h = record { each = (gives_items language).value (text_tokens text) items h.are_items }
