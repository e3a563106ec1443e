-- A text has no more items, parameters, blocks and instructions than tokens.
use Rattle.std.proofs.Common.{◌≡◌, ℕ, ◌+◌, ◌≤◌, List, [], ◌∷◌, ◌++◌, length, Bool, true, false, refl, ap, inl, inr, arith, length-append}
use Rattle.std.specs.List.{sum_by}
use Rattle.std.proofs.lemmas.List.{length-map}
use Rattle.std.proofs.lemmas.List.Sums.{sum_by-cons}
use Rattle.ir_terminals.specs.PhraseRows.Row.{Row, PhraseShape, optional}
use Rattle.ir_terminals.specs.PhraseRows.Reads.{Reads}
use Rattle.ir_terminals.proofs.OnPhraseRows.Sizes.{IsSized, IsSizedFrom, sized_none, sized_mapped, sized_both, sized_pair, sized_second, sized_before, sized_alt, sized_nothing, sized_chain, sized_loop, sized_labelled, sized_many, labelled_from, fail_from, second_from, alt_from, mapped_onto}
use Rattle.ir_lexer.specs.Ahead.{Located}
use Rattle.ir_lexer.specs.declared.lexer.TheConstants.{LARGEST}
use Rattle.ir_terminals.specs.declared.limits.Limits.{Limits}
use Rattle.ir_terminals.specs.declared.terminal.Terminal.{Terminal}
use Rattle.ir_terminals.specs.declared.terminal.Terminal.TheVariants as terminal
use Rattle.ir_terminals.specs.Position.{text_tokens}
use Rattle.ir_terminals.specs.Role.{class}
use Rattle.ir_terminals.specs.Tokens.{word, label_row}
use Rattle.ir_terminals.proofs.RowsRead.{reads_word}
use Rattle.ir_phrases.proofs.OnInstructions.Grammar.{reads_ending}
use Rattle.ir_phrases.specs.Instructions.Dropped.{comma_shape, function_attributes_row}
use Rattle.ir_phrases.specs.Instructions.Blocks.{block_shape, block_core, block_list_row, blocks_row}
use Rattle.ir_phrases.proofs.OnInstructions.Sizes.{instructions_sized}
use Rattle.ir_syntax.specs.Tree.{ItemTree, ParameterTree}
use Rattle.ir_syntax.specs.Counts.{block_count, item_count, counted, most_counted}
use Rattle.ir_syntax.specs.Functions.{ParametersTree, parameter_row, dots_row, parameter_step, more_parameters_row, more_parameters_shape, some_parameters_row, parameter_list_row, parameter_types, parameters_shape, parameters_core, parameters_row, head_row, metadata_row, declared_shape, declared_core, declaration_row, body_shape, body_core, defined_core, definition_row}
use Rattle.ir_syntax.specs.Heads.{GlobalHead}
use Rattle.ir_syntax.specs.Variables.{variable_core}
use Rattle.ir_syntax.specs.Aliases.{alias_core, global_behind_core, global_behind_row}
use Rattle.ir_syntax.specs.Items.{item_shape, item_core, items_row, language}
use Rattle.ir_syntax.specs.Answers.{HasItems}
use Rattle.ir_syntax.proofs.Grammar.{step_shape, reads_parameter, reads_source, reads_target, reads_struct, reads_global, reads_attributes, reads_metadata_item}

-- a phrase that is not empty has a token
one_at_least : {T A : Type 0} {class : T → ℕ} {r : Row T A} {s : PhraseShape} → Reads class r s → s.empty ≡ false → IsSized r (λ a. 1)
one_at_least h some = record { size = at_least h some }
  where
    at_least : {T A : Type 0} {class : T → ℕ} {r : Row T A} {s : PhraseShape} → Reads class r s → s.empty ≡ false → (us : List T) (a : A) → r.whole us a → 1 ≤ length us
    at_least h some [] a w = absurd (let k = h.empty a w in cc)
    at_least h some (u ∷ us) a w = omega arith

abbrev parameters_size : ParametersTree → ℕ
parameters_size s = length s.0

sized_word : (wanted : Terminal) → IsSized (word wanted) (λ a. 1)
sized_word wanted = one_at_least (reads_word wanted) refl

sized_parameter : (limits : Limits) → IsSized (parameter_row limits) (λ a. 1)
sized_parameter limits = one_at_least (reads_parameter limits) refl

sized_step_at : (dots : Bool) (limits : Limits) (before : List ParameterTree) (ended : Bool) → IsSizedFrom (length before) (parameter_step dots limits (before, ended)) parameters_size
sized_step_at dots limits before true = fail_from (length before) comma_shape parameters_size
sized_step_at dots limits before false =
    second_from parameters_size (sized_none (word terminal.Comma))
    (alt_from class
    (mapped_onto (length before) (λ d. (before, d)) parameters_size (sized_none (dots_row dots)) (λ d. omega arith))
    (mapped_onto (length before) (λ p. (before ++ p ∷ [], false)) parameters_size (sized_parameter limits) (λ p. omega (arith, length-append before (p ∷ [])))))
    (λ a s. omega arith)

sized_step : (dots : Bool) (limits : Limits) (s : ParametersTree) → IsSizedFrom (parameters_size s) (parameter_step dots limits s) parameters_size
sized_step dots limits (before, ended) = sized_step_at dots limits before ended

sized_more : (dots : Bool) (limits : Limits) (s : ParametersTree) → IsSizedFrom (parameters_size s) (more_parameters_row dots limits s) parameters_size
sized_more dots limits s = labelled_from more_parameters_shape (sized_loop class step_shape parameters_size (sized_step dots limits) s)

sized_some_parameters : (dots : Bool) (limits : Limits) → IsSized (some_parameters_row dots limits) parameters_size
sized_some_parameters dots limits = sized_chain more_parameters_shape parameters_size (sized_parameter limits) (λ p. sized_more dots limits (p ∷ [], false))

sized_parameter_list : (dots : Bool) (limits : Limits) → IsSized (parameter_list_row dots limits) parameters_size
sized_parameter_list dots limits =
    sized_alt class (sized_mapped (λ d. ([], d)) parameters_size (sized_none (dots_row dots)) (λ d. omega arith))
    (sized_alt class (sized_some_parameters dots limits) (sized_nothing ([], false) parameters_size refl))

sized_parameters_core : (dots : Bool) (limits : Limits) → IsSized (parameters_core dots limits) parameters_size
unfolding parameters_core
sized_parameters_core dots limits =
    sized_second parameters_size (sized_none (word terminal.OpenParenthesis))
    (sized_before parameters_size (sized_parameter_list dots limits) (sized_none (word terminal.CloseParenthesis)) (λ a b. omega arith)) (λ a b. omega arith)

sized_parameters : (dots : Bool) (limits : Limits) → IsSized (parameters_row dots limits) parameters_size
sized_parameters dots limits = sized_labelled parameters_shape (sized_parameters_core dots limits)

sized_block_core : (limits : Limits) → IsSized (block_core limits) block_count
unfolding block_core
sized_block_core limits =
    sized_mapped _ block_count
    (sized_pair (λ v. 1 + length v.1.0) (sized_none (optional class label_row))
    (sized_pair (λ v. 1 + length v.0) (instructions_sized limits) (one_at_least (reads_ending limits) refl) (λ a b. omega arith))
    (λ a b. omega arith)) (λ v. omega arith)

sized_block_list : (limits : Limits) → IsSized (block_list_row limits) (sum_by block_count)
sized_block_list limits =
    sized_both (λ b bs. b ∷ bs) (sum_by block_count) (sized_labelled block_shape (sized_block_core limits))
    (sized_many class (sized_labelled block_shape (sized_block_core limits))) (λ b bs. omega (arith, sum_by-cons block_count b bs))

blocks_sized : (limits : Limits) → IsSized (blocks_row limits) (sum_by block_count)
blocks_sized limits =
    sized_second (sum_by block_count) (sized_none (word terminal.OpenBrace))
    (sized_before (sum_by block_count) (sized_block_list limits) (sized_none (word terminal.CloseBrace)) (λ a b. omega arith)) (λ a b. omega arith)

-- an item that counts as one
sized_one_item : {r : Row Located ItemTree} {s : PhraseShape} → Reads class r s → s.empty ≡ false → ((us : List Located) (a : ItemTree) → r.whole us a → item_count a ≡ 1) → IsSized r item_count
sized_one_item h some one = record { size = λ us a w. (let k = (one_at_least h some).size us a w in let l = one us a w in omega (arith, k, l)) }

sized_declared_core : (limits : Limits) → IsSized (declared_core limits) (λ v. length v.0)
unfolding declared_core
sized_declared_core limits =
    sized_mapped (λ s. (parameter_types s.0, s.1)) (λ v. length v.0)
    (sized_before parameters_size (sized_parameters true limits) (sized_none function_attributes_row) (λ a b. omega arith))
    (λ s. omega (arith, length-map s.0 (λ (p : ParameterTree). p.0)))

sized_declaration : (limits : Limits) → IsSized (declaration_row limits) item_count
sized_declaration limits =
    sized_mapped _ item_count
    (sized_pair (λ v. 1 + length v.1.1.0) (sized_word terminal.Declare)
    (sized_second (λ v. length v.1.0) (sized_none metadata_row)
    (sized_pair (λ v. length v.1.0) (sized_none (head_row limits)) (sized_labelled declared_shape (sized_declared_core limits)) (λ a b. omega arith))
    (λ a b. omega arith)) (λ a b. omega arith))
    (λ v. omega arith)

sized_body_core : (limits : Limits) → IsSized (body_core limits) (sum_by block_count)
unfolding body_core
sized_body_core limits =
    sized_second (sum_by block_count) (sized_none function_attributes_row)
    (sized_second (sum_by block_count) (sized_none metadata_row) (blocks_sized limits) (λ a b. omega arith)) (λ a b. omega arith)

sized_defined_core : (limits : Limits) → IsSized (defined_core limits) (λ v. parameters_size v.0 + sum_by block_count v.1)
unfolding defined_core
sized_defined_core limits =
    sized_pair (λ v. parameters_size v.0 + sum_by block_count v.1) (sized_parameters limits.with_left_out limits) (sized_labelled body_shape (sized_body_core limits)) (λ a b. omega arith)

sized_definition : (limits : Limits) → IsSized (definition_row limits) item_count
sized_definition limits =
    sized_mapped _ item_count
    (sized_pair (λ v. 1 + (parameters_size v.1.1.0 + sum_by block_count v.1.1.1)) (sized_word terminal.Define)
    (sized_pair (λ v. parameters_size v.1.0 + sum_by block_count v.1.1) (sized_none (head_row limits)) (sized_labelled parameters_shape (sized_defined_core limits)) (λ a b. omega arith))
    (λ a b. omega arith))
    (λ v. omega arith)

-- a variable or an alias
one_global : (limits : Limits) (h : GlobalHead) (us : List Located) (a : ItemTree) → (global_behind_row limits h).whole us a → item_count a ≡ 1
unfolding global_behind_core alias_core variable_core
one_global limits h us a w = elim w [ inl x ↦ ap item_count x.2 | inr x ↦ ap item_count x.2 ]

sized_item_core : (limits : Limits) → IsSized (item_core limits) item_count
unfolding item_core
sized_item_core limits =
    sized_alt class (sized_one_item reads_source refl (λ us a w. ap item_count w.2))
    (sized_alt class (sized_one_item reads_target refl (λ us a w. elim w.5 [ inl x ↦ ap item_count x.2 | inr x ↦ ap item_count x.2 ]))
    (sized_alt class (sized_one_item (reads_struct limits) refl (λ us a w. ap item_count w.2))
    (sized_alt class (sized_one_item (reads_global limits) refl (λ us a w. one_global limits w.2 w.1 a w.5))
    (sized_alt class (sized_declaration limits)
    (sized_alt class (sized_definition limits)
    (sized_alt class (sized_one_item reads_attributes refl (λ us a w. ap item_count w.2)) (sized_one_item reads_metadata_item refl (λ us a w. ap item_count w.2))))))))

sized_items : (limits : Limits) → IsSized (items_row limits) counted
sized_items limits = sized_many class (sized_labelled item_shape (sized_item_core limits))

-- a text of so many bytes has no more
pub items_few : (text : List ℕ) (items : List ItemTree) → length (text_tokens text) ≤ length text → length text ≤ LARGEST → HasItems text items → counted items ≤ most_counted
items_few text items few short h = let k = (sized_items language).size (text_tokens text) items h.are_items in omega (arith, k, few, short)
