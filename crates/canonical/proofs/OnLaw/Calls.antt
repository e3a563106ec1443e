-- Calls are printed.
use Rattle.std.proofs.Common.{◌≡◌, List, [], ◌∷◌, ◌++◌, map, Bool, true, false, Option, Some, None, option_map, codes, refl, ap}
use Rattle.ir_lexer.specs.Class.{byte_class}
use Rattle.ir_lexer.specs.Table.{IsToken}
use Rattle.ir_lexer.specs.Table as table
use Rattle.ir_lexer.specs.declared.token.TokenKind.TheVariants as kind
use Rattle.ir_terminals.specs.PhraseRows.Row.{keep_first, keep_second, alt, mapped, nothing, fail, loop}
use Rattle.ir_terminals.specs.Role.{class, terminal}
use Rattle.ir_terminals.specs.Tokens.{word}
use Rattle.ir_terminals.specs.declared.terminal.Terminal.TheVariants as terminals
use Rattle.ir_terminals.specs.declared.limits.Limits.{Limits}
use Rattle.ir_phrases.specs.Constants.Tree.{TypeTree, ValueTree, TypedValueTree}
use Rattle.ir_phrases.specs.Constants.Types.{type_shape, type_row, list_shape}
use Rattle.ir_phrases.specs.Instructions.Tree.{SignatureTree, Call}
use Rattle.ir_phrases.specs.Instructions.Dropped.{comma_shape, commas_shape}
use Rattle.ir_phrases.specs.Instructions.Calls.{signature_step, some_types_row, signature_types_row, signature_core, signature_row, signature_shape, argument_core, argument_row, argument_list_core, argument_list_row, arguments_core, arguments_row, arguments_shape, result_type_core, result_type_row, result_type_shape, call_end_core, call_end_row, call_end_shape, called_core, called_row, called_shape, call_of, call_core}
use Rattle.type_table.specs.Tree.{Tree, ptr}
use Rattle.module_arena.specs.Module.{Value, Operand, Signature}
use Rattle.canonical.specs.Phrase.{Phrase, none, mark, comma, ◌␣◌, ◌⌢◌, listed, more, in_parentheses}
use Rattle.canonical.specs.Types.{type_phrase}
use Rattle.canonical.specs.Constants.{value_phrase, operand}
use Rattle.canonical.specs.Operations.{dotted, signature_phrase}
use Rattle.canonical.specs.Items.Unplaced.{nowhere, unplaced_type, unplaced_value, unplaced_operand, unplaced_signature, unplaced_operation}
use Rattle.canonical.specs.Items.Parts.{type_tree, value_tree, operand_tree, signature_tree, call_tree}
use Rattle.canonical.proofs.OnLaw.Printed.{IsPrinted, Starts, no_place}
use Rattle.canonical.specs.Law.Written.{IsTypeText, AreTypeListTexts, IsValueText, IsOperandText, AreOperandTexts}
use Rattle.canonical.proofs.OnLaw.Joined.{spaced, tight, left_none, right_none}
use Rattle.canonical.proofs.OnLaw.Rows.{printed_as, printed_labelled, printed_mapped, printed_chain, printed_pair, printed_second, printed_before, printed_left, printed_right, printed_some, printed_none, printed_nothing}
use Rattle.canonical.proofs.OnLaw.Lists.{EachPrinted, printed_separated, joins_more}
use Rattle.canonical.proofs.OnLaw.Loops.{nothing_of, loop_none, loop_more, printed_growing, printed_grown, printed_otherwise, printed_part, no_attachments, no_parameter_attributes, no_function_attributes, no_convention}
use Rattle.canonical.proofs.OnLaw.Words.{printed_word, printed_comma, printed_open_parenthesis, printed_close_parenthesis}
use Rattle.canonical.proofs.OnLaw.Types.{printed_type, opened_parenthesis}
use Rattle.canonical.proofs.OnLaw.Constants.{starts_close_parenthesis}
use Rattle.canonical.proofs.OnLaw.Values.{printed_value}

pub dots_token : IsToken kind.Punctuation (codes "...")
unfolding byte_class
dots_token = record { row = table.Dots; kind_is = refl; spelled = (refl, (refl, (refl, refl))) }

pub printed_dots : IsPrinted (word terminals.Dots) no_place nowhere (mark (codes "..."))
unfolding terminal
printed_dots = printed_word terminals.Dots kind.Punctuation (codes "...") dots_token refl

pub starts_parentheses : (p : Phrase) → Starts (in_parentheses p)
unfolding byte_class
starts_parentheses p = record { starts = λ b rest. refl }

pub printed_type_list : (limits : Limits) (ts : List Tree) → AreTypeListTexts limits.nesting ts → EachPrinted (type_row limits) unplaced_type (map type_tree ts) (map type_phrase ts)
printed_type_list limits [] h = tt
printed_type_list limits (t ∷ ts) h = (printed_type limits t limits.nesting h.0, printed_type_list limits ts h.1)

dots_step : (limits : Limits) (s : SignatureTree) → s.1 ≡ false → IsPrinted (signature_step limits s) unplaced_signature (map unplaced_type s.0, true) (comma ␣ mark (codes "..."))
dots_step limits s f =
    printed_otherwise s.1 (fail comma_shape) f
    (printed_second spaced printed_comma (printed_left (mapped (λ t. (s.0 ++ t ∷ [], false)) (type_row limits)) (printed_mapped (λ p. (s.0, true)) unplaced_signature (λ p. (map unplaced_type s.0, true)) (λ a. refl) printed_dots)))

dots_end : (limits : Limits) (s : SignatureTree) → s.1 ≡ false → IsPrinted (loop class comma_shape (signature_step limits) s) unplaced_signature (map unplaced_type s.0, true) (more (mark (codes "...") ∷ []))
dots_end limits s f =
    loop_more comma_shape (signature_step limits) (joins_more (comma ␣ mark (codes "...")) []) (dots_step limits s f)
    (λ m is. printed_as is (loop_none comma_shape (signature_step limits) m unplaced_signature))

grows : (limits : Limits) (s : SignatureTree) (x : TypeTree) (p : Phrase) → s.1 ≡ false → IsPrinted (type_row limits) unplaced_type x p → IsPrinted {X = SignatureTree} (signature_step limits s) unplaced_signature (map unplaced_type s.0 ++ x ∷ [], false) (comma ␣ p)
grows limits s x p f h = printed_otherwise s.1 (fail comma_shape) f (printed_second spaced printed_comma (printed_right (mapped (λ p. (s.0, true)) (word terminals.Dots)) (printed_part s unplaced_type x p h)))

-- types, and `...` behind them
printed_dotted_types : (limits : Limits) (xs : List TypeTree) (ps : List Phrase) → EachPrinted (type_row limits) unplaced_type xs ps → IsPrinted (signature_types_row limits) unplaced_signature (xs, true) (listed (dotted ps true))
printed_dotted_types limits [] [] h =
    printed_left (alt class (some_types_row limits) (nothing ([], false))) (printed_mapped (λ p. ([], true)) unplaced_signature (λ p. ([], true)) (λ a. refl) printed_dots)
printed_dotted_types limits (x ∷ xs) (p ∷ ps) h =
    printed_right (mapped (λ p. ([], true)) (word terminals.Dots)) (printed_left (nothing ([], false))
    (printed_chain commas_shape (joins_more p (ps ++ mark (codes "...") ∷ [])) h.0
    (λ t is. printed_as (ap (λ y. (y ∷ xs, true)) is)
    (printed_growing comma_shape (signature_step limits) (type_row limits) unplaced_type (grows limits) xs ps (mark (codes "...") ∷ []) true h.1 (λ m f. dots_end limits m f) (t ∷ [], false) refl))))
printed_dotted_types limits [] (p ∷ ps) h = absurd h
printed_dotted_types limits (x ∷ xs) [] h = absurd h

-- types with no `...`
printed_plain_types : (limits : Limits) (xs : List TypeTree) (ps : List Phrase) → EachPrinted (type_row limits) unplaced_type xs ps → IsPrinted {X = SignatureTree} (signature_types_row limits) unplaced_signature (xs, false) (listed ps)
printed_plain_types limits [] [] h =
    printed_right (mapped (λ p. ([], true)) (word terminals.Dots)) (printed_right (some_types_row limits) (printed_nothing unplaced_signature ([], false)))
printed_plain_types limits (x ∷ xs) (p ∷ ps) h =
    printed_right (mapped (λ p. ([], true)) (word terminals.Dots)) (printed_left (nothing ([], false))
    (printed_chain commas_shape (joins_more p ps) h.0
    (λ t is. printed_as (ap (λ y. (y ∷ xs, false)) is)
    (printed_grown comma_shape (signature_step limits) (type_row limits) unplaced_type (grows limits) xs ps h.1 (t ∷ [], false) refl))))
printed_plain_types limits [] (p ∷ ps) h = absurd h
printed_plain_types limits (x ∷ xs) [] h = absurd h

printed_signature_types : (limits : Limits) (xs : List TypeTree) (ps : List Phrase) (variadic : Bool) → EachPrinted (type_row limits) unplaced_type xs ps → IsPrinted {X = SignatureTree} (signature_types_row limits) unplaced_signature (xs, variadic) (listed (dotted ps variadic))
printed_signature_types limits xs ps true h = printed_dotted_types limits xs ps h
printed_signature_types limits xs ps false h = printed_plain_types limits xs ps h

-- no parameters in parentheses
pub printed_no_parameters : (limits : Limits) → IsPrinted (signature_row limits) (option_map unplaced_signature) None none
unfolding signature_core
printed_no_parameters limits = printed_labelled signature_shape (printed_none (keep_second (word terminals.OpenParenthesis) (keep_first (signature_types_row limits) (word terminals.CloseParenthesis))) unplaced_signature)

-- parameters in parentheses
pub printed_parameters : (limits : Limits) (ts : List Tree) (variadic : Bool) → AreTypeListTexts limits.nesting ts → IsPrinted {X = Option SignatureTree} (signature_row limits) (option_map unplaced_signature) (Some (map type_tree ts, variadic)) (in_parentheses (listed (dotted (map type_phrase ts) variadic)))
unfolding signature_core
printed_parameters limits ts variadic h =
    printed_labelled signature_shape (printed_some
    (printed_second opened_parenthesis printed_open_parenthesis
    (printed_before (tight starts_close_parenthesis) (printed_signature_types limits (map type_tree ts) (map type_phrase ts) variadic (printed_type_list limits ts h)) printed_close_parenthesis)))

printed_signature : (limits : Limits) (s : Signature) (variadic : Bool) → AreTypeListTexts limits.nesting s.parameters → IsPrinted (signature_row limits) (option_map unplaced_signature) (signature_tree s.parameters variadic) (signature_phrase s variadic)
printed_signature limits s false h = printed_no_parameters limits
printed_signature limits s true h = printed_parameters limits s.parameters true h

printed_argument : (limits : Limits) (o : Operand) → IsOperandText limits.nesting o → IsPrinted (argument_row limits) unplaced_operand (operand_tree o) (operand o)
unfolding argument_core
printed_argument limits o h =
    printed_labelled type_shape (printed_pair spaced (printed_type limits o.ty limits.nesting h.0) (printed_second left_none no_parameter_attributes (printed_value limits o.ty o.value h.1)))

argument_texts : (limits : Limits) (os : List Operand) → AreOperandTexts limits.nesting os → EachPrinted (argument_row limits) unplaced_operand (map operand_tree os) (map operand os)
argument_texts limits [] h = tt
argument_texts limits (o ∷ os) h = (printed_argument limits o h.0, argument_texts limits os h.1)

printed_argument_list : (limits : Limits) (os : List Operand) → AreOperandTexts limits.nesting os → IsPrinted (argument_list_row limits) (map unplaced_operand) (map operand_tree os) (listed (map operand os))
unfolding argument_list_core
printed_argument_list limits os h = printed_labelled list_shape (printed_separated (argument_row limits) unplaced_operand (map operand_tree os) (map operand os) (argument_texts limits os h))

printed_arguments : (limits : Limits) (os : List Operand) → AreOperandTexts limits.nesting os → IsPrinted (arguments_row limits) (map unplaced_operand) (map operand_tree os) (in_parentheses (listed (map operand os)))
unfolding arguments_core
printed_arguments limits os h =
    printed_labelled arguments_shape (printed_second opened_parenthesis printed_open_parenthesis (printed_before (tight starts_close_parenthesis) (printed_argument_list limits os h) printed_close_parenthesis))

printed_result_type : (limits : Limits) (t : Tree) → IsTypeText t limits.nesting → IsPrinted (result_type_row limits) unplaced_type (type_tree t) (type_phrase t)
unfolding result_type_core
printed_result_type limits t h = printed_labelled result_type_shape (printed_second left_none no_convention (printed_second left_none no_parameter_attributes (printed_type limits t limits.nesting h)))

no_call_end : IsPrinted call_end_row nothing_of tt none
unfolding call_end_core
no_call_end = printed_labelled call_end_shape (printed_second left_none no_function_attributes no_attachments)

printed_called : (limits : Limits) (v : Value) (os : List Operand) → IsValueText limits.nesting ptr v → AreOperandTexts limits.nesting os → IsPrinted {X = ValueTree × List TypedValueTree} (called_row limits) (λ w. (unplaced_value w.0, map unplaced_operand w.1)) (value_tree ptr v, map operand_tree os) (value_phrase ptr v ⌢ in_parentheses (listed (map operand os)))
unfolding called_core
printed_called limits v os h k =
    printed_labelled called_shape (printed_pair (tight (starts_parentheses (listed (map operand os)))) (printed_value limits ptr v h) (printed_before right_none (printed_arguments limits os k) no_call_end))

-- a call, behind its opcode
pub printed_call : (limits : Limits) (s : Signature) (v : Value) (os : List Operand) → IsTypeText s.returns limits.nesting → AreTypeListTexts limits.nesting s.parameters → IsValueText limits.nesting ptr v → AreOperandTexts limits.nesting os → IsPrinted (call_core limits) unplaced_operation (Call (call_tree s v os)) (type_phrase s.returns ␣ signature_phrase s s.variadic ␣ value_phrase ptr v ⌢ in_parentheses (listed (map operand os)))
unfolding call_core
printed_call limits s v os t ts h k =
    printed_mapped call_of unplaced_operation call_of (λ w. refl)
    (printed_pair spaced (printed_result_type limits s.returns t) (printed_pair spaced (printed_signature limits s s.variadic ts) (printed_called limits v os h k)))
