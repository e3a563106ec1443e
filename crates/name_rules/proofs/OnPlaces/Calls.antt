-- What the calls of a text ask for stands at their tokens, in order.
use Rattle.std.proofs.Common.{List, [], ◌∷◌, ◌++◌, true, false, Option, Some, None, refl, flat_map}
use Rattle.ir_lexer.specs.Ahead.{Located}
use Rattle.ir_terminals.specs.declared.limits.Limits.{Limits}
use Rattle.ir_terminals.specs.declared.terminal.Terminal.TheVariants as terminal
use Rattle.ir_terminals.specs.Role.{class}
use Rattle.ir_terminals.specs.Tokens.{word}
use Rattle.ir_phrases.specs.Constants.Tree.{TypeTree}
use Rattle.ir_phrases.specs.Constants.Types.{type_shape, list_shape}
use Rattle.ir_phrases.specs.Instructions.Tree.{SignatureTree, OperationTree}
use Rattle.ir_phrases.specs.Instructions.Dropped.{comma_shape, commas_shape, parameter_attributes_row, convention_row}
use Rattle.ir_phrases.specs.Instructions.Calls.{signature_step, some_types_row, signature_types_row, signature_shape, signature_core, signature_row, argument_core, argument_list_core, arguments_shape, arguments_core, result_type_shape, result_type_core, call_end_row, called_shape, called_core, call_core}
use Rattle.type_table.specs.Tree.{ptr}
use Rattle.name_rules.specs.Demand.{Demand}
use Rattle.name_rules.specs.FunctionDemands.{signature_demands, operation_demands}
use Rattle.name_rules.specs.Locals.{Locals}
use Rattle.name_rules.specs.TypeDemands.{Known, type_demands}
use Rattle.name_rules.specs.Written.{type_in}
use Rattle.name_rules.proofs.OnPlaces.Draws.{Draws, Drawn, Spans, draws_any, draws_nothing, draws_mapped, draws_so, draws_second, draws_before, pair_asked, draws_pair, draws_alt, if_there, draws_optional, all_asked, draws_separated, draws_labelled, spans_draws, draws_spans, spans_chain, spans_loop, spans_any, spans_mapped, spans_second, spans_alt, Adds, adds_further, adds_none, adds_one, spans_added, alone}
use Rattle.name_rules.proofs.OnPlaces.Types.{draws_type}
use Rattle.name_rules.proofs.OnPlaces.Constants.{value_asked, operand_asked, draws_value}

-- the types that a call or an alias writes
abbrev pub written_asked : Known → SignatureTree → List Demand
written_asked known s = flat_map (type_demands known) s.0

abbrev pub signature_asked : Known × Locals → Option SignatureTree → List Demand
signature_asked x s = signature_demands x.0 x.1 s

-- an operation in a function
abbrev pub operation_asked : Known × Locals → OperationTree → List Demand
operation_asked x o = operation_demands x.0 x.1 o

module _ (limits : Limits) where
  abbrev Longer : List TypeTree → List Located → SignatureTree → Type 0
  Longer parts us s = Adds (all_asked type_demands) parts us s.0

  further : (parts : List TypeTree) (us vs : List Located) (s : SignatureTree) → Longer parts vs s → Longer parts (us ++ vs) s
  further parts us vs s x = adds_further (all_asked type_demands) parts s.0 us vs x

  signature_adds : (parts : List TypeTree) → Spans (signature_step limits (parts, false)) (Longer parts)
  signature_adds parts =
      spans_second (word terminal.Comma) (Longer parts) (further parts)
      (spans_alt class
      (spans_mapped _ (Longer parts) (spans_any (word terminal.Dots)) (λ us u x. adds_none (all_asked type_demands) parts us))
      (spans_mapped _ (Longer parts) (spans_draws type_demands (draws_type limits)) (λ us t d. adds_one type_demands parts us t d)))

  abbrev Kept : List Located → SignatureTree → Type 0
  Kept us s = Drawn (all_asked type_demands) us s.0

  signature_kept : (us : List Located) (s : SignatureTree) → Kept us s → Spans (signature_step limits s) (λ vs m. Kept (us ++ vs) m)
  signature_kept us (parts, true) d = record { value = λ vs m w. absurd w }
  signature_kept us (parts, false) d = spans_added (λ s. s.0) (all_asked type_demands) parts us d (signature_adds parts)

  draws_some_types : Draws (some_types_row limits) written_asked
  draws_some_types =
      draws_spans written_asked
      (spans_chain commas_shape Kept (spans_draws type_demands (draws_type limits))
      (λ us t d. spans_loop class comma_shape Kept signature_kept us (t ∷ [], false) (alone type_demands us t d)))

  draws_signature_types : Draws (signature_types_row limits) written_asked
  draws_signature_types =
      draws_alt class (draws_mapped _ written_asked (draws_any (Unit {0}) (word terminal.Dots)) (λ us p d x. tt))
      (draws_alt class draws_some_types (draws_nothing ([], false) written_asked (λ x. refl)))

  draws_signature_core : Draws (signature_core limits) signature_asked
  unfolding signature_core
  draws_signature_core =
      draws_so signature_asked
      (draws_optional class (draws_second (word terminal.OpenParenthesis) (draws_before (word terminal.CloseParenthesis) draws_signature_types))) there
    where
      there : (us : List Located) (o : Option SignatureTree) → Drawn (if_there written_asked) us o → Drawn signature_asked us o
      there us (Some s) d x = d x.0
      there us None d x = tt

  -- the parameters that a call or an alias writes
  pub draws_signature : Draws (signature_row limits) signature_asked
  draws_signature = draws_labelled signature_shape draws_signature_core

  draws_argument_core : Draws (argument_core limits) operand_asked
  unfolding argument_core
  draws_argument_core = draws_so operand_asked (draws_pair (draws_type limits) (draws_second parameter_attributes_row (draws_value limits))) (λ us v d x. d (x.0, (x.0, (x.1, type_in v.0))))

  draws_argument_list_core : Draws (argument_list_core limits) (all_asked operand_asked)
  unfolding argument_list_core
  draws_argument_list_core = draws_separated class (word terminal.Comma) (draws_labelled type_shape draws_argument_core)

  draws_arguments_core : Draws (arguments_core limits) (all_asked operand_asked)
  unfolding arguments_core
  draws_arguments_core =
      draws_second (word terminal.OpenParenthesis) (draws_before (word terminal.CloseParenthesis) (draws_labelled list_shape draws_argument_list_core))

  draws_called_core : Draws (called_core limits) (pair_asked value_asked (all_asked operand_asked))
  unfolding called_core
  draws_called_core = draws_pair (draws_value limits) (draws_before call_end_row (draws_labelled arguments_shape draws_arguments_core))

  draws_result_type_core : Draws (result_type_core limits) type_demands
  unfolding result_type_core
  draws_result_type_core = draws_second convention_row (draws_second parameter_attributes_row (draws_type limits))

  -- a call
  pub draws_call_core : Draws (call_core limits) operation_asked
  unfolding call_core
  draws_call_core =
      draws_mapped _ operation_asked
      (draws_pair (draws_labelled result_type_shape draws_result_type_core) (draws_pair draws_signature (draws_labelled called_shape draws_called_core)))
      (λ us v d x. d (x.0, (x, ((x.0, (x.1, ptr)), x))))
