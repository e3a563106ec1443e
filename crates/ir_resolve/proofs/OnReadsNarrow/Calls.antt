-- The integer types in the calls of a text have 1 to 128 bits.
use Rattle.std.proofs.Common.{List, [], ◌∷◌, Bool, true, false, Option, Some, None}
use Rattle.ir_terminals.specs.declared.limits.Limits.{Limits}
use Rattle.ir_terminals.specs.declared.terminal.Terminal.TheVariants as terminal
use Rattle.ir_terminals.specs.Role.{class}
use Rattle.ir_terminals.specs.Tokens.{word}
use Rattle.ir_phrases.specs.Constants.Tree.{TypeTree}
use Rattle.ir_phrases.specs.Constants.Types.{type_shape, list_shape}
use Rattle.ir_phrases.specs.Constants.Forms.{AllAre}
use Rattle.ir_phrases.proofs.OnConstants.Gives.{Gives, IfThere, gives_any, gives_weaker, gives_fail, gives_nothing, gives_mapped, gives_chain, gives_second, gives_before, gives_pair, gives_alt, gives_optional, gives_separated, gives_loop, gives_labelled, all_more}
use Rattle.ir_phrases.specs.Instructions.Tree.{SignatureTree}
use Rattle.ir_phrases.specs.Instructions.Dropped.{comma_shape, commas_shape, parameter_attributes_row, convention_row}
use Rattle.ir_phrases.specs.Instructions.Calls.{signature_step, some_types_row, signature_types_row, signature_shape, signature_core, signature_row, argument_core, argument_list_core, arguments_shape, arguments_core, result_type_shape, result_type_core, call_end_row, called_shape, called_core, call_core}
use Rattle.item_build.specs.Buildable.Narrow.{IsNarrow, IsNarrowValue, IsNarrowOperand, IsNarrowSignature, IsNarrowOperation}
use Rattle.ir_resolve.proofs.OnReadsNarrow.Lists.{all_of}
use Rattle.ir_resolve.proofs.OnReadsNarrow.Types.{gives_type}
use Rattle.ir_resolve.proofs.OnReadsNarrow.Constants.{gives_value}

module _ (limits : Limits) where
  signature_by : (parts : List TypeTree) (closed : Bool) → AllAre IsNarrow parts → Gives (signature_step limits (parts, closed)) (λ s. AllAre IsNarrow s.0)
  signature_by parts true x = gives_fail comma_shape (λ s. AllAre IsNarrow s.0)
  signature_by parts false x =
      gives_second (word terminal.Comma)
      (gives_alt class
      (gives_mapped _ (λ s. AllAre IsNarrow s.0) (gives_any (word terminal.Dots)) (λ u y. x))
      (gives_mapped _ (λ s. AllAre IsNarrow s.0) (gives_type limits) (λ t y. all_more IsNarrow parts t x y)))

  signature_given : (s : SignatureTree) → AllAre IsNarrow s.0 → Gives (signature_step limits s) (λ m. AllAre IsNarrow m.0)
  signature_given (parts, closed) x = signature_by parts closed x

  gives_some_types : Gives (some_types_row limits) (λ s. AllAre IsNarrow s.0)
  gives_some_types =
      gives_chain commas_shape (λ s. AllAre IsNarrow s.0) (gives_type limits)
      (λ t x. gives_loop class comma_shape (λ s. AllAre IsNarrow s.0) signature_given (t ∷ [], false) (x, tt))

  gives_signature_types : Gives (signature_types_row limits) (λ s. AllAre IsNarrow s.0)
  gives_signature_types =
      gives_alt class (gives_mapped _ (λ s. AllAre IsNarrow s.0) (gives_any (word terminal.Dots)) (λ p x. tt))
      (gives_alt class gives_some_types (gives_nothing ([], false) (λ s. AllAre IsNarrow s.0) tt))

  gives_signature_core : Gives (signature_core limits) IsNarrowSignature
  unfolding signature_core
  gives_signature_core =
      gives_weaker IsNarrowSignature
      (gives_optional class (gives_second (word terminal.OpenParenthesis) (gives_before (word terminal.CloseParenthesis) gives_signature_types))) there
    where
      there : (o : Option SignatureTree) → IfThere (λ s. AllAre IsNarrow s.0) o → IsNarrowSignature o
      there (Some s) x = all_of IsNarrow s.0 x
      there None x = tt

  -- the parameters that a call or an alias writes
  pub gives_signature : Gives (signature_row limits) IsNarrowSignature
  gives_signature = gives_labelled signature_shape gives_signature_core

  gives_argument_core : Gives (argument_core limits) IsNarrowOperand
  unfolding argument_core
  gives_argument_core = gives_pair (gives_type limits) (gives_second parameter_attributes_row (gives_value limits))

  gives_argument_list_core : Gives (argument_list_core limits) (AllAre IsNarrowOperand)
  unfolding argument_list_core
  gives_argument_list_core = gives_separated class (word terminal.Comma) (gives_labelled type_shape gives_argument_core)

  gives_arguments_core : Gives (arguments_core limits) (AllAre IsNarrowOperand)
  unfolding arguments_core
  gives_arguments_core =
      gives_second (word terminal.OpenParenthesis) (gives_before (word terminal.CloseParenthesis) (gives_labelled list_shape gives_argument_list_core))

  gives_called_core : Gives (called_core limits) (λ v. IsNarrowValue v.0 × AllAre IsNarrowOperand v.1)
  unfolding called_core
  gives_called_core = gives_pair (gives_value limits) (gives_before call_end_row (gives_labelled arguments_shape gives_arguments_core))

  gives_result_type_core : Gives (result_type_core limits) IsNarrow
  unfolding result_type_core
  gives_result_type_core = gives_second convention_row (gives_second parameter_attributes_row (gives_type limits))

  -- a call
  pub gives_call_core : Gives (call_core limits) IsNarrowOperation
  unfolding call_core
  gives_call_core =
      gives_mapped _ IsNarrowOperation
      (gives_pair (gives_labelled result_type_shape gives_result_type_core) (gives_pair gives_signature (gives_labelled called_shape gives_called_core)))
      (λ v x. (x.0, x.1.0, x.1.1.0, all_of IsNarrowOperand v.1.1.1 x.1.1.1))
