-- What the parameters of a text ask for stands at their tokens, in order.
use Rattle.std.proofs.Common.{◌≡◌, List, [], ◌∷◌, ◌++◌, Bool, true, false, refl, sym, ap, ◌∙◌, subst, flat_map, append_assoc}
use Rattle.std.proofs.lemmas.List.{append-nil}
use Rattle.ir_lexer.specs.Ahead.{Located}
use Rattle.ir_terminals.specs.PhraseRows.Row.{keep_second, optional}
use Rattle.ir_terminals.specs.declared.limits.Limits.{Limits}
use Rattle.ir_terminals.specs.declared.terminal.Terminal.TheVariants as terminal
use Rattle.ir_terminals.specs.Role.{class}
use Rattle.ir_terminals.specs.Tokens.{word, local_row}
use Rattle.ir_phrases.specs.Instructions.Dropped.{comma_shape, parameter_attributes_row}
use Rattle.ir_syntax.specs.Tree.{ParameterTree}
use Rattle.ir_syntax.specs.Functions.{parameter_shape, parameter_core, parameter_row, dots_row, ParametersTree, parameter_step, more_parameters_shape, some_parameters_row, parameter_list_row, parameters_shape, parameters_core, parameters_row, parameter_types}
use Rattle.name_rules.specs.Demand.{Demand}
use Rattle.name_rules.specs.FunctionDemands.{called_with, call_demands, parameters_demands}
use Rattle.name_rules.specs.TypeDemands.{Known, type_demands}
use Rattle.name_rules.specs.Places.Places.{InOrder}
use Rattle.name_rules.proofs.OnPlaces.Draws.{Draws, Drawn, Spans, draws_any, draws_nothing, draws_mapped, draws_so, draws_second, draws_before, draws_pair, draws_left, draws_alt, draws_optional, all_asked, draws_labelled, spans_draws, draws_spans, spans_labelled, spans_chain, spans_loop, spans_any, spans_mapped, spans_second, spans_alt, Adds, adds_further, adds_none, adds_one, spans_added}
use Rattle.name_rules.proofs.OnPlaces.Types.{draws_type}
use Rattle.name_rules.proofs.OnPlaces.Blocks.{Behind, written_asked, written_there, draws_result}

-- a parameter of a definition
abbrev pub parameter_asked : Behind → ParameterTree → List Demand
parameter_asked x p = type_demands x.0.0 p.0 ++ call_demands x.1 p.1

abbrev pub parameters_asked : Behind → List ParameterTree → List Demand
parameters_asked x all = parameters_demands x.0.0 x.0.1 x.1 all

-- a parameter of a declaration
abbrev pub typed_asked : Known → ParameterTree → List Demand
typed_asked known p = type_demands known p.0

pub types_flat : (known : Known) (all : List ParameterTree) → flat_map (type_demands known) (parameter_types all) ≡ flat_map (typed_asked known) all
types_flat known [] = refl
types_flat known (p ∷ all) = ap (λ more. type_demands known p.0 ++ more) (types_flat known all)

-- in the state behind these
abbrev behind_all : Behind → List ParameterTree → Behind
behind_all x [] = x
behind_all x (p ∷ all) = behind_all (x.0, called_with x.1 (false, p.1)) all

parameters_more : (x : Behind) (parts : List ParameterTree) (p : ParameterTree) → parameters_asked x (parts ++ p ∷ []) ≡ parameters_asked x parts ++ parameter_asked (behind_all x parts) p
parameters_more x [] p = ap (λ all. type_demands x.0.0 p.0 ++ all) (append-nil (call_demands x.1 p.1))
parameters_more x (q ∷ parts) p =
    let y : Behind = (x.0, called_with x.1 (false, q.1)) in
    let one = parameter_asked (behind_all y parts) p in
    ap (λ all. type_demands x.0.0 q.0 ++ (call_demands x.1 q.1 ++ all)) (parameters_more y parts p)
    ∙ ap (λ all. type_demands x.0.0 q.0 ++ all) (sym (append_assoc (call_demands x.1 q.1) (parameters_asked y parts) one))
    ∙ sym (append_assoc (type_demands x.0.0 q.0) (call_demands x.1 q.1 ++ parameters_asked y parts) one)

adds_parameter : (parts : List ParameterTree) (us : List Located) (p : ParameterTree) → Drawn parameter_asked us p → Adds parameters_asked parts us (parts ++ p ∷ [])
adds_parameter parts us p d x = (parameter_asked (behind_all x parts) p, parameters_more x parts p, d (behind_all x parts))

draws_parameter_core : (limits : Limits) → Draws (parameter_core limits) parameter_asked
unfolding parameter_core
draws_parameter_core limits =
    draws_so parameter_asked
    (draws_pair (draws_type limits) (draws_second parameter_attributes_row (draws_so written_asked (draws_optional class draws_result) written_there)))
    (λ us v d x. d (x.0.0, x.1))

draws_typed_core : (limits : Limits) → Draws (parameter_core limits) typed_asked
unfolding parameter_core
draws_typed_core limits = draws_left (keep_second parameter_attributes_row (optional class local_row)) (draws_type limits)

-- lists of parameters, of which each asks for one thing, and the list for another
module _ {X Y : Type 0} (dots : Bool) (limits : Limits) (f : X → ParameterTree → List Demand) (h : Draws (parameter_core limits) f) (g : Y → List ParameterTree → List Demand) (none : (y : Y) → g y [] ≡ [])
    (one : (parts : List ParameterTree) (us : List Located) (p : ParameterTree) → Drawn f us p → Adds g parts us (parts ++ p ∷ [])) where
  abbrev Kept : List Located → ParametersTree → Type 0
  Kept us s = Drawn g us s.0

  abbrev Longer : List ParameterTree → List Located → ParametersTree → Type 0
  Longer parts us s = Adds g parts us s.0

  further : (parts : List ParameterTree) (us vs : List Located) (s : ParametersTree) → Longer parts vs s → Longer parts (us ++ vs) s
  further parts us vs s x = adds_further g parts s.0 us vs x

  draws_parameter : Draws (parameter_row limits) f
  draws_parameter = draws_labelled parameter_shape h

  step_adds : (parts : List ParameterTree) → Spans (parameter_step dots limits (parts, false)) (Longer parts)
  step_adds parts =
      spans_second (word terminal.Comma) (Longer parts) (further parts)
      (spans_alt class
      (spans_mapped _ (Longer parts) (spans_any (dots_row dots)) (λ us b x. adds_none g parts us))
      (spans_mapped _ (Longer parts) (spans_draws f draws_parameter) (λ us p d. one parts us p d)))

  step_kept : (us : List Located) (s : ParametersTree) → Kept us s → Spans (parameter_step dots limits s) (λ vs m. Kept (us ++ vs) m)
  step_kept us (parts, true) d = record { value = λ vs m w. absurd w }
  step_kept us (parts, false) d = spans_added (λ s. s.0) g parts us d (step_adds parts)

  first_kept : (us : List Located) (p : ParameterTree) → Drawn f us p → Kept us (p ∷ [], false)
  first_kept us p d y =
      let more = one [] us p d y in
      subst (InOrder us) (sym (more.1 ∙ ap (λ all. all ++ more.0) (none y))) more.2

  draws_some : Spans (some_parameters_row dots limits) Kept
  draws_some =
      spans_chain more_parameters_shape Kept (spans_draws f draws_parameter)
      (λ us p d. spans_labelled more_parameters_shape
      (spans_loop class (record { first = comma_shape.first; more = parameter_shape.more; empty = false }) Kept step_kept us (p ∷ [], false) (first_kept us p d)))

  abbrev list_asked : Y → ParametersTree → List Demand
  list_asked y s = g y s.0

  draws_list : Draws (parameter_list_row dots limits) list_asked
  draws_list =
      draws_alt class (draws_mapped _ list_asked (draws_any (Unit {0}) (dots_row dots)) (λ us b d y. subst (InOrder us) (sym (none y)) tt))
      (draws_alt class (draws_spans list_asked draws_some) (draws_nothing ([], false) list_asked none))

  draws_parameters_core : Draws (parameters_core dots limits) list_asked
  unfolding parameters_core
  draws_parameters_core = draws_second (word terminal.OpenParenthesis) (draws_before (word terminal.CloseParenthesis) draws_list)

  draws_parameters : Draws (parameters_row dots limits) list_asked
  draws_parameters = draws_labelled parameters_shape draws_parameters_core

-- the parameters of a definition
pub draws_defined : (dots : Bool) (limits : Limits) → Draws (parameters_row dots limits) (λ x s. parameters_asked x s.0)
draws_defined dots limits = draws_parameters dots limits parameter_asked (draws_parameter_core limits) parameters_asked (λ x. refl) adds_parameter

-- the parameters of a declaration
pub draws_declared : (dots : Bool) (limits : Limits) → Draws (parameters_row dots limits) (λ known s. flat_map (typed_asked known) s.0)
draws_declared dots limits = draws_parameters dots limits typed_asked (draws_typed_core limits) (all_asked typed_asked) (λ x. refl) (adds_one typed_asked)
