-- Each function of a checked module: its parameters and results are values, and its phis are its own.
use Rattle.std.proofs.Common.{◌≡◌, ℕ, ◌<◌, List, [], ◌∷◌, length, map, true, ◌&&◌, not, ◌||◌, All, inr, is_none, Some}
use Rattle.std.specs.Prelude.{slice_get}
use Rattle.std.specs.List.{AllByRecursion, list_all}
use Rattle.std.proofs.lemmas.Bool.{and_parts}
use Rattle.std.proofs.lemmas.List.Elements.{All-from_recursion, recursion_from_All}
use Rattle.type_table.specs.Tree.{Structs}
use Rattle.type_table.specs.Types.{structs, tree, trees}
use Rattle.module_arena.specs.declared.entry.Block.{Block}
use Rattle.module_arena.specs.declared.entry.Function as the_function
use Rattle.module_arena.specs.declared.entry.Parameter as the_parameter
use Rattle.module_arena.specs.EntryRules.{function_types_suit, return_suits}
use Rattle.module_arena.specs.Known.{IsGood}
use Rattle.module_arena.specs.Lists.{Lists, function_blocks}
use Rattle.module_arena.specs.Module.{Function, Parameter}
use Rattle.module_arena.specs.TypeTests.{is_passable}
use Rattle.module_arena.specs.Valid.{IsValid}
use Rattle.module_arena.specs.View.{module_of, parameter_view}
use Rattle.module_arena.specs.WellFormed.{IsWellFormed}
use Rattle.run_names.proofs.Arena.{structs_are}
use Rattle.std.proofs.Common.{subst}
use Rattle.run_decode.specs.Scopes.Places.{GivesValue, HasValues, Returns}
use Rattle.run_decode.specs.Scopes.Scopes.{function_of}
use Rattle.run_decode.specs.Scopes.Ways.{AllPhisSuit, PhiSuits}
use Rattle.run_decode.specs.Suits.Laws.{FunctionsHaveValues}
use Rattle.run_decode.proofs.OnSuits.Checked.{demanded, function_known, instruction_checked}
use Rattle.run_decode.proofs.OnSuits.TypedOperands.{framed}
use Rattle.run_decode.proofs.OnSuits.Listed.{all_of}
use Rattle.run_decode.proofs.OnSuits.Values.{gives_value, phi_suits}

module _ (a : Lists) where
  -- parameters
  passed : (ps : List the_parameter.Parameter) → AllByRecursion (λ (p : the_parameter.Parameter). p.ty < length a.table.types) ps
      → list_all (λ (p : Parameter). is_passable (structs a.table) p.ty) (map (parameter_view (trees a.table)) ps) ≡ true → AllByRecursion (λ (p : the_parameter.Parameter). Returns a p.ty) ps
  passed [] h k = tt
  passed (p ∷ ps) h k =
      let both = and_parts (is_passable (structs a.table) (tree a.table p.ty)) (list_all (λ (p : Parameter). is_passable (structs a.table) p.ty) (map (parameter_view (trees a.table)) ps)) k in
      (record { known = h.0; returned = inr both.0 }, passed ps h.1 both.1)

  module _ (good : IsGood a) (well_formed : IsWellFormed (module_of a)) (valid : IsValid (module_of a)) (id : ℕ) (f : the_function.Function) (at : slice_get a.functions id ≡ Some f) where
    abbrev meant : Function
    meant = function_of a f

    types_suit : function_types_suit (structs a.table) meant ≡ true
    types_suit = subst (λ (ss : Structs). function_types_suit ss meant ≡ true) (structs_are a) (demanded a good well_formed valid id f at []).1.1.1.1.0

    parameters_are_values : All (λ (p : the_parameter.Parameter). Returns a p.ty) f.parameters
    parameters_are_values =
        let suit = and_parts (list_all (λ (p : Parameter). is_passable (structs a.table) p.ty) meant.parameters) (return_suits (structs a.table) meant.returns && (not meant.variadic || is_none meant.body)) types_suit in
        let types = (function_known a good well_formed valid id f at []).parameters_known in
        All-from_recursion (λ (p : the_parameter.Parameter). Returns a p.ty) f.parameters
        (passed f.parameters (recursion_from_All (λ (p : the_parameter.Parameter). p.ty < length a.table.types) f.parameters types) suit.0)

    results_are_values : All (λ (b : Block). All (GivesValue a) b.instructions) (function_blocks f)
    results_are_values =
        all_of (λ (b : Block). All (GivesValue a) b.instructions) (function_blocks f)
        (λ k b here. all_of (GivesValue a) b.instructions (λ j i there. gives_value a f [] i (instruction_checked a good well_formed valid id f at [] k b here j i there)))

    pub values_are : HasValues a f
    values_are = record { parameters = parameters_are_values; results = results_are_values }

    pub phis_are : (places : List ℕ) → AllPhisSuit (framed a f places)
    phis_are places =
        all_of (λ (b : Block). All (PhiSuits (framed a f places)) b.instructions) (function_blocks f)
        (λ k b here. all_of (PhiSuits (framed a f places)) b.instructions (λ j i there. phi_suits a f places i (instruction_checked a good well_formed valid id f at places k b here j i there)))

pub functions_have_values : FunctionsHaveValues
functions_have_values a good well_formed valid id f at places = values_are a good well_formed valid id f at
