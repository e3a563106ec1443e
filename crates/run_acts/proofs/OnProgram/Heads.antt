-- What is told of a function as a callee.
use Rattle.std.proofs.Common.{◌≡◌, ℕ, true, List, [], ◌∷◌, map, Some, refl, ap, ◌∙◌}
use Rattle.std.specs.Prelude.{slice_get}
use Rattle.std.specs.Option.{option_map_or}
use Rattle.module_arena.specs.declared.entry.Function as the_function
use Rattle.module_arena.specs.declared.entry.Parameter as the_parameter
use Rattle.module_arena.specs.Lists.{Lists}
use Rattle.module_arena.specs.Valid.{IsValid}
use Rattle.module_arena.specs.Module.{Parameter}
use Rattle.module_arena.specs.View.{module_of, parameter_view}
use Rattle.module_arena.specs.WellFormed.{IsWellFormed}
use Rattle.type_table.specs.Types.{trees}
use Rattle.run_initial.proofs.OnConstants.LeafKinds.{shape_is}
use Rattle.run_initial.specs.Constants.Sound.{names_of}
use Rattle.run_names.specs.declared.callee.CalleeRef.TheVariants as callees
use Rattle.run_names.specs.Standings.{has_code}
use Rattle.run_names.specs.Told.{alone, callee_seen}
use Rattle.run_names.proofs.Arena.{function_at_is, function_seen}
use Rattle.run_rules.specs.Calls as calls
use Rattle.run_rules.specs.Constant.{shape_of}
use Rattle.run_rules.specs.Look.{code_of}
use Rattle.run_rules.specs.Scope.{leaf_count}
use Rattle.run_names.specs.Shapes.Shapes.{shape_in}
use Rattle.run_decode.specs.Signatures.Met.{written_as}

module _ (a : Lists) where
  -- the shapes of parameters
  shapes_are : (ps : List the_parameter.Parameter) → map (shape_of (names_of a)) (map (λ (p : Parameter). p.ty) (map (parameter_view (trees a.table)) ps)) ≡ map (shape_in a.table) (map (λ (p : the_parameter.Parameter). p.ty) ps)
  shapes_are [] = refl
  shapes_are (p ∷ ps) = λ i. shape_is a p.ty i ∷ shapes_are ps i

  module _ (well_formed : IsWellFormed (module_of a)) (valid : IsValid (module_of a)) (n : ℕ) (f : the_function.Function) (at : slice_get a.functions n ≡ Some f) (code : has_code f ≡ true) where
    -- it has the function type that is written, and so many leaves
    pub head_is : callee_seen (alone (module_of a)) (callees.Code n)
        ≡ calls.Code n (written_as a f.result (map (λ (p : the_parameter.Parameter). p.ty) f.parameters) f.variadic) (leaf_count (names_of a) (function_seen a f))
    head_is =
        ap (λ o. option_map_or (code_of (alone (module_of a)) n) o calls.Nothing) (function_at_is a well_formed valid n f at code)
        ∙ (λ i. calls.Code n (record { returns = shape_is a f.result i; parameters = shapes_are f.parameters i; variadic = f.variadic }) (leaf_count (names_of a) (function_seen a f)))
