-- The plan of a valid module.
use Rattle.std.proofs.Common.{◌≡◌, ◌≤◌, ◌^◌, List, [], ◌∷◌, length, map, sym, subst, arith}
use Rattle.std.specs.List.{AllByRecursion}
use Rattle.std.proofs.lemmas.List.Elements.{All-from_recursion}
use Rattle.ir_eval.specs.declared.value.Pointer.{Pointer}
use Rattle.ir_memory.specs.Given.{IsAlignment}
use Rattle.module_arena.specs.Module.{Module}
use Rattle.module_arena.specs.Valid.{IsValid}
use Rattle.module_arena.specs.WellFormed.{IsWellFormed}
use Rattle.linkage_rules.specs.declared.symbol.Symbol.{Symbol}
use Rattle.linkage_rules.specs.Addresses.{Room, rooms}
use Rattle.run_rules.specs.Look.{pointer_to}
use Rattle.run_rules.specs.Plan.{Variable, Contents, variable_of, contents_of}
use Rattle.typed_runs.specs.States.{AreStored}
use Rattle.typed_runs.specs.Look.Typings.{typing_of}
use Rattle.typed_runs.proofs.OnLook.Widths.{mapped_length}
use Rattle.typed_runs.specs.Plan.Laws.{PlansAreTyped}
use Rattle.typed_runs.proofs.OnPlan.Aligned.{rooms_aligned}
use Rattle.typed_runs.proofs.OnPlan.Counted.{few_rooms}
use Rattle.typed_runs.proofs.OnPlan.Mains.{main_is_typed}
use Rattle.typed_runs.proofs.OnPlan.Stored.{symbol_stored}

module _ (m : Module) (well_formed : IsWellFormed m) (valid : IsValid m) where
  abbrev parts : List Module
  parts = m ∷ []

  variables_aligned : (rows : List (Symbol × Room)) → AllByRecursion (λ (row : Symbol × Room). IsAlignment row.1.alignment) rows → AllByRecursion (λ (v : Variable). IsAlignment v.align) (map (variable_of parts) rows)
  variables_aligned [] h = tt
  variables_aligned (row ∷ rows) h = (h.0, variables_aligned rows h.1)

  rows_stored : (rows : List (Symbol × Room)) → AllByRecursion (λ (x : Pointer × Contents). AreStored (length (rooms parts)) x.1) (map (λ (row : Symbol × Room). (pointer_to parts row.0, contents_of parts row.0)) rows)
  rows_stored [] = tt
  rows_stored (row ∷ rows) = (symbol_stored m well_formed valid row.0, rows_stored rows)

  same_count : length (map (variable_of parts) (rooms parts)) ≡ length (rooms parts)
  same_count = mapped_length (variable_of parts) (rooms parts)

  some_rooms : length (map (variable_of parts) (rooms parts)) ≤ 2 ^ 18
  some_rooms = let few = few_rooms m well_formed.few in let same = same_count in omega (arith, few, same)

  each_room : length (rooms parts) ≤ length (map (variable_of parts) (rooms parts))
  each_room = let same = same_count in omega (arith, same)

pub plans_are_typed : PlansAreTyped
plans_are_typed m well_formed valid =
    let parts = m ∷ [] in
    record {
      variables = All-from_recursion (λ (v : Variable). IsAlignment v.align) (map (variable_of parts) (rooms parts)) (variables_aligned m well_formed valid (rooms parts) (rooms_aligned m valid));
      few = some_rooms m well_formed valid;
      fixed = each_room m well_formed valid;
      stores = All-from_recursion (λ (x : Pointer × Contents). AreStored (length (map (variable_of parts) (rooms parts))) x.1) (map (λ (row : Symbol × Room). (pointer_to parts row.0, contents_of parts row.0)) (rooms parts))
          (subst (λ n. AllByRecursion (λ (x : Pointer × Contents). AreStored n x.1) (map (λ (row : Symbol × Room). (pointer_to parts row.0, contents_of parts row.0)) (rooms parts))) (sym (same_count m well_formed valid)) (rows_stored m well_formed valid (rooms parts)));
      main = main_is_typed (typing_of parts) m well_formed valid;
    }
