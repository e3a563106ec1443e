-- What is asked of parts holds of some with aliases, local names, commons, structs of one name and appended arrays.
use Prim.Native.String.{String}
use Rattle.std.specs.Prelude.{◌≡◌, Bool, true, false, ◌&&◌, List, [], ◌∷◌, Some, None, codes, refl}
use Rattle.std.specs.List.{AllByRecursion}
use Rattle.std.proofs.lemmas.Bool.{and_parts}
use Rattle.ir_tables.specs.declared.linkage.Linkage.TheVariants.{External, Internal, Common}
use Rattle.type_table.specs.Shape.{name_shape}
use Rattle.type_table.specs.Tree.{int, void, named}
use Rattle.module_arena.specs.Module.{Integer, ZeroInitializer, ReturnVoid, Function, Module}
use Rattle.module_arena.specs.Write.{i32, block, variable, function, struct_with, module_of}
use Rattle.module_arena.specs.Valid.{Fact, Test, Defined, Demand, Holds, AllHold, IsValid, demands}
use Rattle.module_arena.specs.WellFormed.{IsWellFormed}
use Rattle.linkage_rules.specs.Conflicts.{first_conflict}
use Rattle.linkage_rules.proofs.AliasParts.{hides_x, knows_y}
use Rattle.linkage_rules.proofs.RowParts.{only_function, aligned, constructors, constructor_of}
use Rattle.linked_runs.specs.Headline.{RunsAsItsParts}
use Rattle.linked_runs.proofs.Headline.{linked_runs_as_its_parts}

abbrev passes : Fact → Bool
passes (Test b) = b
passes (Defined flow place value) = false

abbrev all_pass : List Demand → Bool
all_pass [] = true
all_pass (d ∷ ds) = passes d.fact && all_pass ds

holds : (f : Fact) → passes f ≡ true → Holds f
holds (Test b) h = h
holds (Defined flow place value) h = cc

all_hold : (ds : List Demand) → all_pass ds ≡ true → AllHold ds
all_hold [] h = tt
all_hold (d ∷ ds) h = let halves = and_parts (passes d.fact) _ h in (holds d.fact halves.0, all_hold ds halves.1)

-- a function that does nothing
abbrev nothing : String → Function
nothing name = function External void name [] (Some (block 0 [] ReturnVoid ∷ []))

abbrev small : Module
small = module_of (struct_with "T" (i32 ∷ []) ∷ []) (aligned 16 (variable Common "c" i32 (Some (Integer 0))) ∷ variable External "s" (named (codes "T")) (Some ZeroInitializer) ∷ constructors (constructor_of "a" ∷ []) 1 ∷ []) (nothing "a" ∷ [])

abbrev large : Module
large = module_of (struct_with "T" (int 64 ∷ []) ∷ []) (aligned 8 (variable Common "c" (int 64) (Some (Integer 0))) ∷ variable Internal "s" (named (codes "T")) (Some ZeroInitializer) ∷ constructors (constructor_of "b" ∷ []) 1 ∷ []) (nothing "b" ∷ [])

abbrev main : Module
main = only_function External "main" 7

abbrev some_parts : List Module
some_parts = hides_x ∷ knows_y ∷ small ∷ large ∷ main ∷ []

hides_x_formed : IsWellFormed hides_x
hides_x_formed = record { texts = refl; few = refl; struct_names = refl; global_names = refl; structs = refl; variables = refl; aliases = refl; functions = refl; constants = refl }

knows_y_formed : IsWellFormed knows_y
knows_y_formed = record { texts = refl; few = refl; struct_names = refl; global_names = refl; structs = refl; variables = refl; aliases = refl; functions = refl; constants = refl }

small_formed : IsWellFormed small
unfolding name_shape
small_formed = record { texts = refl; few = refl; struct_names = refl; global_names = refl; structs = refl; variables = refl; aliases = refl; functions = refl; constants = refl }

large_formed : IsWellFormed large
unfolding name_shape
large_formed = record { texts = refl; few = refl; struct_names = refl; global_names = refl; structs = refl; variables = refl; aliases = refl; functions = refl; constants = refl }

main_formed : IsWellFormed main
main_formed = record { texts = refl; few = refl; struct_names = refl; global_names = refl; structs = refl; variables = refl; aliases = refl; functions = refl; constants = refl }

formed : AllByRecursion IsWellFormed some_parts
formed = (hides_x_formed, (knows_y_formed, (small_formed, (large_formed, (main_formed, tt)))))

valid : AllByRecursion IsValid some_parts
unfolding name_shape
valid = (all_hold (demands hides_x) refl, (all_hold (demands knows_y) refl, (all_hold (demands small) refl, (all_hold (demands large) refl, (all_hold (demands main) refl, tt)))))

none : first_conflict some_parts ≡ None
unfolding name_shape
none = refl

pub runs : RunsAsItsParts some_parts
runs = linked_runs_as_its_parts some_parts formed valid none
