-- For all calls of `TypeJudge`: what is told of each type of a table, from what is told of its parts.
use Rattle.std.specs.Prelude.{◌≡◌, ℕ, Bool, true, ◌&&◌, List, map, slice_index_or}
use Rattle.std.specs.List.{list_all}
use Rattle.type_table.specs.declared.ir_type.IrType.{IrType}
use Rattle.type_table.specs.declared.ir_type.IrType.TheVariants as type
use Rattle.type_table.specs.Tree.{Tree, int, ptr, void, array, struct, named, Trees, no_trees, more_trees}
use Rattle.type_table.specs.Types.{Types, IsGood, trees}
use Rattle.module_arena.specs.TypeTests.{is_free_of_void, is_free_of_names}
use Rattle.entry_verify.specs.Types.Classes.{AreClasses}

abbrev mutual
  -- whether all in a type passes, where `void` and the names of structs pass or not
  pub is_free : (void_passes name_passes : Bool) → Tree → Bool
  is_free v n (int width) = true
  is_free v n ptr = true
  is_free v n void = v
  is_free v n (array length t) = is_free v n t
  is_free v n (struct packed ts) = are_free v n ts
  is_free v n (named name) = n

  -- the same of several types
  pub are_free : (void_passes name_passes : Bool) → Trees → Bool
  are_free v n no_trees = true
  are_free v n (more_trees t ts) = is_free v n t && are_free v n ts

-- the same of a type, from the flags of the types before it
abbrev pub flag_of : (void_passes name_passes : Bool) → List Bool → IrType → Bool
flag_of v n flags (type.Int width) = true
flag_of v n flags type.Ptr = true
flag_of v n flags type.Void = v
flag_of v n flags (type.Array length part) = slice_index_or flags part v
flag_of v n flags (type.Struct packed parts) = list_all (λ part. slice_index_or flags part v) parts
flag_of v n flags (type.Named id) = n

-- what a judge of types keeps beside the table
pub record IsTypeJudge (t : Types) (without_void without_names : List Bool) (classes : List ℕ) : Type 0 where
  pub good : IsGood t
  pub voids : without_void ≡ map is_free_of_void (trees t)
  pub names : without_names ≡ map is_free_of_names (trees t)
  pub alike : AreClasses t classes
