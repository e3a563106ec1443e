-- The ids in a constant are known where its parts are.
use Rattle.std.proofs.Common.{◌≡◌, ℕ, ◌<◌, List, [], map, length, slice_get, Some, ◌∙◌, arith}
use Rattle.std.specs.Option.{option_map}
use Rattle.std.proofs.lemmas.List.{length-map}
use Rattle.std.proofs.lemmas.List.Elements.{All-nil}
use Rattle.std.proofs.lemmas.Option.{get_or_from_slice_get, slice_get_within, slice_get-map}
use Rattle.ir_tables.specs.declared.opcode.Opcode.{Opcode}
use Rattle.module_arena.specs.declared.constant.Const.TheVariants as const
use Rattle.module_arena.specs.declared.constant.TypedConst.{TypedConst}
use Rattle.module_arena.specs.declared.entry.GlobalId.{GlobalId}
use Rattle.module_arena.specs.declared.entry.GlobalId.TheVariants as global
use Rattle.module_arena.specs.declared.entry.Variable as the_variable
use Rattle.module_arena.specs.declared.entry.Alias as the_alias
use Rattle.module_arena.specs.declared.entry.Function as the_function
use Rattle.module_arena.specs.Lists.{Lists, global_name, name_at}
use Rattle.module_arena.specs.Known.{counts, HasGlobal, KnowsConst}
use Rattle.module_arena.proofs.Replaced.{one_all}
use Rattle.item_build.specs.Types.Stands.{IsKnownTyped}

module _ {X : Type 0} (name : X → List ℕ) (xs : List X) (id : ℕ) (n : List ℕ) (e : option_map name (slice_get xs id) ≡ Some n) where
  there : slice_get (map name xs) id ≡ Some n
  there = slice_get-map name xs id ∙ e

  pub is_within : id < length xs
  is_within = let lt = slice_get_within (map name xs) id n there in let long = length-map xs name in omega (arith, lt, long)

pub has_global : (a : Lists) (g : GlobalId) (n : List ℕ) → global_name a g ≡ Some n → HasGlobal (counts a) g
has_global a (global.Variable id) n e = is_within (λ (v : the_variable.Variable). v.name) a.variables id n e
has_global a (global.Function id) n e = is_within (λ (f : the_function.Function). f.name) a.functions id n e
has_global a (global.Alias id) n e = is_within (λ (x : the_alias.Alias). x.name) a.aliases id n e

pub is_named : (a : Lists) (g : GlobalId) (n : List ℕ) → global_name a g ≡ Some n → name_at a g ≡ n
is_named a (global.Variable id) n e = get_or_from_slice_get (map (λ (v : the_variable.Variable). v.name) a.variables) id n [] (there (λ (v : the_variable.Variable). v.name) a.variables id n e)
is_named a (global.Function id) n e = get_or_from_slice_get (map (λ (f : the_function.Function). f.name) a.functions) id n [] (there (λ (f : the_function.Function). f.name) a.functions id n e)
is_named a (global.Alias id) n e = get_or_from_slice_get (map (λ (x : the_alias.Alias). x.name) a.aliases) id n [] (there (λ (x : the_alias.Alias). x.name) a.aliases id n e)

module _ (a : Lists) where
  pub knows_address : (g : GlobalId) → HasGlobal (counts a) g → KnowsConst (length a.table.types) (counts a) (length a.constants) (const.Address g)
  knows_address g h = record {
    types_known = All-nil (λ ty. ty < length a.table.types);
    typed_known = All-nil (IsKnownTyped a);
    globals_known = one_all (HasGlobal (counts a)) g h;
  }

  pub knows_cast : (opcode : Opcode) (operand : TypedConst) (to : ℕ) → IsKnownTyped a operand → to < length a.table.types → KnowsConst (length a.table.types) (counts a) (length a.constants) (const.Cast opcode operand to)
  knows_cast opcode operand to h lt = record {
    types_known = one_all (λ ty. ty < length a.table.types) to lt;
    typed_known = one_all (IsKnownTyped a) operand h;
    globals_known = All-nil (HasGlobal (counts a));
  }
