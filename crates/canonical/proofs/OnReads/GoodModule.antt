-- What a well-formed module says of its variables and functions, part by part.
use Rattle.std.specs.Prelude.{◌≡◌, true, ◌&&◌, List, [], ◌∷◌, map, flat_map}
use Rattle.std.specs.List.{list_all}
use Rattle.std.specs.Option.{option_map_or}
use Rattle.std.proofs.lemmas.Bool.{and_parts}
use Rattle.ir_tables.specs.Table.{is_distinct}
use Rattle.type_table.specs.Tree.{Tree}
use Rattle.module_arena.specs.Module.{Constant, Variable, Function, Module}
use Rattle.module_arena.specs.Same.{same_local, has_local}
use Rattle.module_arena.specs.Functions.{blocks}
use Rattle.module_arena.specs.Forms.{is_not_empty, is_small_alignment}
use Rattle.module_arena.specs.Names.{is_local_name, local_names, is_numbered_from, is_numbered_as_declared, value_names, locals_of_block, blocks_of_block, knows_its_names, has_good_names}
use Rattle.module_arena.specs.WellFormed.{is_good_type, known_of_block, known_of_variable, is_good_constant, is_good_variable, is_good_block, is_good_function, IsWellFormed}
use Rattle.canonical.proofs.OnReads.Good.{all_front, all_rest}
use Rattle.canonical.proofs.OnReads.GoodBodies.{AreGoodBlocks, good_blocks}

module _ (m : Module) where
  pub record IsGoodVariable (v : Variable) : Type 0 where
    pub ty : is_good_type m.structs v.ty ≡ true
    pub alignment : is_small_alignment v.alignment ≡ true
    pub initialiser : list_all (is_good_constant m) (known_of_variable v) ≡ true

  abbrev pub AreGoodVariables : List Variable → Type 0
  AreGoodVariables [] = Unit {0}
  AreGoodVariables (v ∷ vs) = IsGoodVariable v × AreGoodVariables vs

  good_variables : (vs : List Variable) → list_all (is_good_variable m) vs ≡ true → list_all (is_good_constant m) (flat_map known_of_variable vs) ≡ true → AreGoodVariables vs
  good_variables [] e cs = tt
  good_variables (v ∷ vs) e cs =
      let a = and_parts (is_good_variable m v) (list_all (is_good_variable m) vs) e in
      let b = and_parts (is_good_type m.structs v.ty) (is_small_alignment v.alignment) a.0 in (
        record { ty = b.0; alignment = b.1; initialiser = all_front (is_good_constant m) (known_of_variable v) (flat_map known_of_variable vs) cs },
        good_variables vs a.1 (all_rest (is_good_constant m) (known_of_variable v) (flat_map known_of_variable vs) cs),
      )

  pub record IsGoodFunction (f : Function) : Type 0 where
    pub returns : is_good_type m.structs f.returns ≡ true
    pub types : list_all (λ p. is_good_type m.structs p.ty) f.parameters ≡ true
    pub not_empty : option_map_or is_not_empty f.body true ≡ true
    pub names : list_all is_local_name (local_names f) ≡ true
    pub apart : is_distinct same_local (local_names f) ≡ true
    pub ordered : is_numbered_from 0 (local_names f) ≡ true
    pub declared : is_numbered_as_declared f ≡ true
    pub bodies : AreGoodBlocks m (value_names f) (map (λ b. b.name) (blocks f)) (blocks f)

  abbrev pub AreGoodFunctions : List Function → Type 0
  AreGoodFunctions [] = Unit {0}
  AreGoodFunctions (f ∷ fs) = IsGoodFunction f × AreGoodFunctions fs

  abbrev constants_of_function : Function → List (Tree × Constant)
  constants_of_function f = flat_map known_of_block (blocks f)

  good_function : (f : Function) → is_good_function m f ≡ true → list_all (is_good_constant m) (constants_of_function f) ≡ true → IsGoodFunction f
  good_function f e cs =
      let a = and_parts (is_good_type m.structs f.returns) (list_all (λ p. is_good_type m.structs p.ty) f.parameters && (option_map_or is_not_empty f.body true && (has_good_names f && list_all (is_good_block m) (blocks f)))) e in
      let b = and_parts (list_all (λ p. is_good_type m.structs p.ty) f.parameters) (option_map_or is_not_empty f.body true && (has_good_names f && list_all (is_good_block m) (blocks f))) a.1 in
      let c = and_parts (option_map_or is_not_empty f.body true) (has_good_names f && list_all (is_good_block m) (blocks f)) b.1 in
      let d = and_parts (has_good_names f) (list_all (is_good_block m) (blocks f)) c.1 in
      let n = and_parts (list_all is_local_name (local_names f)) (is_distinct same_local (local_names f) && (is_numbered_from 0 (local_names f) && (is_numbered_as_declared f && knows_its_names f))) d.0 in
      let o = and_parts (is_distinct same_local (local_names f)) (is_numbered_from 0 (local_names f) && (is_numbered_as_declared f && knows_its_names f)) n.1 in
      let p = and_parts (is_numbered_from 0 (local_names f)) (is_numbered_as_declared f && knows_its_names f) o.1 in
      let q = and_parts (is_numbered_as_declared f) (knows_its_names f) p.1 in
      let k = and_parts (list_all (has_local (value_names f)) (flat_map locals_of_block (blocks f))) (list_all (has_local (map (λ b. b.name) (blocks f))) (flat_map blocks_of_block (blocks f))) q.1 in
      record {
        returns = a.0;
        types = b.0;
        not_empty = c.0;
        names = n.0;
        apart = o.0;
        ordered = p.0;
        declared = q.0;
        bodies = good_blocks m (value_names f) (map (λ b. b.name) (blocks f)) (blocks f) d.1 cs k.0 k.1;
      }

  good_functions : (fs : List Function) → list_all (is_good_function m) fs ≡ true → list_all (is_good_constant m) (flat_map constants_of_function fs) ≡ true → AreGoodFunctions fs
  good_functions [] e cs = tt
  good_functions (f ∷ fs) e cs =
      let a = and_parts (is_good_function m f) (list_all (is_good_function m) fs) e in
      (good_function f a.0 (all_front (is_good_constant m) (constants_of_function f) (flat_map constants_of_function fs) cs), good_functions fs a.1 (all_rest (is_good_constant m) (constants_of_function f) (flat_map constants_of_function fs) cs))

  pub the_variables : IsWellFormed m → AreGoodVariables m.variables
  the_variables w = good_variables m.variables w.variables (all_front (is_good_constant m) (flat_map known_of_variable m.variables) (flat_map constants_of_function m.functions) w.constants)

  pub the_functions : IsWellFormed m → AreGoodFunctions m.functions
  the_functions w = good_functions m.functions w.functions (all_rest (is_good_constant m) (flat_map known_of_variable m.variables) (flat_map constants_of_function m.functions) w.constants)
