-- The constants of a well-formed module are in the ranges of their types, and their types have shapes.
use Rattle.std.proofs.Common.{◌≡◌, List, [], ◌∷◌, refl, sym, subst, Bool, true, ◌&&◌, nat_le, is_some}
use Rattle.std.specs.List.{list_all}
use Rattle.std.proofs.lemmas.Bool.{and_parts, and_from}
use Rattle.type_table.specs.Shape.{shape}
use Rattle.type_table.specs.Tree.{Tree}
use Rattle.module_arena.specs.Constants.{constants_in}
use Rattle.module_arena.specs.Forms.{is_constant_of_phrase}
use Rattle.module_arena.specs.Module.{Constant, Module}
use Rattle.module_arena.specs.WellFormed.{is_good_type, are_good_structs, is_in_range, type_in_constant, names_an_entry, is_good_part, depth, is_good_constant}
use Rattle.run_rules.specs.Constant.{Names}
use Rattle.typed_runs.proofs.OnLook.Constants.{is_sound, AreSound}
use Rattle.typed_runs.proofs.OnTypes.Sound.{has_shape}

all_pass : {X : Type 0} (p q : X → Bool) → ((x : X) → p x ≡ true → q x ≡ true) → (xs : List X) → list_all p xs ≡ true → list_all q xs ≡ true
all_pass p q each [] h = refl
all_pass p q each (x ∷ xs) h = let r = and_parts (p x) (list_all p xs) h in and_from (q x) (list_all q xs) (each x r.0) (all_pass p q each xs r.1)

module _ (m : Module) (good : are_good_structs m.structs ≡ true) (names : Names) (same : names.structs ≡ m.structs) where
  part_sound : (ty : Tree) (c : Constant) → is_good_part m (ty, c) ≡ true → is_sound names (ty, c) ≡ true
  part_sound ty c h =
      let p = and_parts (is_good_type m.structs ty) (list_all (is_good_type m.structs) (type_in_constant c) && (is_in_range ty c && (is_constant_of_phrase c && names_an_entry m c))) h in
      let q = and_parts (list_all (is_good_type m.structs) (type_in_constant c)) (is_in_range ty c && (is_constant_of_phrase c && names_an_entry m c)) p.1 in
      let r = and_parts (is_in_range ty c) (is_constant_of_phrase c && names_an_entry m c) q.1 in
      and_from (is_in_range ty c) (is_some (shape names.structs ty)) r.0 (subst (λ ss. is_some (shape ss ty) ≡ true) (sym same) (has_shape m.structs good ty p.0))

  -- a constant and those within it
  pub constant_sound : (ty : Tree) (c : Constant) → is_good_constant m (ty, c) ≡ true → AreSound names (constants_in ty c)
  constant_sound ty c h =
      all_pass (is_good_part m) (is_sound names) (λ x g. part_sound x.0 x.1 g) (constants_in ty c) (and_parts (nat_le (depth c) 64) (list_all (is_good_part m) (constants_in ty c)) h).1
