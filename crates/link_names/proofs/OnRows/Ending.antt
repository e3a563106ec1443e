-- A row's number tells what its struct is called in the linked module.
use Rattle.std.proofs.Common.{◌≡◌, ℕ, zero, suc, true, false, All, List, [], ◌∷◌, length, map, take, Some, refl, sym, ap, ◌∙◌, subst, option_map, bytes_eq, arith}
use Rattle.std.specs.Prelude.{slice_get}
use Rattle.std.specs.Map.{lookup}
use Rattle.std.proofs.lemmas.Bool.{cond-true, cond-false}
use Rattle.std.proofs.lemmas.List.{length-map}
use Rattle.std.proofs.lemmas.Option.{get_or_from_slice_get, same_Some, slice_get-map}
use Rattle.linkage_rules.specs.Ids.{modules}
use Rattle.linkage_rules.specs.Lists.{has}
use Rattle.linkage_rules.specs.declared.symbol.Symbol.{Symbol}
use Rattle.linkage_rules.specs.declared.symbol.Symbol.TheVariants.{Local}
use Rattle.linkage_rules.proofs.Lists.{other_way}
use Rattle.linkage_rules.proofs.Steps.{take_whole}
use Rattle.module_arena.specs.Lists.{Lists}
use Rattle.module_arena.specs.Module.{Bytes, Module, empty_module}
use Rattle.module_arena.specs.Sound.{IsSound}
use Rattle.module_arena.specs.View.{module_of}
use Rattle.link_rules.specs.Rename.{name_or}
use Rattle.link_rules.specs.Structs.{same_struct, struct_map, struct_symbols, structs_from}
use Rattle.link_rules.proofs.Apart.{Apart, apart_firsts, none_at}
use Rattle.link_rules.proofs.StructRows.{Key, first_keys, key, key_exact, key_self, same_key, struct_keys}
use Rattle.link_names.specs.Shapes.Shapes.{shapes_of}
use Rattle.link_names.specs.Naming.{TakenNames, SameNames}
use Rattle.link_names.specs.Rows.Numbers.{AreNewStructs, IsNewStruct, all_struct_names, new_struct_names, so_far}
use Rattle.link_names.specs.Rows.Rows.{AreRows, AreShapesOf, HasRow, HaveRows, first_of_each, names_given}
use Rattle.link_names.specs.declared.rows.rows.GrowingRows.{GrowingRows}
use Rattle.link_names.proofs.OnRows.Adding.{AreAdded}

-- what a list with something done to each has at a place
pub under_map : {A B : Type 0} (f : A → B) (xs : List A) (k : ℕ) (y : B) → slice_get (map f xs) k ≡ Some y → (x : A) × (slice_get xs k ≡ Some x) × (f x ≡ y)
under_map f [] k y h = cc
under_map f (x ∷ xs) zero y h = (x, refl, same_Some (f x) y h)
under_map f (x ∷ xs) (suc k) y h = under_map f xs k y h

module _ (ms : List Module) where
  -- the row that a struct is one with is found first
  row_found : (rows : List (Symbol × Bytes)) (k : ℕ) (r : Symbol × Bytes) (s : Symbol) → Apart same_key (map (key ms) (map (λ (x : Symbol × Bytes). x.0) rows)) → slice_get rows k ≡ Some r
      → same_struct ms s r.0 ≡ true → lookup (same_struct ms s) rows ≡ Some r.1
  row_found [] k r s a h is = cc
  row_found (x ∷ rows) zero r s a h is =
      let e = same_Some x r h in
      cond-true (same_struct ms s x.0) _ _ (subst (λ (y : Symbol × Bytes). same_struct ms s y.0 ≡ true) (sym e) is) ∙ ap (λ (y : Symbol × Bytes). Some y.1) e
  row_found (x ∷ rows) (suc k) r s a h is =
      let at = slice_get-map (key ms) (map (λ (y : Symbol × Bytes). y.0) rows) k ∙ ap (option_map (key ms)) (slice_get-map (λ (y : Symbol × Bytes). y.0) rows k ∙ ap (option_map (λ (y : Symbol × Bytes). y.0)) h) in
      let unlike = none_at (same_key (key ms x.0)) (map (key ms) (map (λ (y : Symbol × Bytes). y.0) rows)) k (key ms r.0) a.0 at in
      let same = key_exact (key ms s) (key ms r.0) is in
      cond-false (same_struct ms s x.0) _ _ (subst (λ (q : Key). same_key q (key ms x.0) ≡ false) (sym same) (other_way same_key key_self key_exact (key ms x.0) (key ms r.0) unlike))
      ∙ row_found rows k r s a.1 h is

  apart : Apart same_key (map (key ms) (map (λ (x : Symbol × Bytes). x.0) (struct_map ms)))
  apart =
      subst (λ (l : List Symbol). Apart same_key (map (key ms) l)) (sym (struct_keys ms))
      (subst (Apart same_key) (sym (first_keys ms)) (apart_firsts same_key key_self key_exact (map (key ms) (struct_symbols ms))))

  pub is_new_struct : (i row : ℕ) (name : Bytes) → HasRow ms (struct_symbols ms) (Local i name) row → IsNewStruct ms i name row
  is_new_struct i row name h =
      let r = under_map (λ (x : Symbol × Bytes). x.0) (struct_map ms) row h.first (ap (λ (l : List Symbol). slice_get l row) (struct_keys ms) ∙ h.at) in
      let found = row_found (struct_map ms) row r.0 (Local i name) apart r.1 (subst (λ (t : Symbol). same_struct ms (Local i name) t ≡ true) (sym r.2) h.same) in
      slice_get-map (λ (x : Symbol × Bytes). x.1) (struct_map ms) row ∙ ap (option_map (λ (x : Symbol × Bytes). x.1)) r.1 ∙ ap (λ o. Some (name_or name o)) (sym found)

  pub are_new_structs : (numbers : List (List ℕ)) → length numbers ≡ length ms → ((i : ℕ) (list : List ℕ) → slice_get numbers i ≡ Some list → HaveRows ms (struct_symbols ms) i list) → AreNewStructs ms numbers
  are_new_structs numbers many h = record {
    count = many;
    each = λ i m list at e.
        let its = ap (λ (x : Module). x.structs) (get_or_from_slice_get ms i m empty_module at) in
        let have = h i list e in
        record {
          count = have.count ∙ ap (λ l. length l) its;
          each = λ id number s there f. is_new_struct i number s.0 (have.each id number s (ap (λ l. slice_get l id) its ∙ there) f);
        };
  }

-- ---- before the first part, and behind the last

pub rows_none : (ms : List Module) (rows : GrowingRows) (naming : TakenNames) → rows.found.keys ≡ [] → rows.names ≡ [] → rows.naming ≡ naming → naming.given ≡ [] → SameNames naming.avoided (all_struct_names ms) → AreRows ms [] rows
rows_none ms rows naming found names same given avoided = record {
  found = subst (λ (l : List ℕ). AreShapesOf ms (shapes_of rows.shapes) l []) (sym found) tt;
  names = names;
  given = λ m. ap (λ (v : TakenNames). has bytes_eq v.given m) same ∙ ap (λ (l : List Bytes). has bytes_eq l m) given;
  avoided = λ m. ap (λ (v : TakenNames). has bytes_eq v.avoided m) same ∙ avoided m;
}

pub added_none : (ps : List Lists) (rows : GrowingRows) (numbers : List (List ℕ)) → numbers ≡ [] → AreRows (modules ps) [] rows → AreAdded ps 0 rows numbers
added_none ps rows numbers none h = record {
  rows = h;
  one_each = ap (λ l. length l) none;
  each = λ i list e. absurd (no_list i list (ap (λ l. slice_get l i) (sym none) ∙ e));
  sound = λ k d lt. absurd (omega (arith, lt));
}
  where
    no_list : (i : ℕ) (list : List ℕ) → slice_get [] i ≡ Some list → ⊥
    no_list i list e = cc

module _ (ps : List Lists) (part : ℕ) (rows : GrowingRows) (numbers : List (List ℕ)) (end : part ≡ length ps) (h : AreAdded ps part rows numbers) where
  many : part ≡ length (modules ps)
  many = end ∙ sym (length-map ps module_of)

  whole : so_far (modules ps) part ≡ struct_symbols (modules ps)
  whole = ap (structs_from 0) (ap (λ (n : ℕ). take n (modules ps)) many ∙ take_whole (modules ps))

  pub names_are : rows.names ≡ new_struct_names (modules ps)
  names_are = h.rows.names ∙ ap (λ (d : List Symbol). names_given (modules ps) (first_of_each (modules ps) d)) whole

  pub numbers_are : AreNewStructs (modules ps) numbers
  numbers_are = are_new_structs (modules ps) numbers (h.one_each ∙ many) (λ i list e. subst (λ (d : List Symbol). HaveRows (modules ps) d i list) whole (h.each i list e))

  pub all_sound : All IsSound ps
  all_sound = subst (All IsSound) (ap (λ (n : ℕ). take n ps) end ∙ take_whole ps) h.sound
