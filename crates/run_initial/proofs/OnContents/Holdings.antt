-- What a variable holds at first is what the definition of opening stores of its symbol.
use Rattle.std.proofs.Common.{◌≡◌, ℕ, zero, suc, ◌+◌, List, [], ◌∷◌, ◌++◌, map, zip, flat_map, option_to_list, Bool, true, false, not, ◌&&◌, Option, Some, None, refl, sym, ap, ◌∙◌, subst, true≢false, append-nil, arith, unwrap_or}
use Rattle.std.specs.Prelude.{slice_get, filter, if◌then◌else◌}
use Rattle.std.specs.List.{list_all}
use Rattle.std.specs.Option.{option_map, option_map_or}
use Rattle.std.proofs.lemmas.Bool.{cond-true}
use Rattle.std.proofs.lemmas.Option.{same_Some}
use Rattle.type_table.specs.Layout.{size}
use Rattle.type_table.specs.Shape.{Shape, void_leaf, array_of}
use Rattle.type_table.specs.Shape as shapes
use Rattle.type_table.specs.Tree.{Tree, array}
use Rattle.type_table.specs.Types.{shape, tree}
use Rattle.module_arena.specs.Constants.{Typed, fits}
use Rattle.module_arena.specs.declared.entry.Variable.{Variable}
use Rattle.module_arena.specs.EntryRules as rules
use Rattle.module_arena.specs.Functions.{blocks}
use Rattle.module_arena.specs.Lists.{Lists}
use Rattle.module_arena.specs.Module as written
use Rattle.module_arena.specs.Module.{Constant, Integer, Truth, Null, Undef, Poison, ZeroInitializer, Address, ByteString, Aggregate, ElementAddress, Cast, Binary, Constants, no_constants, more_constants, Module}
use Rattle.module_arena.specs.Valid.{AllHold, IsValid, variable_demands}
use Rattle.module_arena.specs.View.{module_of}
use Rattle.module_arena.specs.WellFormed.{IsWellFormed, is_good_constant, known_of_block, known_of_variable}
use Rattle.module_arena.proofs.Parts.{valid_variable}
use Rattle.linkage_rules.specs.Entries.{Entry, symbol_of}
use Rattle.linkage_rules.specs.Linkages.{is_appending}
use Rattle.linkage_rules.specs.Winner.{definitions, home, is_definition}
use Rattle.linkage_rules.proofs.ValidParts.{same_appending}
use Rattle.linkage_rules.specs.Contents.Contents.{ContentPiece, elements_in, elements_of, whole, pieces_by, pieces_of_constants}
use Rattle.run_initial.proofs.OnConstants.LeafKinds.{shape_is}
use Rattle.run_initial.proofs.OnConstants.Sounds.{back_all, front_all, list_sound}
use Rattle.run_initial.proofs.OnConstants.Standing.{initialiser_stands}
use Rattle.run_initial.specs.Constants.Sound.{IsSound, constant_of, names_of}
use Rattle.run_names.proofs.Apart.{own_entries}
use Rattle.run_names.proofs.Arena.{variable_defined, variable_home, variable_seen, variable_there}
use Rattle.run_names.proofs.OneModule.{module_apart, variable_in}
use Rattle.run_names.proofs.Roomed.{entry_of, or_other}
use Rattle.run_names.specs.Spots.{is_defined, size_of}
use Rattle.run_rules.specs.Constant.{constant_values, shape_of}
use Rattle.run_rules.specs.Plan.{Contents, contents_from, contents_of}
use Rattle.typed_runs.specs.States.{AreStored}
use Rattle.run_initial.specs.Initial.Constants.{parts_at, value_at}
use Rattle.run_initial.specs.Initial.Fresh.{is_packed}
use Rattle.run_initial.proofs.OnInitial.Lists.{list_made, parts_are}
use Rattle.run_initial.proofs.OnInitial.Ordered.{AreInOrder, slots_follow, zip_order, zip_stored}
use Rattle.run_initial.proofs.OnInitial.Sounds.{list_shape, value_typed, values_typed}
use Rattle.run_initial.proofs.OnInitial.Sounds as sounds
use Rattle.run_initial.specs.Contents.Held.{held, held_by, is_list}

part_good : (p : Typed → Bool) (f : written.Variable → List Typed) (xs : List written.Variable) (k : ℕ) (x : written.Variable) → list_all p (flat_map f xs) ≡ true → slice_get xs k ≡ Some x → list_all p (f x) ≡ true
part_good p f [] k x h at = cc
part_good p f (y ∷ xs) zero x h at = subst (λ (z : written.Variable). list_all p (f z) ≡ true) (same_Some y x at) (front_all p (f y) (flat_map f xs) h)
part_good p f (y ∷ xs) (suc k) x h at = part_good p f xs k x (back_all p (f y) (flat_map f xs) h) at

no_elements : (i : ℕ) (c : Constant) → is_list c ≡ false → elements_of i c ≡ []
no_elements i (Integer n) h = refl
no_elements i (Truth b) h = refl
no_elements i Null h = refl
no_elements i Undef h = refl
no_elements i Poison h = refl
no_elements i ZeroInitializer h = refl
no_elements i (Address name) h = refl
no_elements i (ByteString bytes) h = refl
no_elements i (Aggregate b cs) h = absurd (true≢false h)
no_elements i (ElementAddress flags source cs) h = refl
no_elements i (Cast op from value to) h = refl
no_elements i (Binary op flags x left y right) h = refl

module _ (a : Lists) (well_formed : IsWellFormed (module_of a)) (valid : IsValid (module_of a)) (number : ℕ) (v : Variable) (at : slice_get a.variables number ≡ Some v) (is : is_defined v ≡ true) (id : ℕ) (has : v.initialiser ≡ Some id) where
  abbrev m : Module
  m = module_of a

  abbrev parts : List Module
  parts = m ∷ []

  abbrev its_entry : Entry
  its_entry = entry_of a well_formed valid v

  abbrev t : Tree
  t = tree a.table v.ty

  abbrev c : Constant
  c = constant_of a id

  demands_hold : AllHold (variable_demands m (variable_seen a v))
  demands_hold = valid_variable m number (variable_seen a v) valid (variable_there a number v at)

  seen : (variable_seen a v).initialiser ≡ Some c
  seen = ap (option_map (constant_of a)) has

  -- the initialiser can stand at the variable's type
  pub sound : IsSound m t c
  sound =
      (initialiser_stands m t (Some c)
      (subst (λ (o : Option Constant). rules.variable_type_suits m.structs t o ≡ true) seen demands_hold.1.1.1.1.0)
      (subst (λ (o : Option Constant). option_map_or (fits m.structs t) o true ≡ true) seen demands_hold.1.1.1.1.1.1.0)
      (subst (λ (o : Option Constant). list_all (is_good_constant m) (map (λ x. (t, x)) (option_to_list o)) ≡ true) seen
      (part_good (is_good_constant m) known_of_variable m.variables number (variable_seen a v) (front_all (is_good_constant m) (flat_map known_of_variable m.variables) (flat_map (λ f. flat_map known_of_block (blocks f)) m.functions) well_formed.constants) (variable_there a number v at)))).0

  -- ---- what is stored of its symbol

  home_is : home parts (symbol_of its_entry) ≡ Some its_entry
  home_is = variable_home a well_formed valid number v at ∙ cond-true (is_defined v) (Some its_entry) None is

  definitions_are : definitions parts (symbol_of its_entry) ≡ its_entry ∷ []
  definitions_are =
      ap (filter is_definition) (own_entries parts (module_apart m well_formed) number its_entry (variable_in m number (variable_seen a v) (variable_there a number v at)))
      ∙ cond-true (is_definition its_entry) (its_entry ∷ []) [] (variable_defined a v ∙ is)

  pieces_parts : (cs : Constants) (at : ℕ) → contents_from parts at (pieces_of_constants 0 cs) ≡ parts_at (names_of a) true 0 at cs
  pieces_parts no_constants at = refl
  pieces_parts (more_constants u d cs) at =
      let same : at ≡ 0 + at = omega arith in
      ap (λ (l : Contents). value_at (names_of a) u d at ++ l) (pieces_parts cs (at + size (shape_of (names_of a) u)))
      ∙ ap (λ (k : ℕ). value_at (names_of a) u d k ++ parts_at (names_of a) true 0 (at + size (shape_of (names_of a) u)) cs) same

  array_packed : (u : Tree) (o : Option Constant) → rules.is_list_variable u o ≡ true → is_packed (shape_of (names_of a) u) ≡ true
  array_packed (array n u) o h = go (shapes.shape (names_of a).structs u)
    where
      go : (x : Option Shape) → is_packed (unwrap_or (option_map (array_of n) x) void_leaf) ≡ true
      go None = refl
      go (Some s) = refl
  array_packed _ o h = absurd (true≢false (sym h))

  -- the elements of a list are the list
  list_held : (d : Constant) → IsSound m t d → is_appending v.linkage ≡ true → is_list d ≡ true → contents_from parts 0 (elements_of 0 d ++ []) ≡ value_at (names_of a) t d 0
  list_held (Aggregate b cs) s grows h =
      let made = list_made (names_of a) t b cs (list_shape a t b cs s) s.fits in
      let packed = array_packed t (variable_seen a v).initialiser (or_other (rules.is_appending v.linkage) (rules.is_list_variable t (variable_seen a v).initialiser) demands_hold.1.1.0 (sym (same_appending v.linkage) ∙ grows)) in
      ap (contents_from parts 0) (append-nil (pieces_of_constants 0 cs))
      ∙ pieces_parts cs 0
      ∙ ap (λ (x : Bool). parts_at (names_of a) x 0 0 cs) (sym packed)
      ∙ parts_are (names_of a) (sounds.blocks a) (is_packed (shape_of (names_of a) t)) 0 0 cs (values_typed a cs (list_sound m t b cs s))
      ∙ ap (λ l. zip l (constant_values (names_of a) cs)) (made.slots 0)
  list_held _ s grows h = absurd (true≢false (sym h))

  pub held_is : contents_of parts (symbol_of its_entry) ≡ held a v
  held_is =
      ap (λ (o : Option Entry). contents_from parts 0 (option_map_or (λ e. pieces_by e (definitions parts (symbol_of its_entry))) o [])) home_is
      ∙ ap (λ (es : List Entry). contents_from parts 0 (pieces_by its_entry es)) definitions_are
      ∙ go (is_appending v.linkage) refl
      ∙ sym (ap (λ (o : Option ℕ). option_map_or (held_by a v) o []) has)
    where
      by_list : (b : Bool) → is_list c ≡ b → is_appending v.linkage ≡ true → contents_from parts 0 (elements_of 0 c ++ []) ≡ (if true && not b then [] else value_at (names_of a) t c 0)
      by_list true e grows = list_held c sound grows e
      by_list false e grows = ap (λ (l : List ContentPiece). contents_from parts 0 (l ++ [])) (no_elements 0 c e)

      go : (b : Bool) → is_appending v.linkage ≡ b
          → contents_from parts 0 (if b then flat_map elements_in (its_entry ∷ []) else whole its_entry) ≡ (if b && not (is_list c) then [] else value_at (names_of a) t c 0)
      go true e = ap (λ (o : Option Constant). contents_from parts 0 (option_map_or (elements_of 0) o [] ++ [])) seen ∙ by_list (is_list c) refl e
      go false e =
          ap (λ (o : Option Constant). contents_from parts 0 (option_map_or (λ x. record { part = 0; ty = t; value = x } ∷ []) o [])) seen
          ∙ append-nil (value_at (names_of a) t c 0)

  -- ---- it lies in its block

  same_size : (o : Option Shape) → option_map_or size o 0 ≡ size (unwrap_or o void_leaf)
  same_size None = refl
  same_size (Some s) = refl

  size_same : 0 + size (shape_of (names_of a) t) ≡ size_of a v
  size_same =
      let told = ap size (shape_is a v.ty) in
      let same = same_size (shape a.table v.ty) in
      omega (arith, told, same)

  pub held_order : AreInOrder 0 (size_of a v) (held a v)
  held_order = subst (AreInOrder 0 (size_of a v)) (sym (ap (λ (o : Option ℕ). option_map_or (held_by a v) o []) has)) (go (is_appending v.linkage && not (is_list c)))
    where
      go : (b : Bool) → AreInOrder 0 (size_of a v) (if b then [] else value_at (names_of a) t c 0)
      go true = omega arith
      go false = subst (λ (n : ℕ). AreInOrder 0 n (value_at (names_of a) t c 0)) size_same (zip_order 0 (0 + size (shape_of (names_of a) t)) _ _ (slots_follow (shape_of (names_of a) t) 0))

  pub held_stored : AreStored (sounds.blocks a) (held a v)
  held_stored = subst (AreStored (sounds.blocks a)) (sym (ap (λ (o : Option ℕ). option_map_or (held_by a v) o []) has)) (go (is_appending v.linkage && not (is_list c)))
    where
      go : (b : Bool) → AreStored (sounds.blocks a) (if b then [] else value_at (names_of a) t c 0)
      go true = tt
      go false = zip_stored (sounds.blocks a) _ _ (value_typed a t c sound)
