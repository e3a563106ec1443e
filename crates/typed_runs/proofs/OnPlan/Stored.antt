-- What is stored at first is of the kind of its slot.
use Rattle.std.proofs.Common.{◌≡◌, ℕ, zero, suc, ◌+◌, ◌-◌, List, [], ◌∷◌, ◌++◌, length, map, flat_map, zip, refl, sym, subst, Bool, true, false, ◌&&◌, nat_lt, Option, Some, None, option_to_list, true≢false}
use Rattle.std.specs.Prelude.{slice_get, if◌then◌else◌}
use Rattle.std.specs.List.{AllByRecursion, AllZip, list_all}
use Rattle.std.specs.Option.{option_map_or}
use Rattle.std.proofs.lemmas.Bool.{and_parts}
use Rattle.std.proofs.lemmas.Option.{same_Some}
use Rattle.run_rules.proofs.OnPlaces.Options.{none_some}
use Rattle.ir_eval.specs.declared.value.Scalar.{Scalar}
use Rattle.type_table.specs.Layout.{size}
use Rattle.type_table.specs.Tree.{Tree, no_trees, more_trees}
use Rattle.module_arena.specs.Constants.{constants_in, constants_of, Expected, each, these, as_written, nothing, expected, fits, parts_fit}
use Rattle.module_arena.specs.Functions.{blocks}
use Rattle.module_arena.specs.Module.{Constant, Aggregate, Constants, no_constants, more_constants, Variable, Function, Module}
use Rattle.module_arena.specs.Same.{same_type}
use Rattle.module_arena.specs.TypeTests.{opened}
use Rattle.module_arena.specs.Valid.{IsValid}
use Rattle.module_arena.specs.WellFormed.{IsWellFormed, known_of_variable, known_of_block, is_good_constant}
use Rattle.module_arena.proofs.Parts.{valid_variable}
use Rattle.linkage_rules.specs.declared.symbol.Symbol.{Symbol}
use Rattle.linkage_rules.specs.Entries.{Entry, entries, same_symbol, symbol_of, entries_of}
use Rattle.linkage_rules.specs.Globals.{OfVariable, linkage_of}
use Rattle.linkage_rules.specs.Linkages.{is_appending}
use Rattle.linkage_rules.specs.Addresses.{rooms}
use Rattle.linkage_rules.specs.Winner.{is_definition, definitions, home}
use Rattle.linkage_rules.specs.Contents.Contents.{ContentPiece, pieces_of_constants, elements_of, elements_in, whole, pieces_by, pieces}
use Rattle.run_rules.proofs.OnPlaces.Together.{all_append, all_filter, home_is}
use Rattle.run_rules.specs.Constant.{Names, shape_of, constant_value}
use Rattle.run_rules.specs.Leaves.{Slot, slots_at}
use Rattle.run_rules.specs.Look.{names_in}
use Rattle.run_rules.specs.Plan.{Contents, contents_from, contents_of}
use Rattle.typed_runs.specs.Kinds.{IsOf, kinds_of}
use Rattle.typed_runs.specs.States.{AreStored}
use Rattle.typed_runs.proofs.OnLook.Constants.{is_sound, AreSound, constant_typed, front_all, back_all}
use Rattle.typed_runs.proofs.OnTypes.Sounds.{constant_sound}
use Rattle.typed_runs.proofs.OnTypes.Within.{same_kinds}
use Rattle.typed_runs.proofs.OnPlan.Addresses.{address_typed}
use Rattle.typed_runs.proofs.OnPlan.Entries.{first_part, entries_all}

all_of_part : {X Y : Type 0} (p : Y → Bool) (g : X → List Y) (xs : List X) (k : ℕ) (x : X) → list_all p (flat_map g xs) ≡ true → slice_get xs k ≡ Some x → list_all p (g x) ≡ true
all_of_part p g [] k x h e = none_some x e
all_of_part p g (y ∷ ys) zero x h e = subst (λ z. list_all p (g z) ≡ true) (same_Some y x e) (front_all p (g y) (flat_map g ys) h)
all_of_part p g (y ∷ ys) (suc k) x h e = all_of_part p g ys k x (back_all p (g y) (flat_map g ys) h) e

flat_all : {X Y : Type 0} (P : Y → Type 0) (g : X → List Y) (xs : List X) → AllByRecursion (λ x. AllByRecursion P (g x)) xs → AllByRecursion P (flat_map g xs)
flat_all P g [] h = tt
flat_all P g (x ∷ xs) h = all_append P (g x) (flat_map g xs) h.0 (flat_all P g xs h.1)

-- ---- leaves in their slots

stored_both : (count : ℕ) (xs ys : Contents) → AreStored count xs → AreStored count ys → AreStored count (xs ++ ys)
stored_both count [] ys h k = k
stored_both count (x ∷ xs) ys h k = (h.0, stored_both count xs ys h.1 k)

slots_stored : (count : ℕ) (ss : List Slot) (vs : List Scalar) → AllZip (IsOf count) (map (λ (s : Slot). s.leaf) ss) vs → AreStored count (zip ss vs)
slots_stored count [] vs h = tt
slots_stored count (s ∷ ss) [] h = absurd h
slots_stored count (s ∷ ss) (v ∷ vs) h = (h.0, slots_stored count ss vs h.1)

module _ (m : Module) (well_formed : IsWellFormed m) (valid : IsValid m) where
  abbrev parts : List Module
  parts = m ∷ []

  abbrev count : ℕ
  count = length (rooms parts)

  abbrev names : Names
  names = names_in parts 0

  -- a piece has the leaves of its type
  abbrev HasLeaves : ContentPiece → Type 0
  HasLeaves p = AllZip (IsOf count) (kinds_of (shape_of (names_in parts p.part) p.ty)) (constant_value (names_in parts p.part) p.ty p.value)

  contents_stored : (ps : List ContentPiece) (at : ℕ) → AllByRecursion HasLeaves ps → AreStored count (contents_from parts at ps)
  contents_stored [] at h = tt
  contents_stored (p ∷ ps) at h =
      let s = shape_of (names_in parts p.part) p.ty in
      let vs = constant_value (names_in parts p.part) p.ty p.value in
      stored_both count (zip (slots_at s at) vs) (contents_from parts (at + size s) ps) (slots_stored count (slots_at s at) vs (subst (λ ks. AllZip (IsOf count) ks vs) (same_kinds s 0 at) h.0)) (contents_stored ps (at + size s) h.1)

  -- ---- initialisers

  one_typed : (t : Tree) (c : Constant) → fits m.structs t c ≡ true → AreSound names (constants_in t c) → AllZip (IsOf count) (kinds_of (shape_of names t)) (constant_value names t c)
  one_typed t c h sound = constant_typed names count (address_typed parts 0) t c h sound

  elements_typed : (x : Expected) (cs : Constants) → parts_fit m.structs x cs ≡ true → AreSound names (constants_of cs) → AllByRecursion HasLeaves (pieces_of_constants 0 cs)
  elements_typed x no_constants h r = tt
  elements_typed (each n u) (more_constants v c cs) h r =
      let p = and_parts (nat_lt 0 n) (same_type u v && (fits m.structs v c && parts_fit m.structs (each (n - 1) u) cs)) h in
      let q = and_parts (same_type u v) (fits m.structs v c && parts_fit m.structs (each (n - 1) u) cs) p.1 in
      let s = and_parts (fits m.structs v c) (parts_fit m.structs (each (n - 1) u) cs) q.1 in
      (one_typed v c s.0 (front_all (is_sound names) (constants_in v c) (constants_of cs) r), elements_typed (each (n - 1) u) cs s.1 (back_all (is_sound names) (constants_in v c) (constants_of cs) r))
  elements_typed (these no_trees) (more_constants v c cs) h r = absurd (true≢false (sym h))
  elements_typed (these (more_trees u ts)) (more_constants v c cs) h r =
      let q = and_parts (same_type u v) (fits m.structs v c && parts_fit m.structs (these ts) cs) h in
      let s = and_parts (fits m.structs v c) (parts_fit m.structs (these ts) cs) q.1 in
      (one_typed v c s.0 (front_all (is_sound names) (constants_in v c) (constants_of cs) r), elements_typed (these ts) cs s.1 (back_all (is_sound names) (constants_in v c) (constants_of cs) r))
  elements_typed as_written (more_constants v c cs) h r =
      let s = and_parts (fits m.structs v c) (parts_fit m.structs as_written cs) h in
      (one_typed v c s.0 (front_all (is_sound names) (constants_in v c) (constants_of cs) r), elements_typed as_written cs s.1 (back_all (is_sound names) (constants_in v c) (constants_of cs) r))
  elements_typed nothing (more_constants v c cs) h r = absurd (true≢false (sym h))

  list_typed : (t : Tree) (c : Constant) → fits m.structs t c ≡ true → AreSound names (constants_in t c) → AllByRecursion HasLeaves (elements_of 0 c)
  list_typed t (Aggregate b cs) h r = elements_typed (expected b (opened m.structs t)) cs h (and_parts (is_sound names (t, Aggregate b cs)) (list_all (is_sound names) (constants_of cs)) r).1
  list_typed t _ h r = tt

  -- an entry's initialiser, and the elements of its array
  record IsHeld (e : Entry) : Type 0 where
    all : AllByRecursion HasLeaves (whole e)
    elements : AllByRecursion HasLeaves (elements_in e)

  variable_held : (k : ℕ) (v : Variable) → slice_get m.variables k ≡ Some v → IsHeld (first_part (OfVariable v))
  variable_held k v e = go v.initialiser (valid_variable m k v valid e).1.1.1.1.1.1.0 (all_of_part (is_good_constant m) known_of_variable m.variables k v known e)
    where
      known : list_all (is_good_constant m) (flat_map known_of_variable m.variables) ≡ true
      known = front_all (is_good_constant m) (flat_map known_of_variable m.variables) (flat_map (λ (f : Function). flat_map known_of_block (blocks f)) m.functions) well_formed.constants

      go : (o : Option Constant) → option_map_or (fits m.structs v.ty) o true ≡ true → list_all (is_good_constant m) (map (λ c. (v.ty, c)) (option_to_list o)) ≡ true → IsHeld (first_part (OfVariable (record v { initialiser = o })))
      go None h g = record { all = tt; elements = tt }
      go (Some c) h g =
          let sound = constant_sound m well_formed.structs names refl v.ty c (and_parts (is_good_constant m (v.ty, c)) true g).0 in
          record { all = (one_typed v.ty c h sound, tt); elements = list_typed v.ty c h sound }

  all_held : AllByRecursion IsHeld (entries parts)
  all_held = entries_all IsHeld m variable_held (λ k f e. record { all = tt; elements = tt }) (λ k a e. record { all = tt; elements = tt })

  held_elements : (es : List Entry) → AllByRecursion IsHeld es → AllByRecursion (λ (e : Entry). AllByRecursion HasLeaves (elements_in e)) es
  held_elements [] h = tt
  held_elements (e ∷ es) h = (h.0.elements, held_elements es h.1)

  pieces_typed : (s : Symbol) → AllByRecursion HasLeaves (pieces parts s)
  pieces_typed s = by (home parts s) refl
    where
      definitions_held : AllByRecursion IsHeld (definitions parts s)
      definitions_held = all_filter IsHeld is_definition (entries_of parts s) (all_filter IsHeld (λ d. same_symbol s (symbol_of d)) (entries parts) all_held)

      choice : (e : Entry) → IsHeld e → (b : Bool) → AllByRecursion HasLeaves (if b then flat_map elements_in (definitions parts s) else whole e)
      choice e h true = flat_all HasLeaves elements_in (definitions parts s) (held_elements (definitions parts s) definitions_held)
      choice e h false = h.all

      by : (o : Option Entry) → home parts s ≡ o → AllByRecursion HasLeaves (option_map_or (λ e. pieces_by e (definitions parts s)) o [])
      by None q = tt
      by (Some e) q = choice e (home_is parts IsHeld s e all_held q).0.0 (is_appending (linkage_of e.global))

  -- what a symbol holds
  pub symbol_stored : (s : Symbol) → AreStored count (contents_of parts s)
  symbol_stored s = contents_stored (pieces parts s) 0 (pieces_typed s)
