-- The spots of a valid module's variables are what opening and look-up need.
use Rattle.std.proofs.Common.{◌≡◌, ℕ, ◌+◌, ◌≤◌, ◌^◌, List, [], ◌∷◌, ◌++◌, map, filter, length, take, Bool, true, false, cond, Option, Some, None, refl, sym, ap, ap₂, ◌∙◌, subst, arith}
use Rattle.std.specs.Prelude.{slice_get, position, unwrap_or}
use Rattle.std.specs.List.{AllByRecursion}
use Rattle.std.specs.Map.{lookup}
use Rattle.std.specs.Option.{option_map, option_map_or}
use Rattle.std.proofs.lemmas.Bool.{cond-true, cond-false}
use Rattle.std.proofs.lemmas.Option.{same_Some, slice_get-map, get_or_from_slice_get}
use Rattle.ir_eval.specs.declared.value.Scalar.TheVariants.{Ptr}
use Rattle.module_arena.specs.declared.entry.Variable.{Variable}
use Rattle.module_arena.specs.declared.entry.GlobalId.TheVariants as global
use Rattle.module_arena.specs.Lists.{Lists}
use Rattle.module_arena.specs.Module.{Module}
use Rattle.module_arena.specs.Valid.{IsValid}
use Rattle.module_arena.specs.View.{module_of}
use Rattle.module_arena.specs.WellFormed.{IsWellFormed}
use Rattle.module_arena.proofs.ModuleSet.{map_map}
use Rattle.linkage_rules.specs.declared.symbol.Symbol.{Symbol}
use Rattle.linkage_rules.specs.Entries.{Entry, same_symbol, symbol_in, symbol_of}
use Rattle.linkage_rules.specs.Globals.{OfVariable, is_constant}
use Rattle.linkage_rules.specs.Addresses.{rooms, address, placed_from, addressed_from}
use Rattle.linkage_rules.specs.Symbols.{function_symbols}
use Rattle.linkage_rules.specs.Winner.{home}
use Rattle.linkage_rules.specs.Bind as bind
use Rattle.run_rules.specs.Look.{address_in, pointer_to, variable_bounds}
use Rattle.run_rules.specs.Plan as plans
use Rattle.run_names.specs.declared.spot.Spot.{Spot}
use Rattle.run_names.specs.Spots.{AreSpots, absent_leaf, bounds_of, defines, is_defined, needs, variable_symbol}
use Rattle.run_names.proofs.Apart.{AreApart, same_entry}
use Rattle.run_names.proofs.Listed.{all_from_places, at_place}
use Rattle.run_names.proofs.OneModule.{entry, module_apart, parted, variable_entries, function_entries, alias_entries}
use Rattle.run_names.proofs.Arena.{variable_seen, variables_are, variable_home, variable_behind, variable_address}
use Rattle.run_names.proofs.Arena as arena
use Rattle.run_names.proofs.Lies.{front_apart}
use Rattle.run_names.proofs.Roomed.{entry_of, row_of, rooms_are}
use Rattle.run_names.proofs.Put.{Row, AreUnlike, spots_from, spots_need, spots_have, spots_mapped, spots_start, needed, found_starts, row_place, kept_at, all_kept_have, same_maps}

module _ (a : Lists) (well_formed : IsWellFormed (module_of a)) (valid : IsValid (module_of a)) where
  abbrev m : Module
  m = module_of a

  abbrev parts : List Module
  parts = m ∷ []

  abbrev its_entry : Variable → Entry
  its_entry v = entry_of a well_formed valid v

  abbrev its_row : Variable → Row
  its_row v = row_of a well_formed valid v

  abbrev kept : List Variable
  kept = filter is_defined a.variables

  -- ---- rows are unlike

  unlike_rows : (s : Entry) (vs : List Variable) → AllByRecursion (λ d. same_entry s d ≡ false) (map entry (map OfVariable (map (variable_seen a) vs)))
      → AllByRecursion (λ (q : Row). same_symbol (symbol_of s) q.0 ≡ false) (map its_row (filter is_defined vs))
  unlike_rows s [] h = tt
  unlike_rows s (v ∷ vs) h = go (is_defined v) (unlike_rows s vs h.1)
    where
      go : (b : Bool) → AllByRecursion (λ (q : Row). same_symbol (symbol_of s) q.0 ≡ false) (map its_row (filter is_defined vs)) → AllByRecursion (λ (q : Row). same_symbol (symbol_of s) q.0 ≡ false) (map its_row (cond b (v ∷ filter is_defined vs) (filter is_defined vs)))
      go true more = (h.0, more)
      go false more = more

  rows_apart : (vs : List Variable) → AreApart (map entry (map OfVariable (map (variable_seen a) vs))) → AreUnlike (map its_row (filter is_defined vs))
  rows_apart [] h = tt
  rows_apart (v ∷ vs) h = go (is_defined v) (rows_apart vs h.1)
    where
      go : (b : Bool) → AreUnlike (map its_row (filter is_defined vs)) → AreUnlike (map its_row (cond b (v ∷ filter is_defined vs) (filter is_defined vs)))
      go true more = (unlike_rows (its_entry v) vs h.0, more)
      go false more = more

  rows_unlike : AreUnlike (map its_row kept)
  rows_unlike =
      rows_apart a.variables
      (subst (λ vs. AreApart (map entry (map OfVariable vs))) (variables_are a)
      (front_apart (variable_entries m) (function_entries m ++ alias_entries m) (subst AreApart (parted m) (module_apart m well_formed))))

  -- ---- the plan

  home_kept : AllByRecursion (λ v. home parts (symbol_of (its_entry v)) ≡ Some (its_entry v)) kept
  home_kept =
      all_kept_have (λ v. home parts (symbol_of (its_entry v)) ≡ Some (its_entry v)) is_defined a.variables
      (all_from_places (λ v. is_defined v ≡ true → home parts (symbol_of (its_entry v)) ≡ Some (its_entry v)) a.variables
      (λ k v at is. variable_home a well_formed valid k v at ∙ cond-true (is_defined v) (Some (its_entry v)) None is))

  behind_kept : AllByRecursion (λ v. bind.behind parts (symbol_of (its_entry v)) ≡ symbol_of (its_entry v)) kept
  behind_kept =
      all_kept_have (λ v. bind.behind parts (symbol_of (its_entry v)) ≡ symbol_of (its_entry v)) is_defined a.variables
      (all_from_places (λ v. is_defined v ≡ true → bind.behind parts (symbol_of (its_entry v)) ≡ symbol_of (its_entry v)) a.variables (λ k v at is. variable_behind a well_formed valid k v at))

  followed : {A : Type 0} (P Q : A → Type 0) (xs : List A) → ((x : A) → P x → Q x) → AllByRecursion P xs → AllByRecursion Q xs
  followed P Q [] f h = tt
  followed P Q (x ∷ xs) f h = (f x h.0, followed P Q xs f h.1)

  plan_needs : map (plans.variable_of parts) (rooms parts) ≡ map (needed a) kept
  plan_needs =
      ap (map (plans.variable_of parts)) (rooms_are a well_formed valid) ∙ map_map (plans.variable_of parts) its_row kept
      ∙ same_maps (λ v. plans.variable_of parts (its_row v)) (needed a) kept
      (followed (λ v. home parts (symbol_of (its_entry v)) ≡ Some (its_entry v)) (λ v. plans.variable_of parts (its_row v) ≡ needed a v) kept
      (λ v h. (λ j. record { size = (needed a v).size; align = (needed a v).align; constant = option_map_or (λ (e : Entry). is_constant e.global) (h j) false })) home_kept)

  row_starts : map {B = ℕ} (λ (row : Row). unwrap_or (address parts row.0) 0) (rooms parts) ≡ map {B = ℕ} (λ (r : Symbol × ℕ). r.1) (placed_from 65536 (map its_row kept))
  row_starts =
      ap (map {B = ℕ} (λ (row : Row). unwrap_or (address parts row.0) 0)) (rooms_are a well_formed valid)
      ∙ map_map {C = ℕ} (λ (row : Row). unwrap_or (address parts row.0) 0) its_row kept
      ∙ same_maps (λ v. unwrap_or (address parts (its_row v).0) 0) (λ v. unwrap_or (lookup (same_symbol (its_row v).0) (placed_from 65536 (map its_row kept) ++ addressed_from 0 (function_symbols parts))) 0) kept
      (followed (λ v. bind.behind parts (symbol_of (its_entry v)) ≡ symbol_of (its_entry v)) (λ v. unwrap_or (address parts (its_row v).0) 0 ≡ unwrap_or (lookup (same_symbol (its_row v).0) (placed_from 65536 (map its_row kept) ++ addressed_from 0 (function_symbols parts))) 0) kept
      (λ v h. ap₂ (λ s rows. unwrap_or (lookup (same_symbol s) (placed_from 65536 rows ++ addressed_from 0 (function_symbols parts))) 0) h (rooms_are a well_formed valid)) behind_kept)
      ∙ sym (map_map {C = ℕ} (λ (row : Row). unwrap_or (lookup (same_symbol row.0) (placed_from 65536 (map its_row kept) ++ addressed_from 0 (function_symbols parts))) 0) its_row kept)
      ∙ found_starts 65536 (map its_row kept) (addressed_from 0 (function_symbols parts)) rows_unlike

  its_symbol : (k n next : ℕ) (v : Variable) → n ≡ 0 + k → slice_get a.variables k ≡ Some v → variable_symbol a n ≡ symbol_of (its_entry v)
  its_symbol k n next v e at =
      let same : k ≡ n = omega (arith, e) in
      let at_n : slice_get a.variables n ≡ Some v = subst (λ (i : ℕ). slice_get a.variables i ≡ Some v) same at in
      ap (symbol_in parts 0) (get_or_from_slice_get (map (λ (v : Variable). v.name) a.variables) n v.name [] (slice_get-map (λ (v : Variable). v.name) a.variables n ∙ ap (option_map (λ (v : Variable). v.name)) at_n))
      ∙ arena.variable_symbol a well_formed valid n v at_n

  its_defines : AllByRecursion (λ (s : Spot). defines a s.variable ≡ true) (spots_from a 0 65536 a.variables)
  its_defines =
      spots_have a (λ n v. slice_get a.variables n ≡ Some v) (λ (s : Spot). defines a s.variable ≡ true) (λ n next v is at. ap (λ o. option_map_or is_defined o false) at ∙ is) 0 65536 a.variables
      (λ k n v e at. let same : k ≡ n = omega (arith, e) in subst (λ (i : ℕ). slice_get a.variables i ≡ Some v) same at)

  -- what is put one behind another are the spots
  pub are_spots : (spots : List Spot) → spots_from a 0 65536 a.variables ≡ spots → ((k : ℕ) (s : Spot) → slice_get spots k ≡ Some s → s.start + s.size ≤ 2 ^ 60) → AreSpots a spots
  are_spots spots is within = record {
    variables = ap (map needs) (sym is) ∙ spots_need a 0 65536 a.variables ∙ sym plan_needs;
    symbols =
        ap (map (λ (s : Spot). variable_symbol a s.variable)) (sym is)
        ∙ spots_mapped a (λ (s : Spot). variable_symbol a s.variable) (λ v. symbol_of (its_entry v)) 0 65536 a.variables (λ k n next v e at. its_symbol k n next v e at)
        ∙ sym (map_map (λ (row : Row). row.0) its_row kept) ∙ ap (map (λ (row : Row). row.0)) (sym (rooms_are a well_formed valid));
    starts = ap (map {B = ℕ} (λ (s : Spot). s.start)) (sym is) ∙ spots_start a its_row (λ v. refl) 0 65536 a.variables ∙ sym row_starts;
    defined = λ k s at. at_place (λ (s : Spot). defines a s.variable ≡ true) spots k s (subst (AllByRecursion (λ (s : Spot). defines a s.variable ≡ true)) is its_defines) at;
    within = within;
  }

  -- the address of a variable that no one defines
  pub absent_address : (n : ℕ) (v : Variable) → slice_get a.variables n ≡ Some v → is_defined v ≡ false → address_in parts 0 v.name ≡ absent_leaf v.linkage
  absent_address n v at none =
      variable_address a well_formed valid n v at ∙ cond-false (is_defined v) (Ptr (pointer_to parts (symbol_of (its_entry v)))) (absent_leaf v.linkage) none

  -- ---- from spots

  module _ (spots : List Spot) (are : AreSpots a spots) where
    module _ (n : ℕ) (v : Variable) (at : slice_get a.variables n ≡ Some v) (is : is_defined v ≡ true) where
      abbrev block : ℕ
      block = length (filter is_defined (take n a.variables))

      row_at : slice_get (rooms parts) block ≡ Some (its_row v)
      row_at =
          ap (λ l. slice_get l block) (rooms_are a well_formed valid)
          ∙ slice_get-map its_row kept block ∙ ap (option_map its_row) (kept_at is_defined a.variables n v at is)

      -- its spot is there, and starts at its address
      pub spot_there : (k : ℕ) → k ≡ block → option_map {U = ℕ} (λ (s : Spot). s.start) (slice_get spots k) ≡ Some (unwrap_or (address parts (symbol_of (its_entry v))) 0)
      spot_there k e =
          sym (slice_get-map (λ (s : Spot). s.start) spots k) ∙ ap (λ l. slice_get l k) are.starts ∙ slice_get-map (λ (row : Row). unwrap_or (address parts row.0) 0) (rooms parts) k
          ∙ ap (λ i. option_map {U = ℕ} (λ (row : Row). unwrap_or (address parts row.0) 0) (slice_get (rooms parts) i)) e ∙ ap (option_map {U = ℕ} (λ (row : Row). unwrap_or (address parts row.0) 0)) row_at

      its_block : position (λ (row : Row). same_symbol (symbol_of (its_entry v)) row.0) (rooms parts) ≡ Some block
      its_block =
          row_place (rooms parts) block (its_row v) (subst AreUnlike (sym (rooms_are a well_formed valid)) rows_unlike) row_at

      -- the address of a variable is the start of its spot
      pub spot_address : (k : ℕ) (s : Spot) → k ≡ block → slice_get spots k ≡ Some s → address_in parts 0 v.name ≡ Ptr (record { block = Some k; address = s.start })
      spot_address k s e here =
          variable_address a well_formed valid n v at
          ∙ cond-true (is_defined v) (Ptr (pointer_to parts (symbol_of (its_entry v)))) (absent_leaf v.linkage) is
          ∙ (λ j. Ptr (record { block = blocks j; address = starts j }))
        where
          blocks : position (λ (row : Row). same_symbol (bind.behind parts (symbol_of (its_entry v))) row.0) (rooms parts) ≡ Some k
          blocks = ap (λ s. position (λ (row : Row). same_symbol s row.0) (rooms parts)) (variable_behind a well_formed valid n v at) ∙ its_block ∙ ap (λ i. Some i) (sym e)

          starts : unwrap_or (address parts (symbol_of (its_entry v))) 0 ≡ s.start
          starts = same_Some (unwrap_or (address parts (symbol_of (its_entry v))) 0) s.start (sym (spot_there k e) ∙ ap (option_map {U = ℕ} (λ (s : Spot). s.start)) here)

module _ (a : Lists) (spots : List Spot) (are : AreSpots a spots) where
  abbrev its_parts : List Module
  its_parts = module_of a ∷ []

  -- where a variable starts and ends
  pub bounds_told : (k : ℕ) → option_map bounds_of (slice_get spots k) ≡ variable_bounds its_parts k
  bounds_told k =
      go (slice_get spots k) (slice_get (rooms its_parts) k)
      (sym (slice_get-map (λ (s : Spot). s.start) spots k) ∙ ap (λ l. slice_get l k) are.starts ∙ slice_get-map (λ (row : Row). unwrap_or (address its_parts row.0) 0) (rooms its_parts) k)
      (sym (slice_get-map needs spots k) ∙ ap (λ l. slice_get l k) are.variables ∙ slice_get-map (plans.variable_of its_parts) (rooms its_parts) k)
    where
      go : (o : Option Spot) (r : Option Row) → option_map {U = ℕ} (λ (s : Spot). s.start) o ≡ option_map {U = ℕ} (λ (row : Row). unwrap_or (address its_parts row.0) 0) r → option_map needs o ≡ option_map (plans.variable_of its_parts) r
          → option_map bounds_of o ≡ option_map {U = ℕ × ℕ} (λ (row : Row). (unwrap_or (address its_parts row.0) 0, unwrap_or (address its_parts row.0) 0 + row.1.size)) r
      go None None p q = refl
      go None (Some r) p q = cc
      go (Some s) None p q = cc
      go (Some s) (Some r) p q =
          let start = same_Some s.start (unwrap_or (address its_parts r.0) 0) p in
          let sizes = ap (λ (x : plans.Variable). x.size) (same_Some (needs s) (plans.variable_of its_parts r) q) in
          (λ j. Some (start j, start j + sizes j))
