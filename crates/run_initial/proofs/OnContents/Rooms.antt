-- The spots of a module's variables are the rooms of the definitions: which variable, where it lies, how long it is.
use Rattle.std.proofs.Common.{◌≡◌, ℕ, zero, suc, ◌≤◌, List, [], ◌∷◌, ◌++◌, map, filter, length, Bool, true, false, cond, Option, Some, None, refl, sym, ap, ◌∙◌, subst, arith}
use Rattle.std.specs.Prelude.{slice_get, filter_map, position, unwrap_or}
use Rattle.std.specs.List.{AllByRecursion, cons_option}
use Rattle.std.specs.Option.{option_map, option_map_or}
use Rattle.std.proofs.lemmas.Bool.{cond-true}
use Rattle.std.proofs.lemmas.List.{length-map}
use Rattle.std.proofs.lemmas.Option.{same_Some, slice_get-map, get_or_from_slice_get}
use Rattle.module_arena.specs.declared.entry.Variable.{Variable}
use Rattle.module_arena.specs.Lists.{Lists}
use Rattle.module_arena.specs.Module.{Module}
use Rattle.module_arena.specs.Valid.{IsValid}
use Rattle.module_arena.specs.View.{module_of}
use Rattle.module_arena.specs.WellFormed.{IsWellFormed}
use Rattle.linkage_rules.specs.Bind as bind
use Rattle.linkage_rules.specs.declared.symbol.Symbol.{Symbol}
use Rattle.linkage_rules.specs.Entries.{Entry, same_symbol, symbol_in, symbol_of}
use Rattle.linkage_rules.specs.Globals.{OfVariable}
use Rattle.linkage_rules.specs.Addresses.{Room, address, room, rooms}
use Rattle.linkage_rules.specs.Symbols.{variable_symbols}
use Rattle.run_rules.specs.Look.{pointer_to}
use Rattle.run_rules.specs.Plan as plans
use Rattle.run_names.specs.declared.spot.Spot.{Spot}
use Rattle.run_names.specs.Spots.{AreSpots, align_of, is_defined, needs, size_of, variable_symbol}
use Rattle.run_names.proofs.Apart.{AreApart, same_entry}
use Rattle.run_names.proofs.Arena as arena
use Rattle.run_names.proofs.Arena.{variable_behind, variable_seen, variables_are}
use Rattle.run_names.proofs.Lies.{front_apart}
use Rattle.run_names.proofs.Listed.{mapped_at}
use Rattle.run_names.proofs.OneModule.{alias_entries, entry, function_entries, module_apart, parted, variable_entries}
use Rattle.run_names.proofs.Put.{AreUnlike, Row, row_place}
use Rattle.run_names.proofs.Roomed.{entry_of, room_is, room_of, row_of, rooms_are}

-- a row that is there is of a symbol with that room
row_there : (parts : List Module) (ss : List Symbol) (k : ℕ) (r : Row) → slice_get (filter_map (λ s. option_map {U = Row} (λ x. (s, x)) (room parts s)) ss) k ≡ Some r → room parts r.0 ≡ Some r.1
row_there parts [] k r at = cc
row_there parts (s ∷ ss) k r at = go (room parts s) refl at (row_there parts ss)
  where
    rest : List Row
    rest = filter_map (λ s. option_map {U = Row} (λ x. (s, x)) (room parts s)) ss

    there : (x : Room) → room parts s ≡ Some x → (k : ℕ) → slice_get ((s, x) ∷ rest) k ≡ Some r → ((k : ℕ) (q : Row) → slice_get rest k ≡ Some q → room parts q.0 ≡ Some q.1) → room parts r.0 ≡ Some r.1
    there x e zero at more = subst (λ (q : Row). room parts q.0 ≡ Some q.1) (same_Some (s, x) r at) e
    there x e (suc k) at more = more k r at

    go : (o : Option Room) → room parts s ≡ o → slice_get (cons_option (option_map {U = Row} (λ x. (s, x)) o) rest) k ≡ Some r → ((k : ℕ) (q : Row) → slice_get rest k ≡ Some q → room parts q.0 ≡ Some q.1) → room parts r.0 ≡ Some r.1
    go None e at more = more k r at
    go (Some x) e at more = there x e k at more

filter_few : {A : Type 0} (p : A → Bool) (xs : List A) → length (filter p xs) ≤ length xs
filter_few p [] = omega arith
filter_few p (x ∷ xs) = go (p x) (filter_few p xs)
  where
    go : (b : Bool) → length (filter p xs) ≤ length xs → length (cond b (x ∷ filter p xs) (filter p xs)) ≤ suc (length xs)
    go true h = omega (arith, h)
    go false h = omega (arith, h)

from_mapped : {A B : Type 0} (f : A → B) (xs : List A) (k : ℕ) (y : B) → slice_get (map f xs) k ≡ Some y → (x : A) × (slice_get xs k ≡ Some x) × (f x ≡ y)
from_mapped f [] k y at = cc
from_mapped f (x ∷ xs) zero y at = (x, refl, same_Some (f x) y at)
from_mapped f (x ∷ xs) (suc k) y at = from_mapped f xs k y at

module _ (a : Lists) (well_formed : IsWellFormed (module_of a)) (valid : IsValid (module_of a)) where
  abbrev m : Module
  m = module_of a

  abbrev parts : List Module
  parts = m ∷ []

  abbrev its_entry : Variable → Entry
  its_entry v = entry_of a well_formed valid v

  abbrev its_row : Variable → Row
  its_row v = row_of a well_formed valid v

  -- ---- rows are unlike

  unlike_rows : (s : Entry) (vs : List Variable) → AllByRecursion (λ d. same_entry s d ≡ false) (map entry (map OfVariable (map (variable_seen a) vs)))
      → AllByRecursion (λ (q : Row). same_symbol (symbol_of s) q.0 ≡ false) (map its_row (filter is_defined vs))
  unlike_rows s [] h = tt
  unlike_rows s (v ∷ vs) h = go (is_defined v) (unlike_rows s vs h.1)
    where
      go : (b : Bool) → AllByRecursion (λ (q : Row). same_symbol (symbol_of s) q.0 ≡ false) (map its_row (filter is_defined vs)) → AllByRecursion (λ (q : Row). same_symbol (symbol_of s) q.0 ≡ false) (map its_row (cond b (v ∷ filter is_defined vs) (filter is_defined vs)))
      go true more = (h.0, more)
      go false more = more

  rows_apart : (vs : List Variable) → AreApart (map entry (map OfVariable (map (variable_seen a) vs))) → AreUnlike (map its_row (filter is_defined vs))
  rows_apart [] h = tt
  rows_apart (v ∷ vs) h = go (is_defined v) (rows_apart vs h.1)
    where
      go : (b : Bool) → AreUnlike (map its_row (filter is_defined vs)) → AreUnlike (map its_row (cond b (v ∷ filter is_defined vs) (filter is_defined vs)))
      go true more = (unlike_rows (its_entry v) vs h.0, more)
      go false more = more

  pub rooms_unlike : AreUnlike (rooms parts)
  rooms_unlike =
      subst AreUnlike (sym (rooms_are a well_formed valid))
      (rows_apart a.variables
      (subst (λ vs. AreApart (map entry (map OfVariable vs))) (variables_are a)
      (front_apart (variable_entries m) (function_entries m ++ alias_entries m) (subst AreApart (parted m) (module_apart m well_formed)))))

  -- ---- the row of a spot

  -- the variable of a spot is defined
  pub record IsOf (s : Spot) (v : Variable) : Type 0 where
    pub at : slice_get a.variables s.variable ≡ Some v
    pub is : is_defined v ≡ true

  its_name : (s : Spot) (v : Variable) → slice_get a.variables s.variable ≡ Some v → variable_symbol a s.variable ≡ symbol_of (its_entry v)
  its_name s v at =
      ap (symbol_in parts 0) (get_or_from_slice_get (map (λ (v : Variable). v.name) a.variables) s.variable v.name [] (slice_get-map (λ (v : Variable). v.name) a.variables s.variable ∙ ap (option_map (λ (v : Variable). v.name)) at))
      ∙ arena.variable_symbol a well_formed valid s.variable v at

  module _ (spots : List Spot) (are : AreSpots a spots) (k : ℕ) (s : Spot) (there : slice_get spots k ≡ Some s) where
    pub its_variable : (v : Variable) × IsOf s v
    its_variable = go (slice_get a.variables s.variable) refl (are.defined k s there)
      where
        go : (o : Option Variable) → slice_get a.variables s.variable ≡ o → option_map_or is_defined o false ≡ true → (v : Variable) × IsOf s v
        go None e h = cc
        go (Some v) e h = (v, record { at = e; is = h })

    module _ (v : Variable) (of : IsOf s v) where
      its_symbol : slice_get (map (λ (row : Row). row.0) (rooms parts)) k ≡ Some (symbol_of (its_entry v))
      its_symbol =
          ap (λ l. slice_get l k) (sym are.symbols) ∙ mapped_at (λ (s : Spot). variable_symbol a s.variable) spots k s there
          ∙ ap (λ (x : Symbol). Some x) (its_name s v of.at)

      -- its row, and that it is of the variable
      found : (r : Row) × (slice_get (rooms parts) k ≡ Some r) × (r.0 ≡ symbol_of (its_entry v))
      found = from_mapped (λ (row : Row). row.0) (rooms parts) k (symbol_of (its_entry v)) its_symbol

      pub row : Row
      row = found.0

      pub row_at : slice_get (rooms parts) k ≡ Some row
      unfolding row found
      row_at = found.1

      pub row_symbol : row.0 ≡ symbol_of (its_entry v)
      unfolding row found
      row_symbol = found.2

      row_behind : bind.behind parts row.0 ≡ row.0
      row_behind = ap (bind.behind parts) row_symbol ∙ variable_behind a well_formed valid s.variable v of.at ∙ sym row_symbol

      row_start : unwrap_or (address parts row.0) 0 ≡ s.start
      row_start =
          sym (same_Some s.start (unwrap_or (address parts row.0) 0)
          (sym (mapped_at (λ (s : Spot). s.start) spots k s there) ∙ ap (λ l. slice_get l k) are.starts ∙ mapped_at (λ (r : Row). unwrap_or (address parts r.0) 0) (rooms parts) k row row_at))

      -- the pointer to it
      pub pointer_is : pointer_to parts row.0 ≡ record { block = Some k; address = s.start }
      pointer_is =
          let block : position (λ (r : Row). same_symbol (bind.behind parts row.0) r.0) (rooms parts) ≡ Some k = ap (λ x. position (λ (r : Row). same_symbol x r.0) (rooms parts)) row_behind ∙ row_place (rooms parts) k row rooms_unlike row_at in
          (λ j. record { block = block j; address = row_start j })

      -- what it needs is told of the variable
      needs_are : needs s ≡ record { size = size_of a v; align = align_of a v; constant = (plans.variable_of parts row).constant }
      needs_are =
          let told : room parts row.0 ≡ Some row.1 = row_there parts (variable_symbols parts) k row row_at in
          let its : room parts row.0 ≡ Some (room_of a well_formed valid v) =
          ap (room parts) row_symbol ∙ room_is a well_formed valid s.variable v of.at ∙ cond-true (is_defined v) (Some (room_of a well_formed valid v)) None of.is in
          let same : row.1 ≡ room_of a well_formed valid v = same_Some row.1 (room_of a well_formed valid v) (sym told ∙ its) in
          let needed = same_Some (needs s) (plans.variable_of parts row) (sym (mapped_at needs spots k s there) ∙ ap (λ l. slice_get l k) are.variables ∙ mapped_at (plans.variable_of parts) (rooms parts) k row row_at) in
          needed ∙ (λ j. record { size = (same j).size; align = (same j).alignment; constant = (plans.variable_of parts row).constant })

      -- its bytes are those of the variable's type
      pub size_is : s.size ≡ size_of a v
      size_is = ap (λ (x : plans.Variable). x.size) needs_are

      pub align_is : s.align ≡ align_of a v
      align_is = ap (λ (x : plans.Variable). x.align) needs_are

  -- there are as many
  pub as_many : (spots : List Spot) → AreSpots a spots → length spots ≡ length (rooms parts)
  as_many spots are = sym (length-map spots needs) ∙ ap length are.variables ∙ length-map (rooms parts) (plans.variable_of parts)

  -- and no more than variables
  pub no_more : length (rooms parts) ≤ length a.variables
  no_more =
      let same = ap length (rooms_are a well_formed valid) ∙ length-map (filter is_defined a.variables) its_row in
      let few = filter_few is_defined a.variables in
      omega (arith, same, few)
