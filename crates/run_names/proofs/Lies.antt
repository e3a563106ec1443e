-- Where the functions of a valid module lie in a run of the module alone.
use Rattle.std.proofs.Common.{◌≡◌, ℕ, zero, suc, ◌+◌, ◌-◌, ◌*◌, ◌/◌, ◌%◌, ◌^◌, ◌≤◌, List, [], ◌∷◌, ◌++◌, map, length, true, false, not, ◌&&◌, ◌||◌, cond, nat_lt, nat_eq, Option, Some, None, refl, sym, ap, ◌∙◌, subst, arith, le-leb, eq-eqb}
use Rattle.std.specs.Prelude.{slice_get, position, unwrap_or, filter_map, if◌then◌else◌}
use Rattle.std.specs.List.{AllByRecursion, list_any, position_or_len, cons_option}
use Rattle.std.specs.Map.{lookup}
use Rattle.std.specs.Int.{next_multiple_of}
use Rattle.std.specs.Option.{option_map}
use Rattle.std.proofs.lemmas.Bool.{cond-true, cond-false, le-ltb, or_parts}
use Rattle.std.proofs.lemmas.Option.{same_Some}
use Rattle.module_arena.specs.declared.entry.Function as the_function
use Rattle.module_arena.specs.Lists.{Lists}
use Rattle.module_arena.specs.Module.{Module}
use Rattle.module_arena.specs.Valid.{IsValid}
use Rattle.module_arena.specs.View.{module_of}
use Rattle.module_arena.specs.WellFormed.{IsWellFormed}
use Rattle.linkage_rules.specs.declared.symbol.Symbol.{Symbol}
use Rattle.linkage_rules.specs.Entries.{Entry, same_symbol, symbol_of}
use Rattle.linkage_rules.specs.Globals.{OfFunction}
use Rattle.linkage_rules.specs.Addresses.{Room, room, rooms, place, placed_from, addressed_from, function_address}
use Rattle.linkage_rules.specs.SymbolLaws.{symbol_self}
use Rattle.linkage_rules.specs.Symbols.{function_symbols, variable_symbols}
use Rattle.run_rules.specs.Look.{function_number, pointer_to}
use Rattle.run_names.proofs.Apart.{AreApart, same_entry, turned}
use Rattle.run_names.proofs.Listed.{at_place, behind_at, front_at, mapped_at}
use Rattle.run_names.proofs.OneModule.{entry, module_apart, parted, variable_entries, function_entries, alias_entries, function_symbols_are, variable_symbols_are}
use Rattle.run_names.proofs.Meant.{pointer_behind, aliases_defined}
use Rattle.run_names.proofs.Arena.{function_seen, function_there, function_behind}

-- ---- numbers of functions

pub function_number_of : (k : ℕ) → function_number (function_address k) ≡ Some k
function_number_of k =
    let low : 2 ^ 62 ≤ 2 ^ 62 + 16 * k = omega arith in
    let gap : (2 ^ 62 + 16 * k) - 2 ^ 62 ≡ 16 * k = omega arith in
    let even : ((2 ^ 62 + 16 * k) - 2 ^ 62) % 16 ≡ 0 = omega (arith, gap) in
    let whole : ((2 ^ 62 + 16 * k) - 2 ^ 62) / 16 ≡ k = omega (arith, gap) in
    subst (λ t. (if t && nat_eq (((2 ^ 62 + 16 * k) - 2 ^ 62) % 16) 0 then Some (((2 ^ 62 + 16 * k) - 2 ^ 62) / 16) else None) ≡ Some k) (sym (le-leb (2 ^ 62) (2 ^ 62 + 16 * k) low))
    (subst (λ t. (if true && t then Some (((2 ^ 62 + 16 * k) - 2 ^ 62) / 16) else None) ≡ Some k) (sym (eq-eqb (((2 ^ 62 + 16 * k) - 2 ^ 62) % 16) 0 even)) (ap (λ (n : ℕ). Some n) whole))

-- ---- entries that are apart

pub front_apart : (xs ys : List Entry) → AreApart (xs ++ ys) → AreApart xs
front_apart [] ys h = tt
front_apart (x ∷ xs) ys h = (front xs h.0, front_apart xs ys h.1)
  where
    front : (zs : List Entry) → AllByRecursion (λ d. same_entry x d ≡ false) (zs ++ ys) → AllByRecursion (λ d. same_entry x d ≡ false) zs
    front [] h = tt
    front (z ∷ zs) h = (h.0, front zs h.1)

pub rest_apart : (xs ys : List Entry) → AreApart (xs ++ ys) → AreApart ys
rest_apart [] ys h = h
rest_apart (x ∷ xs) ys h = rest_apart xs ys h.1

-- no entry before it is of its symbol
pub none_before : (xs ys : List Entry) → AreApart (xs ++ ys) → (k : ℕ) (e : Entry) → slice_get ys k ≡ Some e → AllByRecursion (λ x. same_entry e x ≡ false) xs
none_before [] ys h k e at = tt
none_before (x ∷ xs) ys h k e at =
    let r = behind_at xs ys k e at in
    (turned x e (at_place (λ d. same_entry x d ≡ false) (xs ++ ys) r.0 e h.0 r.1), none_before xs ys h.1 k e at)

none_mapped : (s : Symbol) (xs : List Entry) → AllByRecursion (λ x. same_symbol s (symbol_of x) ≡ false) xs → list_any (same_symbol s) (map symbol_of xs) ≡ false
none_mapped s [] h = refl
none_mapped s (x ∷ xs) h = ap (λ b. b || list_any (same_symbol s) (map symbol_of xs)) h.0 ∙ none_mapped s xs h.1

-- ---- addresses

module _ (s : Symbol) where
  not_placed : (next : ℕ) (rows : List (Symbol × Room)) → list_any (same_symbol s) (map (λ row. row.0) rows) ≡ false → (others : List (Symbol × ℕ)) → lookup (same_symbol s) (placed_from next rows ++ others) ≡ lookup (same_symbol s) others
  not_placed next [] h others = refl
  not_placed next (row ∷ rows) h others =
      let p = or_parts (same_symbol s row.0) (list_any (same_symbol s) (map (λ (row : Symbol × Room). row.0) rows)) h in
      cond-false (same_symbol s row.0) (Some (next_multiple_of next row.1.alignment)) (lookup (same_symbol s) (placed_from (next_multiple_of next row.1.alignment + row.1.size + 16) rows ++ others)) p.0
      ∙ not_placed (next_multiple_of next row.1.alignment + row.1.size + 16) rows p.1 others

  none_roomed : (parts : List Module) (ss : List Symbol) → list_any (same_symbol s) ss ≡ false
      → list_any (same_symbol s) (map (λ (row : Symbol × Room). row.0) (filter_map (λ s. option_map {U = Symbol × Room} (λ r. (s, r)) (room parts s)) ss)) ≡ false
  none_roomed parts [] h = refl
  none_roomed parts (x ∷ ss) h = go (room parts x) (none_roomed parts ss parted_test.1)
    where
      parted_test : (same_symbol s x ≡ false) × (list_any (same_symbol s) ss ≡ false)
      parted_test = or_parts (same_symbol s x) (list_any (same_symbol s) ss) h

      others : List (Symbol × Room)
      others = filter_map (λ s. option_map {U = Symbol × Room} (λ r. (s, r)) (room parts s)) ss

      go : (o : Option Room) → list_any (same_symbol s) (map (λ (row : Symbol × Room). row.0) others) ≡ false
          → list_any (same_symbol s) (map (λ (row : Symbol × Room). row.0) (cons_option (option_map {U = Symbol × Room} (λ r. (x, r)) o) others)) ≡ false
      go None k = k
      go (Some r) k = ap (λ t. t || list_any (same_symbol s) (map (λ (row : Symbol × Room). row.0) others)) parted_test.0 ∙ k

  none_placed : (rows : List (Symbol × Room)) → list_any (same_symbol s) (map (λ row. row.0) rows) ≡ false → position_or_len (λ (row : Symbol × Room). same_symbol s row.0) rows ≡ length rows
  none_placed [] h = refl
  none_placed (row ∷ rows) h =
      let p = or_parts (same_symbol s row.0) (list_any (same_symbol s) (map (λ (row : Symbol × Room). row.0) rows)) h in
      let more = none_placed rows p.1 in
      ap (λ b. cond (not b) (1 + position_or_len (λ (row : Symbol × Room). same_symbol s row.0) rows) 0) p.0 ∙ omega (arith, more)

  no_place : (rows : List (Symbol × Room)) → list_any (same_symbol s) (map (λ row. row.0) rows) ≡ false → position (λ (row : Symbol × Room). same_symbol s row.0) rows ≡ None
  no_place rows h =
      let end = none_placed rows h in
      let past : length rows ≤ position_or_len (λ (row : Symbol × Room). same_symbol s row.0) rows = omega (arith, end) in
      cond-false (nat_lt (position_or_len (λ (row : Symbol × Room). same_symbol s row.0) rows) (length rows)) (Some (position_or_len (λ (row : Symbol × Room). same_symbol s row.0) rows)) None (le-ltb _ _ past)

pub addressed_at : (es : List Entry) (n k : ℕ) (e : Entry) → AreApart es → slice_get es k ≡ Some e → lookup (same_symbol (symbol_of e)) (addressed_from n (map symbol_of es)) ≡ Some (function_address (n + k))
addressed_at [] n k e h at = cc
addressed_at (x ∷ es) n zero e h at =
    let same : n ≡ n + 0 = omega arith in
    cond-true (same_entry e x) (Some (function_address n)) (lookup (same_symbol (symbol_of e)) (addressed_from (suc n) (map symbol_of es))) (ap (same_entry e) (same_Some x e at) ∙ symbol_self (symbol_of e))
    ∙ ap (λ (k : ℕ). Some (function_address k)) same
addressed_at (x ∷ es) n (suc k) e h at =
    let same : suc n + k ≡ n + suc k = omega arith in
    cond-false (same_entry e x) (Some (function_address n)) (lookup (same_symbol (symbol_of e)) (addressed_from (suc n) (map symbol_of es))) (turned x e (at_place (λ d. same_entry x d ≡ false) es k e h.0 at))
    ∙ addressed_at es (suc n) k e h.1 at ∙ ap (λ (k : ℕ). Some (function_address k)) same

module _ (a : Lists) (well_formed : IsWellFormed (module_of a)) (valid : IsValid (module_of a)) (n : ℕ) (f : the_function.Function) (at : slice_get a.functions n ≡ Some f) where
  abbrev m : Module
  m = module_of a

  abbrev parts : List Module
  parts = m ∷ []

  abbrev own : Entry
  own = entry (OfFunction (function_seen a f))

  abbrev s : Symbol
  s = symbol_of own

  all_apart : AreApart (variable_entries m ++ (function_entries m ++ alias_entries m))
  all_apart = subst AreApart (parted m) (module_apart m well_formed)

  at_entry : slice_get (function_entries m) n ≡ Some own
  at_entry = mapped_at entry (map OfFunction m.functions) n (OfFunction (function_seen a f)) (mapped_at OfFunction m.functions n (function_seen a f) (function_there a n f at))

  no_variable : list_any (same_symbol s) (map symbol_of (variable_entries m)) ≡ false
  no_variable =
      let r = front_of at_entry in
      none_mapped s (variable_entries m) (none_before (variable_entries m) (function_entries m ++ alias_entries m) all_apart n own r)
    where
      front_of : slice_get (function_entries m) n ≡ Some own → slice_get (function_entries m ++ alias_entries m) n ≡ Some own
      front_of h = front_at (function_entries m) (alias_entries m) n own h

  no_room : list_any (same_symbol s) (map (λ (row : Symbol × Room). row.0) (rooms parts)) ≡ false
  no_room = none_roomed s parts (variable_symbols parts) (ap (list_any (same_symbol s)) (variable_symbols_are m well_formed (aliases_defined m well_formed valid)) ∙ no_variable)

  lies : lookup (same_symbol s) (place parts) ≡ Some (function_address n)
  lies =
      let same : 0 + n ≡ n = omega arith in
      not_placed s 65536 (rooms parts) no_room (addressed_from 0 (function_symbols parts))
      ∙ ap (λ ss. lookup (same_symbol s) (addressed_from 0 ss)) (function_symbols_are m well_formed (aliases_defined m well_formed valid))
      ∙ addressed_at (function_entries m) 0 n own (front_apart (function_entries m) (alias_entries m) (rest_apart (variable_entries m) (function_entries m ++ alias_entries m) all_apart)) at_entry
      ∙ ap (λ (k : ℕ). Some (function_address k)) same

  -- a function has the address of its number, and no block
  pub function_pointer : pointer_to parts s ≡ record { block = None; address = function_address n }
  function_pointer =
      ap (pointer_behind parts) (function_behind a well_formed valid n f at)
      ∙ (λ j. record { block = no_place s (rooms parts) no_room j; address = ap (λ o. unwrap_or o 0) lies j })
