-- A module has few variables.
use Rattle.std.proofs.Common.{◌≡◌, ℕ, suc, ◌+◌, ◌≤◌, ◌^◌, List, [], ◌∷◌, ◌++◌, length, map, filter, filter_map, refl, ap, ◌∙◌, arith, Bool, true, false, not, ◌&&◌, cond, nat_le, Option, Some, None, leb-true}
use Rattle.std.specs.List.{cons_option}
use Rattle.std.specs.Option.{option_map}
use Rattle.std.proofs.lemmas.Bool.{and_parts}
use Rattle.module_arena.specs.Module.{Variable, Function, Alias, Module}
use Rattle.module_arena.specs.WellFormed.{count_for_aliases, alias_count, has_few_entries}
use Rattle.linkage_rules.specs.declared.symbol.Symbol.{Symbol}
use Rattle.linkage_rules.specs.Entries.{Entry, entries, same_symbol, symbol_of}
use Rattle.linkage_rules.specs.Globals.{OfVariable, OfFunction, OfAlias, globals, is_variable}
use Rattle.linkage_rules.specs.Lists.{firsts}
use Rattle.linkage_rules.specs.Addresses.{Room, room, rooms}
use Rattle.linkage_rules.specs.Symbols.{is_alias_symbol, first_entries, plain_entries, variable_symbols}
use Rattle.typed_runs.proofs.OnLook.Widths.{mapped_length}
use Rattle.typed_runs.proofs.OnPlan.Entries.{first_part}

-- ---- lists

made_long : {X Y : Type 0} (g : X → Option Y) (xs : List X) → length (filter_map g xs) ≤ length xs
made_long g [] = omega arith
made_long {X} {Y} g (x ∷ xs) = go (g x) (made_long g xs)
  where
    go : (o : Option Y) → length (filter_map g xs) ≤ length xs → length (cons_option o (filter_map g xs)) ≤ suc (length xs)
    go None le = omega (arith, le)
    go (Some y) le = omega (arith, le)

module _ {X : Type 0} (p : X → Bool) where
  -- how many pass
  abbrev count : List X → ℕ
  count xs = length (filter p xs)

  one_more : (b : Bool) (x : X) (xs ys : List X) → length xs ≤ length ys → length (cond b (x ∷ xs) xs) ≤ length (cond b (x ∷ ys) ys)
  one_more true x xs ys le = omega (arith, le)
  one_more false x xs ys le = le

  at_most_all : (xs : List X) → count xs ≤ length xs
  at_most_all [] = omega arith
  at_most_all (x ∷ xs) = go (p x) (at_most_all xs)
    where
      go : (b : Bool) → count xs ≤ length xs → length (cond b (x ∷ filter p xs) (filter p xs)) ≤ suc (length xs)
      go true le = omega (arith, le)
      go false le = omega (arith, le)

  fewer_kept : (q : X → Bool) (xs : List X) → count (filter q xs) ≤ count xs
  fewer_kept q [] = omega arith
  fewer_kept q (x ∷ xs) = go (q x) (fewer_kept q xs)
    where
      skipped : (b : Bool) (zs ys : List X) → length zs ≤ length ys → length zs ≤ length (cond b (x ∷ ys) ys)
      skipped true zs ys le = omega (arith, le)
      skipped false zs ys le = le

      go : (b : Bool) → count (filter q xs) ≤ count xs → count (cond b (x ∷ filter q xs) (filter q xs)) ≤ length (cond (p x) (x ∷ filter p xs) (filter p xs))
      go true le = one_more (p x) x (filter p (filter q xs)) (filter p xs) le
      go false le = skipped (p x) (filter p (filter q xs)) (filter p xs) le

  fewer_firsts : (same : X → X → Bool) (xs : List X) → count (firsts same xs) ≤ count xs
  fewer_firsts same [] = omega arith
  fewer_firsts same (x ∷ xs) =
      let kept = fewer_kept (λ y. not (same x y)) (firsts same xs) in
      let rest = fewer_firsts same xs in
      one_more (p x) x (filter p (filter (λ y. not (same x y)) (firsts same xs))) (filter p xs) (omega (arith, kept, rest))

  count_both : (xs ys : List X) → count (xs ++ ys) ≡ count xs + count ys
  count_both [] ys = omega arith
  count_both (x ∷ xs) ys = go (p x) (count_both xs ys)
    where
      go : (b : Bool) → count (xs ++ ys) ≡ count xs + count ys → length (cond b (x ∷ filter p (xs ++ ys)) (filter p (xs ++ ys))) ≡ length (cond b (x ∷ filter p xs) (filter p xs)) + count ys
      go true e = omega (arith, e)
      go false e = e

count_mapped : {X Y : Type 0} (g : X → Y) (p : Y → Bool) (xs : List X) → count p (map g xs) ≡ count (λ x. p (g x)) xs
count_mapped g p [] = refl
count_mapped {X = X} g p (x ∷ xs) = go (p (g x)) (count_mapped g p xs)
  where
    go : (b : Bool) → count p (map g xs) ≡ count (λ (x : X). p (g x)) xs → length (cond b (g x ∷ filter p (map g xs)) (filter p (map g xs))) ≡ length (cond b (x ∷ filter (λ (x : X). p (g x)) xs) (filter (λ (x : X). p (g x)) xs))
    go true e = ap suc e
    go false e = e

no_function : (fs : List Function) → count (λ (f : Function). is_variable (OfFunction f)) fs ≡ 0
no_function [] = refl
no_function (f ∷ fs) = no_function fs

-- ---- a module

module _ (m : Module) where
  abbrev parts : List Module
  parts = m ∷ []

  abbrev of_variable : Entry → Bool
  of_variable e = is_variable e.global

  entries_few : count of_variable (entries parts) ≤ length m.variables + length m.aliases
  entries_few =
      let first = count_both of_variable (map first_part (globals m)) [] in
      let second = count_mapped first_part of_variable (globals m) in
      let third = count_both is_variable (map OfVariable m.variables ++ map OfFunction m.functions) (map OfAlias m.aliases) in
      let fourth = count_both is_variable (map OfVariable m.variables) (map OfFunction m.functions) in
      let variables = at_most_all is_variable (map OfVariable m.variables) in
      let aliases = at_most_all is_variable (map OfAlias m.aliases) in
      let functions = count_mapped OfFunction is_variable m.functions ∙ no_function m.functions in
      let long_variables = mapped_length OfVariable m.variables in
      let long_aliases = mapped_length OfAlias m.aliases in
      omega (arith, first, second, third, fourth, variables, aliases, functions, long_variables, long_aliases)

  rooms_few : length (rooms parts) ≤ length m.variables + length m.aliases
  rooms_few =
      let made = made_long (λ (s : Symbol). option_map {U = Symbol × Room} (λ r. (s, r)) (room parts s)) (variable_symbols parts) in
      let symbols = mapped_length symbol_of (filter of_variable (plain_entries parts)) in
      let plain = fewer_kept of_variable (λ (e : Entry). not (is_alias_symbol parts (symbol_of e))) (first_entries parts) in
      let first = fewer_firsts of_variable (λ (d e : Entry). same_symbol (symbol_of d) (symbol_of e)) (entries parts) in
      let all = entries_few in
      omega (arith, made, symbols, plain, first, all)

  -- of the two lists
  both_few : (vs : List Variable) (fs : List Function) (as_ : List Alias) → length vs ≤ 262144 → count_for_aliases as_ vs fs ≤ 262144 → length vs + length as_ ≤ 262144
  both_few vs fs [] le few = omega (arith, le)
  both_few vs fs (a ∷ as_) le few = omega (arith, few)

  pub few_rooms : has_few_entries m ≡ true → length (rooms parts) ≤ 2 ^ 18
  few_rooms h =
      let p = and_parts (nat_le (length m.structs) 262144) (nat_le (length m.variables) 262144 && (nat_le (length m.functions) 262144 && nat_le (alias_count m) 262144)) h in
      let q = and_parts (nat_le (length m.variables) 262144) (nat_le (length m.functions) 262144 && nat_le (alias_count m) 262144) p.1 in
      let r = and_parts (nat_le (length m.functions) 262144) (nat_le (alias_count m) 262144) q.1 in
      let some = both_few m.variables m.functions m.aliases (leb-true (length m.variables) 262144 q.0) (leb-true (alias_count m) 262144 r.1) in
      let all = rooms_few in
      omega (arith, some, all)
