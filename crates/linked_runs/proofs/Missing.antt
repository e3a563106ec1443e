-- The same symbols are missing in the result: those that mean nothing, and are used.
use Rattle.std.proofs.Common.{◌≡◌, ℕ, Bool, true, false, ◌&&◌, ◌||◌, List, [], ◌∷◌, map, Option, Some, None, refl, sym, ap, ap₂, ◌∙◌, subst, option_map, option_to_list, flat_map, find}
use Rattle.std.specs.Prelude.{if◌then◌else◌, is_some}
use Rattle.std.specs.List.{list_any, AllByRecursion}
use Rattle.std.specs.Option.{option_map_or}
use Rattle.std.proofs.lemmas.Bool.{cond-true, cond-false, both_ways, and_parts}
use Rattle.std.proofs.lemmas.List.Folds.{list_any-append}
use Rattle.module_arena.specs.Module.{Bytes, Constant, Integer, Truth, Null, Undef, Poison, ZeroInitializer, Address, ByteString, Aggregate, ElementAddress, Cast, Binary, Square, Constants, no_constants, more_constants, Module}
use Rattle.module_arena.specs.UsedNames.{names_in_constant, names_in_constants}
use Rattle.linkage_rules.specs.Bind.{Definition, Appended, bound_to, behind_from, behind, target_of, own_meaning, meaning}
use Rattle.linkage_rules.specs.Contents.Contents.{ContentPiece, pieces_of_constants, elements_of, elements_in}
use Rattle.linkage_rules.specs.Entries.{Entry, same_symbol, symbol_of, symbol_in, entries, entries_of, symbol_name}
use Rattle.linkage_rules.specs.declared.symbol.Symbol.{Symbol}
use Rattle.linkage_rules.specs.declared.symbol.Symbol.TheVariants.{Shared, Local}
use Rattle.linkage_rules.specs.Globals.{Global, OfVariable, OfFunction, OfAlias, linkage_of}
use Rattle.linkage_rules.specs.Linkages.{is_appending}
use Rattle.linkage_rules.specs.Lists.{has}
use Rattle.linkage_rules.specs.Symbols.{symbols}
use Rattle.linkage_rules.specs.Winner.{definitions, is_definition, home}
use Rattle.link_rules.proofs.Symbols.{home_is, all_filter, symbols_have, local_home}
use Rattle.linkage_rules.proofs.Entries.{all_follow, all_passing}
use Rattle.link_rules.proofs.Apart.{at_has}
use Rattle.linkage_rules.specs.SymbolLaws.{symbol_self, symbol_exact}
use Rattle.link_rules.specs.Linked.{linked_constant, linked_pieces, linked_definition}
use Rattle.link_rules.specs.Rename.{new_global, new_name_of}
use Rattle.link_rules.specs.Structs.{new_struct}
use Rattle.run_rules.specs.Plan.{chosen_by, chosen_of, chosen, names_used, uses, is_unresolved, is_missing, first_missing}
use Rattle.link_rules.specs.Carried.{merged, IsSymbol, carry, moved}
use Rattle.link_rules.specs.Known.{KnownName}
use Rattle.linked_runs.proofs.Known.{IsKnown, IsList, AppendsLists, AppendAlike, names_in_pieces, Fit}
use Rattle.link_rules.specs.Merges.{Merges}
use Rattle.link_rules.proofs.Searches.{any_flat, any_map, find_name, all_both, at_all, all_front, all_back}
use Rattle.linked_runs.proofs.Contents.{all_flat}
use Rattle.linked_runs.proofs.NamesKept.{constant_names, body_names, initialiser_names}
use Rattle.linked_runs.proofs.Places.{all_symbols, behind_is}
use Rattle.linked_runs.proofs.SameNames.{meaning_path}

-- LISTS

pub or_false : (b : Bool) → (b || false) ≡ b
or_false true = refl
or_false false = refl

pub any_either : {A : Type 0} (p : A → Bool) (b : Bool) (xs : List A) → list_any p (if b then xs else xs) ≡ list_any p xs
any_either p true xs = refl
any_either p false xs = refl

pub flat_symbols : {A B : Type 0} (p : B → Bool) (q : B → Bool) (f g : A → List B) (new : A → A) (xs : List A) → AllByRecursion (λ x. list_any p (f (new x)) ≡ list_any q (g x)) xs → list_any p (flat_map f (map new xs)) ≡ list_any q (flat_map g xs)
flat_symbols p q f g new [] a = refl
flat_symbols p q f g new (x ∷ xs) a =
    list_any-append p (f (new x)) (flat_map f (map new xs)) ∙ ap₂ (λ b c. b || c) a.0 (flat_symbols p q f g new xs a.1) ∙ sym (list_any-append q (g x) (flat_map g xs))

-- MEANINGS

resolved_some : (parts : List Module) (t : Symbol) → is_some (home parts t) ≡ true → is_unresolved (own_meaning parts t) ≡ false
resolved_some parts t h = go (home parts t) h
  where
    by_test : (e : Entry) (b : Bool) → is_unresolved (if b then Appended t else Definition e) ≡ false
    by_test e true = refl
    by_test e false = refl

    go : (o : Option Entry) → is_some o ≡ true → is_unresolved (bound_to parts t o) ≡ false
    go None h = cc
    go (Some e) h = by_test e (is_appending (linkage_of e.global))

pub defined_resolved : (parts : List Module) (t : Symbol) (e : Entry) → is_unresolved (bound_to parts t (Some e)) ≡ false
defined_resolved parts t e = go (is_appending (linkage_of e.global))
  where
    go : (b : Bool) → is_unresolved (if b then Appended t else Definition e) ≡ false
    go true = refl
    go false = refl

module _ (parts : List Module) (fit : Fit parts) (merges : Merges parts) where
  unresolved_same : (s : Symbol) → IsSymbol parts s → is_unresolved (meaning (merged parts) (carry parts s)) ≡ is_unresolved (meaning parts s)
  unresolved_same s here = ap is_unresolved (meaning_path parts fit merges s here) ∙ by_home (home parts (behind parts s)) refl
    where
      by_home : (o : Option Entry) → home parts (behind parts s) ≡ o → is_unresolved (bound_to (merged parts) (carry parts (behind parts s)) (option_map (moved parts (behind parts s)) o)) ≡ is_unresolved (bound_to parts (behind parts s) o)
      by_home None h = ap is_unresolved (merges.undefined_same (behind parts s) (behind_is parts fit merges s here) h)
      by_home (Some e) h = defined_resolved (merged parts) (carry parts (behind parts s)) (moved parts (behind parts s) e) ∙ sym (defined_resolved parts (behind parts s) e)

  -- a part's own symbol means something
  pub local_resolved : (i : ℕ) (n : Bytes) → IsSymbol parts (Local i n) → is_unresolved (meaning parts (Local i n)) ≡ false
  local_resolved i n here = by_home (home parts (Local i n)) refl
    where
      there : has same_symbol (map symbol_of (entries parts)) (Local i n) ≡ true
      there = let found = at_has same_symbol symbol_self symbol_exact (symbols parts) (Local i n) here in at_all _ (symbols parts) found.0 (Local i n) (symbols_have parts) found.1

      by_global : (e : Entry) (j : ℕ) (g : Global) → home parts (Local i n) ≡ Some e → IsKnown parts j g → is_unresolved (own_meaning parts (target_of parts (Local i n) j g)) ≡ false
      by_global e j (OfVariable v) h known = resolved_some parts (Local i n) (ap is_some h)
      by_global e j (OfFunction f) h known = resolved_some parts (Local i n) (ap is_some h)
      by_global e j (OfAlias a) h known = resolved_some parts (symbol_in parts j a.target) known.1

      by_home : (o : Option Entry) → home parts (Local i n) ≡ o → is_unresolved (own_meaning parts (behind_from parts (Local i n) (home parts (Local i n)))) ≡ false
      by_home None h = absurd (local_home parts i n fit.together there h)
      by_home (Some e) h =
          ap (λ o. is_unresolved (own_meaning parts (behind_from parts (Local i n) o))) h
          ∙ by_global e e.part e.global h (home_is parts (λ d. IsKnown parts d.part d.global) (Local i n) e fit.known h).0.0

  -- USES

  module _ (s : Symbol) (here : IsSymbol parts s) where
    abbrev used_before : ℕ → Bytes → Bool
    used_before i name = same_symbol s (symbol_in parts i name)

    abbrev used_after : Bytes → Bool
    used_after name = same_symbol (carry parts s) (symbol_in (merged parts) 0 name)

    names_same : (i : ℕ) (names : List Bytes) → AllByRecursion (KnownName parts i) names → list_any used_after (map (new_global parts i) names) ≡ list_any (used_before i) names
    names_same i names known =
        any_map (new_global parts i) used_after (used_before i) names
        (all_follow _ _ names (λ name k. ap (same_symbol (carry parts s)) (merges.names i name k) ∙ merges.apart s (symbol_in parts i name) here k) known)

    constant_same : (i : ℕ) (c : Constant) → AllByRecursion (KnownName parts i) (names_in_constant c) → list_any used_after (names_in_constant (linked_constant parts i c)) ≡ list_any (used_before i) (names_in_constant c)
    constant_same i c known = ap (list_any used_after) (constant_names (new_struct parts i) (new_global parts i) c) ∙ names_same i (names_in_constant c) known

    -- one definition
    alone_same : (m : Bytes) (i : ℕ) (g : Global) (es : List Entry) → is_appending (linkage_of g) ≡ false → AllByRecursion (KnownName parts i) (names_used g)
        → list_any used_after (names_used (linked_definition parts m (record { part = i; global = g }) es g)) ≡ list_any (used_before i) (names_used g)
    alone_same m i (OfVariable v) es plain known =
        ap (λ c. list_any used_after (option_map_or names_in_constant c [])) (cond-false (is_appending v.linkage) (joined_initialiser_list) (option_map (linked_constant parts i) v.initialiser) plain)
        ∙ ap (list_any used_after) (initialiser_names (new_struct parts i) (new_global parts i) v.initialiser)
        ∙ names_same i (option_map_or names_in_constant v.initialiser []) known
      where
        joined_initialiser_list : Option Constant
        joined_initialiser_list = Some (Aggregate Square (linked_pieces parts (flat_map elements_in es)))
    alone_same m i (OfFunction f) es plain known = ap (list_any used_after) (body_names (new_struct parts i) (new_global parts i) f.body) ∙ names_same i (names_used (OfFunction f)) known
    alone_same m i (OfAlias a) es plain known = refl

    -- pieces behind each other
    abbrev piece_uses : ContentPiece → Bool
    piece_uses p = list_any (used_before p.part) (names_in_constant p.value)

    abbrev KnownNames : ContentPiece → Type 0
    KnownNames p = AllByRecursion (KnownName parts p.part) (names_in_constant p.value)

    pieces_used : (ps : List ContentPiece) → AllByRecursion KnownNames ps → list_any used_after (names_in_constants (linked_pieces parts ps)) ≡ list_any piece_uses ps
    pieces_used [] known = refl
    pieces_used (p ∷ ps) known =
        list_any-append used_after (names_in_constant (linked_constant parts p.part p.value)) (names_in_constants (linked_pieces parts ps))
        ∙ ap₂ (λ b c. b || c) (constant_same p.part p.value known.0) (pieces_used ps known.1)

    constants_used : (i : ℕ) (cs : Constants) → list_any piece_uses (pieces_of_constants i cs) ≡ list_any (used_before i) (names_in_pieces (pieces_of_constants i cs))
    constants_used i no_constants = refl
    constants_used i (more_constants t c cs) =
        ap (λ b. list_any (used_before i) (names_in_constant c) || b) (constants_used i cs)
        ∙ sym (list_any-append (used_before i) (names_in_constant c) (names_in_pieces (pieces_of_constants i cs)))

    elements_used : (i : ℕ) (c : Constant) → list_any piece_uses (elements_of i c) ≡ list_any (used_before i) (names_in_pieces (elements_of i c))
    elements_used i (Aggregate b cs) = constants_used i cs
    elements_used i (Integer n) = refl
    elements_used i (Truth b) = refl
    elements_used i Null = refl
    elements_used i Undef = refl
    elements_used i Poison = refl
    elements_used i ZeroInitializer = refl
    elements_used i (Address name) = refl
    elements_used i (ByteString bytes) = refl
    elements_used i (ElementAddress flags source operands) = refl
    elements_used i (Cast opcode from value to) = refl
    elements_used i (Binary opcode flags left_type left right_type right) = refl

    entry_used : (i : ℕ) (g : Global) → AppendsLists i g → is_appending (linkage_of g) ≡ true → list_any piece_uses (elements_in (record { part = i; global = g })) ≡ uses parts s (record { part = i; global = g })
    entry_used i (OfVariable v) lists appends = go v.initialiser (lists appends).1
      where
        go : (o : Option Constant) → IsList i o → list_any (piece_uses) (option_map_or (elements_of i) o []) ≡ list_any (used_before i) (option_map_or names_in_constant o [])
        go None h = refl
        go (Some c) h = elements_used i c ∙ ap (list_any (used_before i)) h
    entry_used i (OfFunction f) lists appends = absurd (both_ways (is_appending f.linkage) lists appends)
    entry_used i (OfAlias a) lists appends = absurd (both_ways (is_appending a.linkage) lists appends)

    constants_known : (i : ℕ) (cs : Constants) → AllByRecursion (KnownName parts i) (names_in_pieces (pieces_of_constants i cs)) → AllByRecursion KnownNames (pieces_of_constants i cs)
    constants_known i no_constants k = tt
    constants_known i (more_constants t c cs) k =
        (all_front _ (names_in_constant c) (names_in_pieces (pieces_of_constants i cs)) k, constants_known i cs (all_back _ (names_in_constant c) (names_in_pieces (pieces_of_constants i cs)) k))

    elements_known : (i : ℕ) (c : Constant) → AllByRecursion (KnownName parts i) (names_in_pieces (elements_of i c)) → AllByRecursion KnownNames (elements_of i c)
    elements_known i (Aggregate b cs) k = constants_known i cs k
    elements_known i (Integer n) k = tt
    elements_known i (Truth b) k = tt
    elements_known i Null k = tt
    elements_known i Undef k = tt
    elements_known i Poison k = tt
    elements_known i ZeroInitializer k = tt
    elements_known i (Address name) k = tt
    elements_known i (ByteString bytes) k = tt
    elements_known i (ElementAddress flags source operands) k = tt
    elements_known i (Cast opcode from value to) k = tt
    elements_known i (Binary opcode flags left_type left right_type right) k = tt

    entry_known : (i : ℕ) (g : Global) → AppendsLists i g → is_appending (linkage_of g) ≡ true → AllByRecursion (KnownName parts i) (names_used g) → AllByRecursion KnownNames (elements_in (record { part = i; global = g }))
    entry_known i (OfVariable v) lists appends known = go v.initialiser (lists appends).1 known
      where
        go : (o : Option Constant) → IsList i o → AllByRecursion (KnownName parts i) (option_map_or names_in_constant o []) → AllByRecursion (KnownNames) (option_map_or (elements_of i) o [])
        go None h k = tt
        go (Some c) h k = elements_known i c (subst (AllByRecursion (KnownName parts i)) (sym h) k)
    entry_known i (OfFunction f) lists appends known = tt
    entry_known i (OfAlias a) lists appends known = tt

    -- all definitions of an appended symbol
    abbrev Appends : Entry → Type 0
    Appends e = (AppendsLists e.part e.global × AllByRecursion (KnownName parts e.part) (names_used e.global)) × (is_appending (linkage_of e.global) ≡ true)

    entries_used : (es : List Entry) → AllByRecursion Appends es → list_any used_after (names_in_constants (linked_pieces parts (flat_map elements_in es))) ≡ list_any (uses parts s) es
    entries_used es all =
        pieces_used (flat_map elements_in es) (flat_known es all)
        ∙ any_flat piece_uses (uses parts s) elements_in es (all_follow Appends _ es (λ e a. entry_used e.part e.global a.0.0 a.1) all)
      where
        flat_known : (ds : List Entry) → AllByRecursion Appends ds → AllByRecursion KnownNames (flat_map elements_in ds)
        flat_known ds a = all_flat KnownNames elements_in ds (all_follow Appends _ ds (λ e x. entry_known e.part e.global x.0.0 x.1 x.0.1) a)

    appended_same : (m : Bytes) (i : ℕ) (g : Global) (es : List Entry) → is_appending (linkage_of g) ≡ true → AppendsLists i g → AllByRecursion Appends es
        → list_any used_after (names_used (linked_definition parts m (record { part = i; global = g }) es g)) ≡ list_any (uses parts s) es
    appended_same m i (OfVariable v) es appends lists all =
        ap (λ c. list_any used_after (option_map_or names_in_constant c [])) (cond-true (is_appending v.linkage) (Some (Aggregate Square (linked_pieces parts (flat_map elements_in es)))) (option_map (linked_constant parts i) v.initialiser) appends)
        ∙ entries_used es all
    appended_same m i (OfFunction f) es appends lists all = absurd (both_ways (is_appending f.linkage) lists appends)
    appended_same m i (OfAlias a) es appends lists all = absurd (both_ways (is_appending a.linkage) lists appends)

    -- the definitions of another symbol
    module _ (t : Symbol) (there : IsSymbol parts t) where
      all_append : (e : Entry) → home parts t ≡ Some e → is_appending (linkage_of e.global) ≡ true → AllByRecursion Appends (definitions parts t)
      all_append e h appends =
          let is = home_is parts (AppendAlike parts) t e fit.alike h in
          let all = all_passing _ (λ d. same_symbol t (symbol_of d)) (entries parts) (all_both _ _ (entries parts) (all_both _ _ (entries parts) fit.appended fit.names) is.0.0) in
          all_filter Appends is_definition (entries_of parts t)
          (all_follow _ Appends (entries_of parts t) (λ d a. (a.0.0, a.0.1 (subst (λ u. same_symbol u (symbol_of d) ≡ true) (symbol_exact t (symbol_of e) is.0.1) a.1) ∙ appends)) all)

      chosen_same : list_any (uses (merged parts) (carry parts s)) (chosen_of (merged parts) (carry parts t)) ≡ list_any (uses parts s) (chosen_of parts t)
      chosen_same =
          (λ k. list_any (uses (merged parts) (carry parts s)) (option_map_or (chosen_by (merges.defined_once t there k)) (merges.homes t there k) []))
          ∙ by_home (home parts t) refl
        where
          by_home : (o : Option Entry) → home parts t ≡ o
              → list_any (uses (merged parts) (carry parts s)) (option_map_or (chosen_by (option_to_list (option_map (moved parts t) o))) (option_map (moved parts t) o) []) ≡ list_any (uses parts s) (option_map_or (chosen_by (definitions parts t)) o [])
          by_home None h = refl
          by_home (Some e) h =
              any_either (uses (merged parts) (carry parts s)) (is_appending (linkage_of (moved parts t e).global)) (moved parts t e ∷ [])
              ∙ by_test (is_appending (linkage_of e.global)) refl
            where
              by_test : (b : Bool) → is_appending (linkage_of e.global) ≡ b → list_any (uses (merged parts) (carry parts s)) (moved parts t e ∷ []) ≡ list_any (uses parts s) (chosen_by (definitions parts t) e)
              by_test true a =
                  or_false (uses (merged parts) (carry parts s) (moved parts t e))
                  ∙ appended_same (new_name_of parts t) e.part e.global (definitions parts t) a (home_is parts (λ d. AppendsLists d.part d.global) t e fit.appended h).0.0 (all_append e h a)
                  ∙ sym (ap (list_any (uses parts s)) (cond-true (is_appending (linkage_of e.global)) (definitions parts t) (e ∷ []) a))
              by_test false a =
                  ap (λ b. b || false) (alone_same (new_name_of parts t) e.part e.global (definitions parts t) a (home_is parts (λ d. AllByRecursion (KnownName parts d.part) (names_used d.global)) t e fit.names h).0.0)
                  ∙ sym (ap (list_any (uses parts s)) (cond-false (is_appending (linkage_of e.global)) (definitions parts t) (e ∷ []) a))

    uses_same : list_any (uses (merged parts) (carry parts s)) (chosen (merged parts)) ≡ list_any (uses parts s) (chosen parts)
    uses_same =
        ap (λ ts. list_any (uses (merged parts) (carry parts s)) (flat_map (chosen_of (merged parts)) ts)) merges.all
        ∙ flat_symbols (uses (merged parts) (carry parts s)) (uses parts s) (chosen_of (merged parts)) (chosen_of parts) (carry parts) (symbols parts)
        (all_follow (IsSymbol parts) _ (symbols parts) (λ t there. chosen_same t there) (all_symbols parts))

    missing_same : is_missing (merged parts) (carry parts s) ≡ is_missing parts s
    missing_same = ap₂ (λ b c. b && c) (unresolved_same s here) uses_same

  same_name : (s : Symbol) → IsSymbol parts s → is_missing parts s ≡ true → symbol_name (carry parts s) ≡ symbol_name s
  same_name (Shared n) here missing = refl
  same_name (Local i n) here missing = absurd (both_ways (is_unresolved (meaning parts (Local i n))) (local_resolved i n here) (and_parts (is_unresolved (meaning parts (Local i n))) _ missing).0)

  pub first_missing_same : first_missing (merged parts) ≡ first_missing parts
  first_missing_same =
      ap (λ ss. option_map symbol_name (find (is_missing (merged parts)) ss)) merges.all
      ∙ find_name (carry parts) (is_missing (merged parts)) (is_missing parts) symbol_name symbol_name (symbols parts)
      (all_follow (IsSymbol parts) _ (symbols parts) missing_same (all_symbols parts))
      (all_follow (IsSymbol parts) _ (symbols parts) same_name (all_symbols parts))
