-- In valid parts that go together main lies where it is called.
use Rattle.std.proofs.Common.{◌≡◌, ℕ, zero, suc, ◌+◌, ◌-◌, ◌*◌, ◌/◌, ◌%◌, ◌^◌, ◌≤◌, List, [], ◌∷◌, ◌++◌, map, filter, filter_map, refl, sym, ap, ◌∙◌, subst, arith, Bool, true, false, not, ◌&&◌, ◌||◌, cond, nat_eq, Option, Some, None, true≢false, le-leb, eq-eqb}
use Rattle.std.specs.Prelude.{slice_get, ⊤, if◌then◌else◌}
use Rattle.std.specs.List.{AllByRecursion, list_any, position_or_len, cons_option}
use Rattle.std.specs.Map.{lookup}
use Rattle.std.specs.Int.{next_multiple_of}
use Rattle.std.specs.Option.{option_map, option_map_or}
use Rattle.linkage_rules.specs.declared.symbol.Symbol.{Symbol}
use Rattle.linkage_rules.specs.Entries.{Entry, same_symbol, symbol_of, entries, entries_from}
use Rattle.std.proofs.lemmas.Bool.{or_right, or_parts, not-true}
use Rattle.std.proofs.lemmas.Option.{same_Some}
use Rattle.ir_tables.specs.declared.linkage.Linkage.{Linkage}
use Rattle.ir_tables.specs.declared.linkage.Linkage.TheVariants.{Appending}
use Rattle.module_arena.specs.EntryRules as entry_rules
use Rattle.module_arena.specs.Module.{Function, Module}
use Rattle.module_arena.specs.Valid.{IsValid}
use Rattle.module_arena.proofs.Parts.{valid_function}
use Rattle.linkage_rules.specs.Linkages.{is_appending}
use Rattle.linkage_rules.specs.Globals.{Global, OfVariable, OfFunction, OfAlias, globals, linkage_of, is_variable, is_alias}
use Rattle.linkage_rules.proofs.Entries.{all_follow, firsts_map}
use Rattle.run_rules.proofs.OnPlaces.Together.{all_append, all_filter, all_firsts, home_is, AreOfKind, GoTogether}
use Rattle.linkage_rules.proofs.Lists.{has_firsts}
use Rattle.linkage_rules.specs.SymbolLaws.{symbol_self, symbol_exact}
use Rattle.linkage_rules.specs.Bind.{Appended, Definition, behind, behind_from, target_of, own_meaning, bound_to, meaning}
use Rattle.linkage_rules.specs.Symbols.{is_alias_symbol, first_entries, plain_entries, variable_symbols, function_symbols}
use Rattle.linkage_rules.specs.Winner.{home}
use Rattle.run_rules.specs.Calls.{Nothing}
use Rattle.run_rules.proofs.OnPlaces.Laid.{any_of_mapped}
use Rattle.run_rules.proofs.OnPlaces.Search.{IsFound, found_at}
use Rattle.run_rules.proofs.OnPlaces.Options.{none_some}
use Rattle.run_rules.proofs.OnPlaces.Parts.{AreValid, all_from_places}
use Rattle.linkage_rules.specs.Addresses.{Room, room, rooms, place, placed_from, addressed_from, function_address}
use Rattle.linkage_rules.proofs.Gathered.{all_mapped}
use Rattle.run_rules.specs.Look.{function_number, code_of, callee_by, callee_numbered, defined_by, table}

-- ---- lists

module _ {X : Type 0} (test p : X → Bool) where
  any_kept_of : (xs : List X) → AllByRecursion (λ x. test x ≡ true → p x ≡ true) xs → list_any test xs ≡ true → list_any test (filter p xs) ≡ true
  any_kept_of [] h k = k
  any_kept_of (x ∷ xs) h k = go (test x) refl (any_kept_of xs h.1)
    where
      go : (b : Bool) → test x ≡ b → (list_any test xs ≡ true → list_any test (filter p xs) ≡ true) → list_any test (filter p (x ∷ xs)) ≡ true
      go true e more = subst (λ t. list_any test (cond t (x ∷ filter p xs) (filter p xs)) ≡ true) (sym (h.0 e)) (ap (λ t. t || list_any test (filter p xs)) e)
      go false e more = either (p x) (more (ap (λ t. t || list_any test xs) (sym e) ∙ k))
        where
          either : (b : Bool) → list_any test (filter p xs) ≡ true → list_any test (cond b (x ∷ filter p xs) (filter p xs)) ≡ true
          either true m = ap (λ t. t || list_any test (filter p xs)) e ∙ m
          either false m = m

  none_kept_of : (xs : List X) → AllByRecursion (λ x. test x ≡ true → p x ≡ false) xs → list_any test (filter p xs) ≡ false
  none_kept_of [] h = refl
  none_kept_of (x ∷ xs) h = go (p x) refl (test x) refl (none_kept_of xs h.1)
    where
      go : (b : Bool) → p x ≡ b → (c : Bool) → test x ≡ c → list_any test (filter p xs) ≡ false → list_any test (cond b (x ∷ filter p xs) (filter p xs)) ≡ false
      go false e c q m = m
      go true e false q m = ap (λ t. t || list_any test (filter p xs)) q ∙ m
      go true e true q m = absurd (true≢false (sym e ∙ h.0 q))

-- ---- addresses

function_number_of : (k : ℕ) → function_number (function_address k) ≡ Some k
function_number_of k =
    let low : 2 ^ 62 ≤ 2 ^ 62 + 16 * k = omega arith in
    let gap : (2 ^ 62 + 16 * k) - 2 ^ 62 ≡ 16 * k = omega arith in
    let even : ((2 ^ 62 + 16 * k) - 2 ^ 62) % 16 ≡ 0 = omega (arith, gap) in
    let whole : ((2 ^ 62 + 16 * k) - 2 ^ 62) / 16 ≡ k = omega (arith, gap) in
    subst (λ t. (if t && nat_eq (((2 ^ 62 + 16 * k) - 2 ^ 62) % 16) 0 then Some (((2 ^ 62 + 16 * k) - 2 ^ 62) / 16) else None) ≡ Some k) (sym (le-leb (2 ^ 62) (2 ^ 62 + 16 * k) low))
    (subst (λ t. (if true && t then Some (((2 ^ 62 + 16 * k) - 2 ^ 62) / 16) else None) ≡ Some k) (sym (eq-eqb (((2 ^ 62 + 16 * k) - 2 ^ 62) % 16) 0 even)) (ap (λ (n : ℕ). Some n) whole))

module _ (s : Symbol) where
  not_placed : (next : ℕ) (rows : List (Symbol × Room)) → list_any (same_symbol s) (map (λ row. row.0) rows) ≡ false → (others : List (Symbol × ℕ)) → lookup (same_symbol s) (placed_from next rows ++ others) ≡ lookup (same_symbol s) others
  not_placed next [] h others = refl
  not_placed next (row ∷ rows) h others = go (same_symbol s row.0) refl (λ k. not_placed (next_multiple_of next row.1.alignment + row.1.size + 16) rows k others)
    where
      after : ℕ
      after = next_multiple_of next row.1.alignment + row.1.size + 16

      go : (b : Bool) → same_symbol s row.0 ≡ b → (list_any (same_symbol s) (map (λ (row : Symbol × Room). row.0) rows) ≡ false → lookup (same_symbol s) (placed_from after rows ++ others) ≡ lookup (same_symbol s) others)
          → cond b (Some (next_multiple_of next row.1.alignment)) (lookup (same_symbol s) (placed_from after rows ++ others)) ≡ lookup (same_symbol s) others
      go true e more = absurd (true≢false (sym (ap (λ t. t || list_any (same_symbol s) (map (λ (row : Symbol × Room). row.0) rows)) e) ∙ h))
      go false e more = more (sym (ap (λ t. t || list_any (same_symbol s) (map (λ (row : Symbol × Room). row.0) rows)) e) ∙ h)

  addressed : (n : ℕ) (ss : List Symbol) → list_any (same_symbol s) ss ≡ true → lookup (same_symbol s) (addressed_from n ss) ≡ Some (function_address (n + position_or_len (same_symbol s) ss))
  addressed n [] h = absurd (true≢false (sym h))
  addressed n (x ∷ ss) h = go (same_symbol s x) refl (addressed (suc n) ss)
    where
      go : (b : Bool) → same_symbol s x ≡ b → (list_any (same_symbol s) ss ≡ true → lookup (same_symbol s) (addressed_from (suc n) ss) ≡ Some (function_address (suc n + position_or_len (same_symbol s) ss)))
          → cond b (Some (function_address n)) (lookup (same_symbol s) (addressed_from (suc n) ss)) ≡ Some (function_address (n + cond (not b) (1 + position_or_len (same_symbol s) ss) 0))
      go true e more = let same : n ≡ n + 0 = omega arith in ap (λ (k : ℕ). Some (function_address k)) same
      go false e more =
          let same : suc n + position_or_len (same_symbol s) ss ≡ n + (1 + position_or_len (same_symbol s) ss) = omega arith in
          more (ap (λ t. t || list_any (same_symbol s) ss) (sym e) ∙ h) ∙ ap (λ (k : ℕ). Some (function_address k)) same

-- ---- functions of valid parts

abbrev pub OnFunction : (Function → Type 0) → Global → Type 0
OnFunction Q (OfVariable v) = ⊤
OnFunction Q (OfFunction f) = Q f
OnFunction Q (OfAlias a) = ⊤

pub functions_all : (Q : Function → Type 0) → ((m : Module) (n : ℕ) (f : Function) → IsValid m → slice_get m.functions n ≡ Some f → Q f) → (i : ℕ) (ms : List Module) → AreValid ms
    → AllByRecursion (λ (e : Entry). OnFunction Q e.global) (entries_from i ms)
functions_all Q h i [] v = tt
functions_all Q h i (m ∷ ms) v =
    all_append (λ (e : Entry). OnFunction Q e.global) (map (λ g. record { part = i; global = g }) (globals m)) (entries_from (suc i) ms)
    (all_mapped (λ (e : Entry). OnFunction Q e.global) (λ g. record { part = i; global = g }) (globals m)
    (all_append (OnFunction Q) (map OfVariable m.variables ++ map OfFunction m.functions) (map OfAlias m.aliases)
    (all_append (OnFunction Q) (map OfVariable m.variables) (map OfFunction m.functions)
    (all_mapped (OnFunction Q) OfVariable m.variables (all_from_places (λ x. ⊤) m.variables (λ k x e. tt)))
    (all_mapped (OnFunction Q) OfFunction m.functions (all_from_places Q m.functions (λ k f e. h m k f (v 0 m refl).1 e))))
    (all_mapped (OnFunction Q) OfAlias m.aliases (all_from_places (λ x. ⊤) m.aliases (λ k x e. tt)))))
    (functions_all Q h (suc i) ms (λ k x e. v (suc k) x e))

same_appending : (l : Linkage) → entry_rules.is_appending l ≡ is_appending l
same_appending Appending = refl
same_appending _ = refl

no_function_appends : (m : Module) (n : ℕ) (f : Function) → IsValid m → slice_get m.functions n ≡ Some f → is_appending f.linkage ≡ false
no_function_appends m n f v e = sym (same_appending f.linkage) ∙ not-true (entry_rules.is_appending f.linkage) (valid_function m n f v e).1.1.0

any_there : {X Y : Type 0} (test : Y → Bool) (g : X → Y) (xs : List X) (k : ℕ) (x : X) → slice_get xs k ≡ Some x → test (g x) ≡ true → list_any test (map g xs) ≡ true
any_there test g [] k x e h = none_some x e
any_there test g (y ∷ ys) zero x e h = ap (λ t. t || list_any test (map g ys)) (ap (λ z. test (g z)) (same_Some y x e) ∙ h)
any_there test g (y ∷ ys) (suc k) x e h = or_right (test (g y)) (list_any test (map g ys)) (any_there test g ys k x e h)

none_roomed : (parts : List Module) (test : Symbol → Bool) (ss : List Symbol) → list_any test ss ≡ false
    → list_any test (map (λ (row : Symbol × Room). row.0) (filter_map (λ s. option_map {U = Symbol × Room} (λ r. (s, r)) (room parts s)) ss)) ≡ false
none_roomed parts test [] h = refl
none_roomed parts test (x ∷ ss) h = go (room parts x) (none_roomed parts test ss parted.1)
  where
    parted : (test x ≡ false) × (list_any test ss ≡ false)
    parted = or_parts (test x) (list_any test ss) h

    others : List (Symbol × Room)
    others = filter_map (λ s. option_map {U = Symbol × Room} (λ r. (s, r)) (room parts s)) ss

    go : (o : Option Room) → list_any test (map (λ (row : Symbol × Room). row.0) others) ≡ false → list_any test (map (λ (row : Symbol × Room). row.0) (cons_option (option_map {U = Symbol × Room} (λ r. (x, r)) o) others)) ≡ false
    go None k = k
    go (Some r) k = ap (λ t. t || list_any test (map (λ (row : Symbol × Room). row.0) others)) parted.0 ∙ k

-- ---- a symbol that a function is the home of

module _ (parts : List Module) (valid : AreValid parts) (together : GoTogether parts) (s : Symbol) (e : Entry) (f : Function) (at_home : home parts s ≡ Some e) (is : e.global ≡ OfFunction f) where
  abbrev of_symbol : Entry → Bool
  of_symbol x = same_symbol s (symbol_of x)

  same_here : (x : Entry) → of_symbol x ≡ true → s ≡ symbol_of x
  same_here x h = symbol_exact s (symbol_of x) h

  its_symbol : s ≡ symbol_of e
  its_symbol = same_here e (home_is parts (λ x. ⊤) s e (all_from_places (λ x. ⊤) (entries parts) (λ k x q. tt)) at_home).0.1

  no_variable : AllByRecursion (λ x. of_symbol x ≡ true → is_variable x.global ≡ false) (entries parts)
  no_variable =
      all_follow (λ x. AreOfKind parts (is_variable x.global) (symbol_of x)) (λ x. of_symbol x ≡ true → is_variable x.global ≡ false) (entries parts)
      (λ x k q.
      let kind = (home_is parts (λ y. same_symbol (symbol_of x) (symbol_of y) ≡ true → is_variable y.global ≡ is_variable x.global) s e k at_home).0.0 in
      sym (kind (subst (λ z. same_symbol z (symbol_of e) ≡ true) (same_here x q) (subst (λ z. same_symbol s z ≡ true) its_symbol (symbol_self s)))) ∙ ap is_variable is)
      together.kinds

  no_alias : is_alias_symbol parts s ≡ false
  no_alias = ap (λ (o : Option Entry). option_map_or (λ e. is_alias e.global) o false) at_home ∙ ap is_alias is

  has_entries : list_any (same_symbol s) (map symbol_of (entries parts)) ≡ true
  has_entries =
      let own = home_is parts (λ x. list_any (same_symbol (symbol_of x)) (map symbol_of (entries parts)) ≡ true) s e
      (all_from_places (λ x. list_any (same_symbol (symbol_of x)) (map symbol_of (entries parts)) ≡ true) (entries parts)
      (λ k x q. any_there (same_symbol (symbol_of x)) symbol_of (entries parts) k x q (symbol_self (symbol_of x)))) at_home in
      subst (λ z. list_any (same_symbol z) (map symbol_of (entries parts)) ≡ true) (sym its_symbol) own.0.0

  is_first : list_any of_symbol (first_entries parts) ≡ true
  is_first =
      sym (any_of_mapped (same_symbol s) symbol_of (first_entries parts))
      ∙ ap (list_any (same_symbol s)) (firsts_map symbol_of same_symbol (entries parts))
      ∙ has_firsts same_symbol symbol_self symbol_exact (map symbol_of (entries parts)) s has_entries

  is_plain : list_any of_symbol (plain_entries parts) ≡ true
  is_plain =
      any_kept_of of_symbol (λ x. not (is_alias_symbol parts (symbol_of x))) (first_entries parts)
      (all_from_places (λ x. of_symbol x ≡ true → not (is_alias_symbol parts (symbol_of x)) ≡ true) (first_entries parts) (λ k x q h. ap not (ap (is_alias_symbol parts) (sym (same_here x h)) ∙ no_alias)))
      is_first

  plain_kinds : (Q : Entry → Type 0) → AllByRecursion Q (entries parts) → AllByRecursion Q (plain_entries parts)
  plain_kinds Q h = all_filter Q (λ x. not (is_alias_symbol parts (symbol_of x))) (first_entries parts) (all_firsts Q (λ d e. same_symbol (symbol_of d) (symbol_of e)) (entries parts) h)

  among_functions : list_any (same_symbol s) (function_symbols parts) ≡ true
  among_functions =
      any_of_mapped (same_symbol s) symbol_of (filter (λ x. not (is_variable x.global)) (plain_entries parts))
      ∙ any_kept_of of_symbol (λ x. not (is_variable x.global)) (plain_entries parts)
      (plain_kinds (λ x. of_symbol x ≡ true → not (is_variable x.global) ≡ true) (all_follow (λ x. of_symbol x ≡ true → is_variable x.global ≡ false) (λ x. of_symbol x ≡ true → not (is_variable x.global) ≡ true) (entries parts) (λ x h q. ap not (h q)) no_variable))
      is_plain

  not_among_variables : list_any (same_symbol s) (variable_symbols parts) ≡ false
  not_among_variables =
      any_of_mapped (same_symbol s) symbol_of (filter (λ x. is_variable x.global) (plain_entries parts))
      ∙ none_kept_of of_symbol (λ x. is_variable x.global) (plain_entries parts) (plain_kinds (λ x. of_symbol x ≡ true → is_variable x.global ≡ false) no_variable)

  abbrev pub number : ℕ
  number = position_or_len (same_symbol s) (function_symbols parts)

  pub has_address : lookup (same_symbol s) (place parts) ≡ Some (function_address number)
  has_address =
      not_placed s 65536 (rooms parts) (none_roomed parts (same_symbol s) (variable_symbols parts) not_among_variables) (addressed_from 0 (function_symbols parts))
      ∙ addressed s 0 (function_symbols parts) among_functions
      ∙ (let same : 0 + number ≡ number = omega arith in ap (λ (k : ℕ). Some (function_address k)) same)

  no_append : is_appending (linkage_of e.global) ≡ false
  no_append =
      let own = (home_is parts (λ (x : Entry). OnFunction (λ f. is_appending f.linkage ≡ false) x.global) s e (functions_all (λ f. is_appending f.linkage ≡ false) no_function_appends 0 parts valid) at_home).0.0 in
      ap (λ g. is_appending (linkage_of g)) is ∙ subst (OnFunction (λ f. is_appending f.linkage ≡ false)) is own

  behind_itself : behind parts s ≡ s
  behind_itself = ap (behind_from parts s) at_home ∙ ap (target_of parts s e.part) is

  means : meaning parts s ≡ Definition e
  means = ap (own_meaning parts) behind_itself ∙ ap (bound_to parts s) at_home ∙ ap (λ t. if t then Appended s else Definition e) no_append

  pub has_code : table parts (function_address number) ≡ code_of parts number (e.part, f)
  has_code =
      let r : IsFound (same_symbol s) (function_symbols parts) = found_at (same_symbol s) (function_symbols parts) among_functions in
      let one : r.one ≡ s = sym (symbol_exact s r.one r.passes) in
      ap (λ o. option_map_or (callee_numbered parts) o Nothing) (function_number_of number)
      ∙ ap (λ o. option_map_or (λ x. callee_by parts number (meaning parts x)) o Nothing) (r.stands ∙ ap (λ (x : Symbol). Some x) one)
      ∙ ap (callee_by parts number) means
      ∙ ap (λ g. option_map_or (code_of parts number) (defined_by e g) Nothing) is
