-- The first missing name of a valid module.
use Rattle.std.proofs.Common.{◌≡◌, ℕ, suc, List, [], ◌∷◌, ◌++◌, map, filter, Bool, true, false, ◌&&◌, ◌||◌, cond, bytes_eq, Option, Some, None, refl, sym, ap, ap₂, ◌∙◌, subst, true≢false, append_assoc}
use Rattle.std.specs.Prelude.{flat_map, slice_get, if◌then◌else◌}
use Rattle.std.specs.List.{AllByRecursion, find, list_any}
use Rattle.std.specs.Option.{option_map, option_map_or, option_or}
use Rattle.std.proofs.lemmas.List.Elements.{filter-append}
use Rattle.std.proofs.lemmas.List.Folds.{find-append, list_any-append}
use Rattle.std.proofs.lemmas.List.{map-append}
use Rattle.extract_rules.specs.Selected.{is_among}
use Rattle.linkage_rules.specs.Bind.{Bound, Definition, Appended, Host, Null, Unresolved, meaning}
use Rattle.linkage_rules.specs.declared.symbol.Symbol.{Symbol}
use Rattle.linkage_rules.specs.declared.symbol.Symbol.TheVariants.{Shared, Local}
use Rattle.linkage_rules.specs.Entries.{Entry, entries, same_symbol, symbol_in, symbol_name, symbol_of}
use Rattle.linkage_rules.specs.Globals.{OfAlias, OfFunction, OfVariable, is_alias, linkage_of}
use Rattle.linkage_rules.specs.Linkages.{is_appending}
use Rattle.linkage_rules.specs.Lists.{firsts, has}
use Rattle.linkage_rules.specs.SymbolLaws.{name_exact, name_self, symbol_exact, symbol_self}
use Rattle.linkage_rules.specs.Symbols.{alias_symbols, is_alias_symbol, symbols}
use Rattle.linkage_rules.specs.Winner.{is_definition}
use Rattle.module_arena.specs.Module.{Alias, Bytes, Function, Module, Variable}
use Rattle.module_arena.specs.UsedNames.{names_in_function, names_in_variable}
use Rattle.module_arena.specs.Valid.{IsValid}
use Rattle.module_arena.specs.WellFormed.{IsWellFormed}
use Rattle.run_rules.specs.Host.{is_poison}
use Rattle.run_rules.specs.Look.{address_in, leaf_of}
use Rattle.run_rules.specs.Plan.{chosen, chosen_by, chosen_of, first_missing, is_missing, is_unresolved, names_used, uses}
use Rattle.run_names.proofs.Apart.{AreApart, firsts_apart, own_entries, own_home, own_kind, same_entry}
use Rattle.run_names.proofs.Lies.{rest_apart}
use Rattle.run_names.proofs.Listed.{all_from_places, at_place}
use Rattle.run_names.proofs.Meant.{alias_address, aliases_defined, plain_means, target_is, target_symbol}
use Rattle.run_names.proofs.OneModule.{alias_entries, alias_in, entries_have, entry, function_entries, function_symbols_are, module_apart, name_of_symbol, parted, symbol_in_is, variable_entries, variable_symbols_are}
use Rattle.run_initial.specs.Missing.Used.{is_function_defined, is_lacking, is_variable_defined, used_names}
use Rattle.run_initial.proofs.OnMissing.Picked.{all_of_kind, all_symbols, any_defined, any_of_kind, any_same, find_named, find_none, named, names_of_kind, none_named, none_of_kind, of_kind}

-- a symbol that is looked up has the name that is
name_looked_up : (parts : List Module) (i : ℕ) (n : Bytes) → symbol_name (symbol_in parts i n) ≡ n
name_looked_up parts i n = go (has same_symbol (map symbol_of (entries parts)) (Local i n))
  where
    go : (b : Bool) → symbol_name (if b then Local i n else Shared n) ≡ n
    go true = refl
    go false = refl

-- the address of what means nothing is poison
unresolved_leaf : (parts : List Module) (s : Symbol) (b : Bound) → is_unresolved b ≡ is_poison (leaf_of parts s b)
unresolved_leaf parts s (Definition e) = refl
unresolved_leaf parts s (Appended symbol) = refl
unresolved_leaf parts s (Host name) = refl
unresolved_leaf parts s Null = refl
unresolved_leaf parts s Unresolved = refl

module _ (m : Module) (well_formed : IsWellFormed m) (valid : IsValid m) where
  abbrev parts : List Module
  parts = m ∷ []

  abbrev V : List Entry
  V = variable_entries m

  abbrev F : List Entry
  F = function_entries m

  abbrev A : List Entry
  A = alias_entries m

  apart : AreApart (entries parts)
  apart = module_apart m well_formed

  first_part : AllByRecursion (λ e. e.part ≡ 0) (entries parts)
  first_part = entries_have m (λ e. e.part ≡ 0) (λ k v at. refl) (λ k f at. refl) (λ k x at. refl)

  -- ---- the order of symbols

  aliases_apart : AreApart A
  aliases_apart = rest_apart F A (rest_apart V (F ++ A) (subst AreApart (parted m) apart))

  aliases_only : filter (λ (e : Entry). is_alias e.global) (entries parts) ≡ A
  aliases_only =
      let p = λ (e : Entry). is_alias e.global in
      ap (filter p) (parted m) ∙ filter-append p V (F ++ A) ∙ ap (λ l. l ++ filter p (F ++ A)) (none_of_kind p OfVariable (λ v. refl) m.variables)
      ∙ filter-append p F A ∙ ap (λ l. l ++ filter p A) (none_of_kind p OfFunction (λ f. refl) m.functions) ∙ all_of_kind p OfAlias (λ x. refl) m.aliases

  alias_symbols_are : alias_symbols parts ≡ map symbol_of A
  alias_symbols_are =
      ap (λ es. filter (is_alias_symbol parts) (map symbol_of (firsts same_entry es))) aliases_only
      ∙ ap (λ es. filter (is_alias_symbol parts) (map symbol_of es)) (firsts_apart A aliases_apart)
      ∙ all_symbols (is_alias_symbol parts) A
      (of_kind (λ e. is_alias_symbol parts (symbol_of e) ≡ true) OfAlias m.aliases
      (λ k x at.
      let r = alias_in m k x at in
      own_kind parts apart r.0 (entry (OfAlias x)) r.1 (at_place (λ (e : Entry). is_alias e.global ≡ true → is_definition e ≡ true) (entries parts) r.0 (entry (OfAlias x)) (aliases_defined m well_formed valid) r.1)))

  symbols_are : symbols parts ≡ map symbol_of (entries parts)
  symbols_are =
      let defined = aliases_defined m well_formed valid in
      ap₂ (λ vs fs. (vs ++ fs) ++ alias_symbols parts) (variable_symbols_are m well_formed defined) (function_symbols_are m well_formed defined)
      ∙ ap (λ xs. (map symbol_of V ++ map symbol_of F) ++ xs) alias_symbols_are ∙ append_assoc (map symbol_of V) (map symbol_of F) (map symbol_of A)
      ∙ ap (λ l. map symbol_of V ++ l) (sym (map-append symbol_of F A)) ∙ sym (map-append symbol_of V (F ++ A)) ∙ ap (map symbol_of) (sym (parted m))

  -- ---- definitions that a run has

  chosen_so : (k : ℕ) (e : Entry) → slice_get (entries parts) k ≡ Some e → chosen_of parts (symbol_of e) ≡ (if is_definition e then e ∷ [] else [])
  chosen_so k e at = ap₂ (λ es o. option_map_or (chosen_by (filter is_definition es)) o []) (own_entries parts apart k e at) (own_home parts apart k e at) ∙ go (is_definition e)
    where
      one : (b : Bool) → (if b then e ∷ [] else e ∷ []) ≡ e ∷ []
      one true = refl
      one false = refl

      go : (b : Bool) → option_map_or (chosen_by (cond b (e ∷ []) [])) (if b then Some e else None) [] ≡ (if b then e ∷ [] else [])
      go true = one (is_appending (linkage_of e.global))
      go false = refl

  or_none : (b : Bool) → (b || false) ≡ b
  or_none true = refl
  or_none false = refl

  any_chosen : (q : Entry → Bool) (es : List Entry) → AllByRecursion (λ e. chosen_of parts (symbol_of e) ≡ (if is_definition e then e ∷ [] else [])) es
      → list_any q (flat_map (chosen_of parts) (map symbol_of es)) ≡ list_any (λ e. is_definition e && q e) es
  any_chosen q [] h = refl
  any_chosen q (e ∷ es) h =
      ap (λ l. list_any q (l ++ flat_map (chosen_of parts) (map symbol_of es))) h.0 ∙ list_any-append q (if is_definition e then e ∷ [] else []) (flat_map (chosen_of parts) (map symbol_of es))
      ∙ ap₂ (λ a b. a || b) (go (is_definition e)) (any_chosen q es h.1)
    where
      go : (b : Bool) → list_any q (if b then e ∷ [] else []) ≡ (b && q e)
      go true = or_none (q e)
      go false = refl

  -- ---- names that are used

  same_name : (k : ℕ) (e : Entry) → slice_get (entries parts) k ≡ Some e → (n : Bytes) → same_symbol (symbol_of e) (symbol_in parts 0 n) ≡ bytes_eq (named e) n
  same_name k e at n = go (bytes_eq (named e) n) refl
    where
      own : symbol_in parts 0 (named e) ≡ symbol_of e
      own = symbol_in_is m well_formed k e at (at_place (λ (e : Entry). e.part ≡ 0) (entries parts) k e first_part at)

      other : (b : Bool) → same_symbol (symbol_of e) (symbol_in parts 0 n) ≡ b → bytes_eq (named e) n ≡ false → b ≡ false
      other false r q = refl
      other true r q =
          let same : named e ≡ n = sym (name_of_symbol e) ∙ ap symbol_name (symbol_exact (symbol_of e) (symbol_in parts 0 n) r) ∙ name_looked_up parts 0 n in
          absurd (true≢false (sym (name_self (named e)) ∙ ap (bytes_eq (named e)) same ∙ q))

      go : (b : Bool) → bytes_eq (named e) n ≡ b → same_symbol (symbol_of e) (symbol_in parts 0 n) ≡ b
      go true q = ap (λ x. same_symbol (symbol_of e) (symbol_in parts 0 x)) (sym (name_exact (named e) n q)) ∙ ap (same_symbol (symbol_of e)) own ∙ symbol_self (symbol_of e)
      go false q = other (same_symbol (symbol_of e) (symbol_in parts 0 n)) refl q

  uses_so : (k : ℕ) (e : Entry) → slice_get (entries parts) k ≡ Some e → (d : Entry) → d.part ≡ 0 → uses parts (symbol_of e) d ≡ is_among (names_used d.global) (named e)
  uses_so k e at d part =
      ap (λ i. list_any (λ name. same_symbol (symbol_of e) (symbol_in parts i name)) (names_used d.global)) part
      ∙ any_same (λ name. same_symbol (symbol_of e) (symbol_in parts 0 name)) (bytes_eq (named e)) (names_used d.global)
      (all_from_places (λ name. same_symbol (symbol_of e) (symbol_in parts 0 name) ≡ bytes_eq (named e) name) (names_used d.global) (λ j n here. same_name k e at n))

  -- the names in variables and functions are all
  names_by_kind : (n : Bytes) → list_any (λ (d : Entry). is_definition d && is_among (names_used d.global) n) (entries parts) ≡ is_among (used_names m) n
  names_by_kind n =
      ap (list_any p) (parted m) ∙ list_any-append p V (F ++ A)
      ∙ ap₂ (λ a b. a || b) (any_of_kind p OfVariable m.variables ∙ any_defined is_variable_defined names_in_variable n m.variables)
      (list_any-append p F A
      ∙ ap₂ (λ a b. a || b) (any_of_kind p OfFunction m.functions ∙ any_defined is_function_defined names_in_function n m.functions)
      (any_of_kind p OfAlias m.aliases ∙ none_named (λ x. is_definition (entry (OfAlias x))) m.aliases)
      ∙ or_none (is_among (flat_map names_in_function (filter is_function_defined m.functions)) n))
      ∙ sym (list_any-append (bytes_eq n) (flat_map names_in_variable (filter is_variable_defined m.variables)) (flat_map names_in_function (filter is_function_defined m.functions)))
    where
      p : Entry → Bool
      p = λ (d : Entry). is_definition d && is_among (names_used d.global) n

  used_so : (k : ℕ) (e : Entry) → slice_get (entries parts) k ≡ Some e → list_any (uses parts (symbol_of e)) (chosen parts) ≡ is_among (used_names m) (named e)
  used_so k e at =
      ap (λ ss. list_any (uses parts (symbol_of e)) (flat_map (chosen_of parts) ss)) symbols_are
      ∙ any_chosen (uses parts (symbol_of e)) (entries parts) (all_from_places (λ d. chosen_of parts (symbol_of d) ≡ (if is_definition d then d ∷ [] else [])) (entries parts) chosen_so)
      ∙ any_same (λ d. is_definition d && uses parts (symbol_of e) d) (λ d. is_definition d && is_among (names_used d.global) (named e)) (entries parts)
      (all_from_places (λ d. (is_definition d && uses parts (symbol_of e) d) ≡ (is_definition d && is_among (names_used d.global) (named e))) (entries parts)
      (λ j d here. ap (λ b. is_definition d && b) (uses_so k e at d (at_place (λ (e : Entry). e.part ≡ 0) (entries parts) j d first_part here))))
      ∙ names_by_kind (named e)

  unresolved_so : (k : ℕ) (e : Entry) → slice_get (entries parts) k ≡ Some e → is_unresolved (meaning parts (symbol_of e)) ≡ is_poison (address_in parts 0 (named e))
  unresolved_so k e at =
      let own = symbol_in_is m well_formed k e at (at_place (λ (e : Entry). e.part ≡ 0) (entries parts) k e first_part at) in
      unresolved_leaf parts (symbol_of e) (meaning parts (symbol_of e)) ∙ ap (λ s. is_poison (leaf_of parts s (meaning parts s))) (sym own)

  missing_so : (k : ℕ) (e : Entry) → slice_get (entries parts) k ≡ Some e → is_missing parts (symbol_of e) ≡ is_lacking m (named e)
  missing_so k e at = ap₂ (λ a b. a && b) (unresolved_so k e at) (used_so k e at)

  -- ---- aliases mean something

  alias_means : (k : ℕ) (x : Alias) → slice_get m.aliases k ≡ Some x → is_lacking m x.name ≡ false
  alias_means k x at = ap (λ b. b && is_among (used_names m) x.name) (ap is_poison (alias_address m well_formed valid k x at) ∙ target)
    where
      go : (s : Symbol) (b : Bool) (x y : Bound) → b ≡ true → is_poison (leaf_of parts s x) ≡ false → is_poison (leaf_of parts s (if b then x else y)) ≡ false
      go s true x y e h = h
      go s false x y e h = absurd (true≢false (sym e))

      defined : (s : Symbol) (e : Entry) (b : Bool) → is_poison (leaf_of parts s (if b then Appended s else Definition e)) ≡ false
      defined s e true = refl
      defined s e false = refl

      target : is_poison (address_in parts 0 x.target) ≡ false
      target =
          let t = target_is m well_formed valid k x at in
          ap (λ s. is_poison (leaf_of parts s (meaning parts s))) (target_symbol m well_formed valid x.target t)
          ∙ ap (λ b. is_poison (leaf_of parts (symbol_of t.one) b)) (plain_means parts apart t.place t.one t.at t.plain)
          ∙ go (symbol_of t.one) (is_definition t.one) _ _ t.defined (defined (symbol_of t.one) t.one (is_appending (linkage_of t.one.global)))

  no_alias : find (is_lacking m) (map named A) ≡ None
  no_alias = ap (find (is_lacking m)) (names_of_kind OfAlias m.aliases) ∙ find_none (is_lacking m) (map (λ (x : Alias). x.name) m.aliases) (along m.aliases (λ k x at. alias_means k x at))
    where
      along : (xs : List Alias) → ((k : ℕ) (x : Alias) → slice_get xs k ≡ Some x → is_lacking m x.name ≡ false) → AllByRecursion (λ n. is_lacking m n ≡ false) (map (λ (x : Alias). x.name) xs)
      along [] h = tt
      along (x ∷ xs) h = (h 0 x refl, along xs (λ k y e. h (suc k) y e))

  option_or_none : (o : Option Bytes) → option_or o None ≡ o
  option_or_none None = refl
  option_or_none (Some n) = refl

  -- ---- the first

  pub first_missing_is : first_missing parts ≡ option_or (find (is_lacking m) (map (λ (v : Variable). v.name) m.variables)) (find (is_lacking m) (map (λ (f : Function). f.name) m.functions))
  first_missing_is =
      ap (λ ss. option_map symbol_name (find (is_missing parts) ss)) symbols_are
      ∙ find_named (is_missing parts) (is_lacking m) (entries parts) (all_from_places (λ e. is_missing parts (symbol_of e) ≡ is_lacking m (named e)) (entries parts) missing_so)
      ∙ ap (λ es. find (is_lacking m) (map named es)) (parted m)
      ∙ ap (find (is_lacking m)) (map-append named V (F ++ A) ∙ ap (λ l. map named V ++ l) (map-append named F A))
      ∙ find-append (is_lacking m) (map named V) (map named F ++ map named A)
      ∙ ap₂ (λ a b. option_or (find (is_lacking m) a) b) (names_of_kind OfVariable m.variables)
      (find-append (is_lacking m) (map named F) (map named A)
      ∙ ap₂ (λ a b. option_or (find (is_lacking m) a) b) (names_of_kind OfFunction m.functions) no_alias
      ∙ option_or_none (find (is_lacking m) (map (λ (f : Function). f.name) m.functions)))
