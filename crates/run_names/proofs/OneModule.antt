-- The entries of one module alone, and its symbols.
use Rattle.std.proofs.Common.{◌≡◌, ℕ, zero, suc, List, [], ◌∷◌, ◌++◌, map, filter, Bool, true, false, not, ◌||◌, refl, sym, ap, ap₂, ◌∙◌, subst, append-nil, append_assoc, bytes_eq, true≢false, Some}
use Rattle.std.specs.Prelude.{slice_get, if◌then◌else◌}
use Rattle.std.specs.List.{AllByRecursion, list_all, list_any}
use Rattle.std.proofs.lemmas.Bool.{and_parts, cond-true, cond-false}
use Rattle.std.proofs.lemmas.List.{map-append}
use Rattle.std.proofs.lemmas.Option.{same_Some}
use Rattle.std.proofs.lemmas.Map.Keys.{any_passes_from_place}
use Rattle.std.proofs.lemmas.List.Elements.{filter-append}
use Rattle.linkage_rules.proofs.Gathered.{all_joined}
use Rattle.ir_tables.specs.Table.{is_distinct}
use Rattle.ir_tables.specs.declared.linkage.Linkage.{Linkage}
use Rattle.ir_tables.specs.declared.linkage.Linkage.TheVariants.{External, Private, Internal}
use Rattle.module_arena.specs.Names.{is_name}
use Rattle.module_arena.specs.Functions.{variable_names, alias_names, function_names}
use Rattle.module_arena.specs.EntryRules.{is_lasting}
use Rattle.module_arena.specs.Module.{Bytes, Variable, Alias, Function, Module}
use Rattle.module_arena.specs.WellFormed.{IsWellFormed, global_names}
use Rattle.linkage_rules.specs.declared.symbol.Symbol.TheVariants.{Shared, Local}
use Rattle.linkage_rules.specs.Entries.{Entry, entries, same_symbol, symbol_in, symbol_name, symbol_of}
use Rattle.linkage_rules.specs.Globals.{Global, OfVariable, OfFunction, OfAlias, globals, name_of, linkage_of, is_alias, is_variable}
use Rattle.linkage_rules.specs.Linkages.{is_local, is_available_externally}
use Rattle.linkage_rules.specs.SymbolLaws.{name_self, name_exact, symbol_exact, symbol_self}
use Rattle.linkage_rules.specs.Symbols.{function_symbols, is_alias_symbol, plain_entries, variable_symbols}
use Rattle.linkage_rules.specs.Winner.{is_definition}
use Rattle.run_names.proofs.Listed.{all_from_places, at_place, none_there, front_at, behind_at, mapped_at}
use Rattle.run_names.proofs.Apart.{AreApart, same_entry, all_first, own_kind, same_filter}
use Rattle.run_names.proofs.Distinct.{Distinct, distinct_is, reordered}

-- the entry of the only part
abbrev pub entry : Global → Entry
entry g = record { part = 0; global = g }

name_turned : (m n : Bytes) → bytes_eq m n ≡ false → bytes_eq n m ≡ false
name_turned m n h = go (bytes_eq n m) refl
  where
    never : bytes_eq m m ≡ false → ⊥
    never f = true≢false (sym (name_self m) ∙ f)

    go : (b : Bool) → bytes_eq n m ≡ b → bytes_eq n m ≡ false
    go false q = q
    go true q = absurd (never (subst (λ x. bytes_eq m x ≡ false) (name_exact n m q) h))

pub name_of_symbol : (e : Entry) → symbol_name (symbol_of e) ≡ name_of e.global
name_of_symbol e = go (is_local (linkage_of e.global))
  where
    go : (b : Bool) → symbol_name (if b then Local e.part (name_of e.global) else Shared (name_of e.global)) ≡ name_of e.global
    go true = refl
    go false = refl

-- entries of unlike names have unlike symbols
unlike : (d e : Entry) → bytes_eq (name_of d.global) (name_of e.global) ≡ false → same_entry d e ≡ false
unlike d e h = go (same_entry d e) refl
  where
    never : bytes_eq (name_of d.global) (name_of d.global) ≡ false → ⊥
    never f = true≢false (sym (name_self (name_of d.global)) ∙ f)

    go : (b : Bool) → same_entry d e ≡ b → same_entry d e ≡ false
    go false q = q
    go true q =
        let names : name_of e.global ≡ name_of d.global = sym (name_of_symbol e) ∙ ap symbol_name (sym (symbol_exact (symbol_of d) (symbol_of e) q)) ∙ name_of_symbol d in
        absurd (never (subst (λ (n : Bytes). bytes_eq (name_of d.global) n ≡ false) names h))

unlike_all : (e : Entry) (es : List Entry) → AllByRecursion (λ n. bytes_eq (name_of e.global) n ≡ false) (map (λ (d : Entry). name_of d.global) es) → AllByRecursion (λ d. same_entry e d ≡ false) es
unlike_all e [] h = tt
unlike_all e (d ∷ es) h = (unlike e d h.0, unlike_all e es h.1)

named_apart : (es : List Entry) → Distinct bytes_eq (map (λ (d : Entry). name_of d.global) es) → AreApart es
named_apart [] h = tt
named_apart (e ∷ es) h = (unlike_all e es h.0, named_apart es h.1)

named : {A : Type 0} (kind : A → Global) (xs : List A) → map (λ (d : Entry). name_of d.global) (map entry (map kind xs)) ≡ map (λ x. name_of (kind x)) xs
named kind [] = refl
named kind (x ∷ xs) = ap (λ l. name_of (kind x) ∷ l) (named kind xs)

module _ (m : Module) where
  pub entries_are : entries (m ∷ []) ≡ map entry (globals m)
  entries_are = append-nil (map entry (globals m))

  globals_are : globals m ≡ map OfVariable m.variables ++ (map OfFunction m.functions ++ map OfAlias m.aliases)
  globals_are = append_assoc (map OfVariable m.variables) (map OfFunction m.functions) (map OfAlias m.aliases)

  names_are : map (λ (d : Entry). name_of d.global) (map entry (globals m)) ≡ variable_names m ++ (function_names m ++ alias_names m)
  names_are =
      let key = λ (d : Entry). name_of d.global in
      ap (λ l. map key (map entry l)) globals_are ∙ ap (map key) (map-append entry (map OfVariable m.variables) (map OfFunction m.functions ++ map OfAlias m.aliases))
      ∙ map-append key (map entry (map OfVariable m.variables)) (map entry (map OfFunction m.functions ++ map OfAlias m.aliases))
      ∙ ap₂ (λ xs ys. xs ++ ys) (named OfVariable m.variables)
      (ap (map key) (map-append entry (map OfFunction m.functions) (map OfAlias m.aliases))
      ∙ map-append key (map entry (map OfFunction m.functions)) (map entry (map OfAlias m.aliases))
      ∙ ap₂ (λ xs ys. xs ++ ys) (named OfFunction m.functions) (named OfAlias m.aliases))

  -- no two entries of a module have one symbol
  pub module_apart : IsWellFormed m → AreApart (entries (m ∷ []))
  module_apart well_formed =
      let distinct = distinct_is bytes_eq (global_names m) (and_parts (list_all is_name (global_names m)) (is_distinct bytes_eq (global_names m)) well_formed.global_names).1 in
      let turned : Distinct bytes_eq (variable_names m ++ (function_names m ++ alias_names m)) = reordered bytes_eq name_turned (variable_names m) (alias_names m) (function_names m) distinct in
      subst AreApart (sym entries_are) (named_apart (map entry (globals m)) (subst (Distinct bytes_eq) (sym names_are) turned))

-- a lasting entry is no `available_externally` one
pub lasting_counts : (l : Linkage) → is_lasting l ≡ true → is_available_externally l ≡ false
lasting_counts External h = refl
lasting_counts Private h = refl
lasting_counts Internal h = refl
lasting_counts _ h = absurd (true≢false (sym h))

-- ---- the symbols of variables, and those of functions

all_kept : {A : Type 0} (p : Entry → Bool) (kind : A → Global) → ((x : A) → p (entry (kind x)) ≡ true) → (xs : List A) → filter p (map entry (map kind xs)) ≡ map entry (map kind xs)
all_kept p kind h [] = refl
all_kept p kind h (x ∷ xs) =
    cond-true (p (entry (kind x))) (entry (kind x) ∷ filter p (map entry (map kind xs))) (filter p (map entry (map kind xs))) (h x) ∙ ap (λ l. entry (kind x) ∷ l) (all_kept p kind h xs)

none_kept : {A : Type 0} (p : Entry → Bool) (kind : A → Global) → ((x : A) → p (entry (kind x)) ≡ false) → (xs : List A) → filter p (map entry (map kind xs)) ≡ []
none_kept p kind h [] = refl
none_kept p kind h (x ∷ xs) =
    cond-false (p (entry (kind x))) (entry (kind x) ∷ filter p (map entry (map kind xs))) (filter p (map entry (map kind xs))) (h x) ∙ none_kept p kind h xs

module _ (m : Module) where
  abbrev pub variable_entries : List Entry
  variable_entries = map entry (map OfVariable m.variables)

  abbrev pub function_entries : List Entry
  function_entries = map entry (map OfFunction m.functions)

  abbrev pub alias_entries : List Entry
  alias_entries = map entry (map OfAlias m.aliases)

  pub parted : entries (m ∷ []) ≡ variable_entries ++ (function_entries ++ alias_entries)
  parted =
      entries_are m ∙ ap (map entry) (globals_are m) ∙ map-append entry (map OfVariable m.variables) (map OfFunction m.functions ++ map OfAlias m.aliases)
      ∙ ap (λ l. variable_entries ++ l) (map-append entry (map OfFunction m.functions) (map OfAlias m.aliases))

  -- where entries stand
  pub variable_in : (k : ℕ) (v : Variable) → slice_get m.variables k ≡ Some v → slice_get (entries (m ∷ [])) k ≡ Some (entry (OfVariable v))
  variable_in k v at =
      ap (λ l. slice_get l k) parted
      ∙ front_at variable_entries (function_entries ++ alias_entries) k (entry (OfVariable v)) (mapped_at entry (map OfVariable m.variables) k (OfVariable v) (mapped_at OfVariable m.variables k v at))

  pub function_in : (k : ℕ) (f : Function) → slice_get m.functions k ≡ Some f → (j : ℕ) × (slice_get (entries (m ∷ [])) j ≡ Some (entry (OfFunction f)))
  function_in k f at =
      let own = front_at function_entries alias_entries k (entry (OfFunction f)) (mapped_at entry (map OfFunction m.functions) k (OfFunction f) (mapped_at OfFunction m.functions k f at)) in
      let r = behind_at variable_entries (function_entries ++ alias_entries) k (entry (OfFunction f)) own in
      (r.0, ap (λ l. slice_get l r.0) parted ∙ r.1)

  pub alias_in : (k : ℕ) (x : Alias) → slice_get m.aliases k ≡ Some x → (j : ℕ) × (slice_get (entries (m ∷ [])) j ≡ Some (entry (OfAlias x)))
  alias_in k x at =
      let own = mapped_at entry (map OfAlias m.aliases) k (OfAlias x) (mapped_at OfAlias m.aliases k x at) in
      let r = behind_at function_entries alias_entries k (entry (OfAlias x)) own in
      let t = behind_at variable_entries (function_entries ++ alias_entries) r.0 (entry (OfAlias x)) r.1 in
      (t.0, ap (λ l. slice_get l t.0) parted ∙ t.1)

  all_of_kind : {A : Type 0} (P : Entry → Type 0) (kind : A → Global) (xs : List A) → ((k : ℕ) (x : A) → slice_get xs k ≡ Some x → P (entry (kind x))) → AllByRecursion P (map entry (map kind xs))
  all_of_kind P kind [] h = tt
  all_of_kind P kind (x ∷ xs) h = (h 0 x refl, all_of_kind P kind xs (λ k y e. h (suc k) y e))

  -- what holds of each variable, function and alias holds of each entry
  pub entries_have : (P : Entry → Type 0) → ((k : ℕ) (v : Variable) → slice_get m.variables k ≡ Some v → P (entry (OfVariable v)))
      → ((k : ℕ) (f : Function) → slice_get m.functions k ≡ Some f → P (entry (OfFunction f))) → ((k : ℕ) (x : Alias) → slice_get m.aliases k ≡ Some x → P (entry (OfAlias x))) → AllByRecursion P (entries (m ∷ []))
  entries_have P hv hf ha =
      subst (AllByRecursion P) (sym parted)
      (all_joined P variable_entries (function_entries ++ alias_entries) (all_of_kind P OfVariable m.variables hv)
      (all_joined P function_entries alias_entries (all_of_kind P OfFunction m.functions hf) (all_of_kind P OfAlias m.aliases ha)))

module _ (m : Module) (well_formed : IsWellFormed m) (defined : AllByRecursion (λ (e : Entry). is_alias e.global ≡ true → is_definition e ≡ true) (entries (m ∷ []))) where
  abbrev parts : List Module
  parts = m ∷ []

  abbrev variables : List Entry
  variables = variable_entries m

  abbrev functions : List Entry
  functions = function_entries m

  abbrev aliases : List Entry
  aliases = alias_entries m

  abbrev plain : Entry → Bool
  plain e = not (is_alias e.global)

  plain_are : plain_entries parts ≡ variables ++ functions
  plain_are =
      ap (filter (λ (e : Entry). not (is_alias_symbol parts (symbol_of e)))) (all_first parts (module_apart m well_formed))
      ∙ same_filter (λ (e : Entry). not (is_alias_symbol parts (symbol_of e))) plain (entries parts)
      (all_from_places (λ (e : Entry). not (is_alias_symbol parts (symbol_of e)) ≡ plain e) (entries parts)
      (λ k e at. ap not (own_kind parts (module_apart m well_formed) k e at (at_place (λ (e : Entry). is_alias e.global ≡ true → is_definition e ≡ true) (entries parts) k e defined at))))
      ∙ ap (filter plain) (parted m) ∙ filter-append plain variables (functions ++ aliases)
      ∙ ap₂ (λ xs ys. xs ++ ys) (all_kept plain OfVariable (λ v. refl) m.variables)
      (filter-append plain functions aliases ∙ ap₂ (λ xs ys. xs ++ ys) (all_kept plain OfFunction (λ f. refl) m.functions) (none_kept plain OfAlias (λ a. refl) m.aliases) ∙ append-nil functions)

  -- the n-th function symbol is that of the n-th function
  pub function_symbols_are : function_symbols parts ≡ map symbol_of (function_entries m)
  function_symbols_are =
      let p = λ (e : Entry). not (is_variable e.global) in
      ap (λ es. map symbol_of (filter p es)) plain_are
      ∙ ap (map symbol_of) (filter-append p variables functions ∙ ap₂ (λ xs ys. xs ++ ys) (none_kept p OfVariable (λ v. refl) m.variables) (all_kept p OfFunction (λ f. refl) m.functions))

  -- and the same of variables
  pub variable_symbols_are : variable_symbols parts ≡ map symbol_of (variable_entries m)
  variable_symbols_are =
      let p = λ (e : Entry). is_variable e.global in
      ap (λ es. map symbol_of (filter p es)) plain_are
      ∙ ap (map symbol_of) (filter-append p variables functions ∙ ap₂ (λ xs ys. xs ++ ys) (all_kept p OfVariable (λ v. refl) m.variables) (none_kept p OfFunction (λ f. refl) m.functions) ∙ append-nil variables)

-- ---- names and symbols

unlike_at : (n : Bytes) (es : List Entry) (k : ℕ) (e : Entry) → AllByRecursion (λ x. bytes_eq n x ≡ false) (map (λ (d : Entry). name_of d.global) es) → slice_get es k ≡ Some e → bytes_eq n (name_of e.global) ≡ false
unlike_at n [] k e h at = cc
unlike_at n (d ∷ es) zero e h at = subst (λ (x : Entry). bytes_eq n (name_of x.global) ≡ false) (same_Some d e at) h.0
unlike_at n (d ∷ es) (suc k) e h at = unlike_at n es k e h.1 at

never_unlike : (n : Bytes) → bytes_eq n n ≡ false → ⊥
never_unlike n f = true≢false (sym (name_self n) ∙ f)

-- entries of one name are one
pub one_named : (es : List Entry) (j k : ℕ) (d e : Entry) → Distinct bytes_eq (map (λ (d : Entry). name_of d.global) es) → slice_get es j ≡ Some d → slice_get es k ≡ Some e → name_of d.global ≡ name_of e.global → d ≡ e
one_named [] j k d e h at_d at_e same = cc
one_named (x ∷ es) zero zero d e h at_d at_e same = sym (same_Some x d at_d) ∙ same_Some x e at_e
one_named (x ∷ es) zero (suc k) d e h at_d at_e same =
    let apart : bytes_eq (name_of d.global) (name_of e.global) ≡ false = subst (λ (y : Entry). bytes_eq (name_of y.global) (name_of e.global) ≡ false) (same_Some x d at_d) (unlike_at (name_of x.global) es k e h.0 at_e) in
    absurd (never_unlike (name_of e.global) (subst (λ (n : Bytes). bytes_eq n (name_of e.global) ≡ false) same apart))
one_named (x ∷ es) (suc j) zero d e h at_d at_e same =
    let apart : bytes_eq (name_of e.global) (name_of d.global) ≡ false = subst (λ (y : Entry). bytes_eq (name_of y.global) (name_of d.global) ≡ false) (same_Some x e at_e) (unlike_at (name_of x.global) es j d h.0 at_d) in
    absurd (never_unlike (name_of e.global) (subst (λ (n : Bytes). bytes_eq (name_of e.global) n ≡ false) same apart))
one_named (x ∷ es) (suc j) (suc k) d e h at_d at_e same = one_named es j k d e h.1 at_d at_e same

over_map : {A B : Type 0} (p : B → Bool) (f : A → B) (xs : List A) → list_any p (map f xs) ≡ list_any (λ x. p (f x)) xs
over_map p f [] = refl
over_map p f (x ∷ xs) = ap (λ b. p (f x) || b) (over_map p f xs)

-- a symbol that is local is of an entry that is
only_local : (n : Bytes) (d : Entry) (b : Bool) → same_symbol (Local 0 n) (if b then Local d.part (name_of d.global) else Shared (name_of d.global)) ≡ true → b ≡ true
only_local n d true h = refl
only_local n d false h = h

module _ (m : Module) (well_formed : IsWellFormed m) where
  pub names_apart : Distinct bytes_eq (map (λ (d : Entry). name_of d.global) (entries (m ∷ [])))
  names_apart =
      let distinct = distinct_is bytes_eq (global_names m) (and_parts (list_all is_name (global_names m)) (is_distinct bytes_eq (global_names m)) well_formed.global_names).1 in
      let turned : Distinct bytes_eq (variable_names m ++ (function_names m ++ alias_names m)) = reordered bytes_eq name_turned (variable_names m) (alias_names m) (function_names m) distinct in
      subst (Distinct bytes_eq) (sym (ap (map (λ (d : Entry). name_of d.global)) (entries_are m) ∙ names_are m)) turned

  -- what the name of an entry is of is the symbol of the entry
  pub symbol_in_is : (k : ℕ) (e : Entry) → slice_get (entries (m ∷ [])) k ≡ Some e → e.part ≡ 0 → symbol_in (m ∷ []) 0 (name_of e.global) ≡ symbol_of e
  symbol_in_is k e at part = go (is_local (linkage_of e.global)) refl
    where
      n : Bytes
      n = name_of e.global

      go : (b : Bool) → is_local (linkage_of e.global) ≡ b → symbol_in (m ∷ []) 0 n ≡ symbol_of e
      go true local =
          let own : symbol_of e ≡ Local 0 n = cond-true (is_local (linkage_of e.global)) (Local e.part n) (Shared n) local ∙ ap (λ i. Local i n) part in
          let has_own : list_any (same_symbol (Local 0 n)) (map symbol_of (entries (m ∷ []))) ≡ true =
          over_map (same_symbol (Local 0 n)) symbol_of (entries (m ∷ []))
          ∙ any_passes_from_place (λ d. same_symbol (Local 0 n) (symbol_of d)) (entries (m ∷ [])) k e at (ap (same_symbol (Local 0 n)) own ∙ symbol_self (Local 0 n)) in
          cond-true (list_any (same_symbol (Local 0 n)) (map symbol_of (entries (m ∷ [])))) (Local 0 n) (Shared n) has_own ∙ sym own
      go false shared =
          let own : symbol_of e ≡ Shared n = cond-false (is_local (linkage_of e.global)) (Local e.part n) (Shared n) shared in
          let has_none : list_any (same_symbol (Local 0 n)) (map symbol_of (entries (m ∷ []))) ≡ false =
          over_map (same_symbol (Local 0 n)) symbol_of (entries (m ∷ []))
          ∙ none_there (λ d. same_symbol (Local 0 n) (symbol_of d)) (entries (m ∷ [])) (all_from_places (λ d. same_symbol (Local 0 n) (symbol_of d) ≡ false) (entries (m ∷ [])) (λ j d at_d. other j d at_d (same_symbol (Local 0 n) (symbol_of d)) refl)) in
          cond-false (list_any (same_symbol (Local 0 n)) (map symbol_of (entries (m ∷ [])))) (Local 0 n) (Shared n) has_none ∙ sym own
        where
          other : (j : ℕ) (d : Entry) → slice_get (entries (m ∷ [])) j ≡ Some d → (b : Bool) → same_symbol (Local 0 n) (symbol_of d) ≡ b → same_symbol (Local 0 n) (symbol_of d) ≡ false
          other j d at_d false q = q
          other j d at_d true q =
              let name_d : name_of d.global ≡ n = sym (name_of_symbol d) ∙ ap symbol_name (sym (symbol_exact (Local 0 n) (symbol_of d) q)) in
              let is : d ≡ e = one_named (entries (m ∷ [])) j k d e names_apart at_d at name_d in
              let local : is_local (linkage_of e.global) ≡ true = subst (λ (x : Entry). is_local (linkage_of x.global) ≡ true) is (only_local n d (is_local (linkage_of d.global)) q) in
              absurd (never local)
            where
              never : is_local (linkage_of e.global) ≡ true → ⊥
              never t = true≢false (sym t ∙ shared)
