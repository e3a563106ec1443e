-- The merged module, symbol by symbol.
use Rattle.std.proofs.Common.{◌≡◌, ℕ, zero, suc, Bool, true, false, ◌||◌, List, [], ◌∷◌, ◌++◌, map, Option, Some, None, refl, ap, ◌∙◌, subst, filter, option_map, nat_eq, bytes_eq}
use Rattle.std.specs.Prelude.{slice_get, if◌then◌else◌}
use Rattle.std.specs.List.{list_any, AllByRecursion}
use Rattle.std.specs.Option.{option_map_or}
use Rattle.std.proofs.lemmas.Bool.{or_from, or_parts, and_right, both_ways, cond-true, cond-false, false_from_ne_true}
use Rattle.std.proofs.lemmas.Option.{same_Some, slice_get-map}
use Rattle.ir_tables.specs.declared.linkage.Linkage.{Linkage}
use Rattle.ir_tables.specs.declared.linkage.Linkage.TheVariants.{External, ExternWeak}
use Rattle.module_arena.specs.Module.{Bytes, AliasType, PlainType, FunctionType, Module}
use Rattle.module_arena.specs.Renamed.{renamed_alias_type}
use Rattle.linkage_rules.specs.Globals.{Global, OfVariable, OfFunction, OfAlias, name_of, linkage_of, is_variable, is_alias, is_plain, is_written}
use Rattle.linkage_rules.specs.Linkages.{is_local}
use Rattle.linkage_rules.specs.Lists.{first, has}
use Rattle.linkage_rules.specs.Entries.{Entry, entries, same_symbol, symbol_of, entries_of}
use Rattle.linkage_rules.specs.declared.symbol.Symbol.{Symbol}
use Rattle.linkage_rules.specs.declared.symbol.Symbol.TheVariants.{Shared, Local}
use Rattle.linkage_rules.specs.Symbols.{is_alias_symbol, variable_symbols, function_symbols, alias_symbols, symbols}
use Rattle.linkage_rules.specs.Winner.{definitions, is_definition, home}
use Rattle.linkage_rules.specs.Bind.{all_extern_weak}
use Rattle.link_rules.specs.Rename.{new_name, with_given_names, given_after, shared_names, all_names, base_of, renaming}
use Rattle.link_rules.specs.Structs.{new_struct}
use Rattle.link_rules.specs.Linked.{linked_definition, declaration_of_type, linked_declaration, declared_linkage, linked_first, linked_by, linked}
use Rattle.link_rules.proofs.Apart.{Apart, none_at}
use Rattle.linkage_rules.specs.SymbolLaws.{name_self, name_exact}
use Rattle.link_rules.proofs.Symbols.{GoTogether, AreOfKind, symbols_apart, symbol_local, symbol_shared, home_is, local_home}
use Rattle.link_rules.proofs.Names.{keys_named, names_apart}

abbrev pub Row : Type 0
Row = Symbol × Bytes

-- what a symbol is in the merged module
abbrev pub as_renamed : Symbol → Bytes → Symbol
as_renamed (Shared n) m = Shared m
as_renamed (Local i n) m = Local 0 m

abbrev pub as_row : Row → Symbol
as_row r = as_renamed r.0 r.1

-- NO LOCAL NAME CAPTURES ANOTHER

rows_differ : (s t : Symbol) (m n : Bytes) → bytes_eq m n ≡ false → same_symbol (as_renamed s m) (as_renamed t n) ≡ false
rows_differ (Shared a) (Shared b) m n h = h
rows_differ (Shared a) (Local j b) m n h = refl
rows_differ (Local i a) (Shared b) m n h = refl
rows_differ (Local i a) (Local j b) m n h = and_right (nat_eq 0 0) _ h

local_differs : (t : Symbol) (m n : Bytes) → bytes_eq m n ≡ false → same_symbol (Local 0 m) (as_renamed t n) ≡ false
local_differs (Shared b) m n h = refl
local_differs (Local j b) m n h = and_right (nat_eq 0 0) _ h

row_new : (s : Symbol) (m : Bytes) (rows : List Row) → list_any (bytes_eq m) (map (λ r. r.1) rows) ≡ false → list_any (same_symbol (as_renamed s m)) (map as_row rows) ≡ false
row_new s m [] h = refl
row_new s m (r ∷ rows) h =
    let parts = or_parts (bytes_eq m r.1) _ h in
    or_from _ _ (rows_differ s r.0 m r.1 parts.0) (row_new s m rows parts.1)

pub rows_apart : (rows : List Row) → Apart bytes_eq (map (λ r. r.1) rows) → Apart same_symbol (map as_row rows)
rows_apart [] a = tt
rows_apart (r ∷ rows) a = (row_new r.0 r.1 rows a.0, rows_apart rows a.1)

local_new : (m : Bytes) (rows : List Row) → list_any (bytes_eq m) (map (λ r. r.1) rows) ≡ false → list_any (same_symbol (Local 0 m)) (map as_row rows) ≡ false
local_new m [] h = refl
local_new m (r ∷ rows) h =
    let parts = or_parts (bytes_eq m r.1) _ h in
    or_from _ _ (local_differs r.0 m r.1 parts.0) (local_new m rows parts.1)

pub other_name : (m n : Bytes) → bytes_eq m n ≡ false → bytes_eq n m ≡ false
other_name m n h = false_from_ne_true _ (λ e. both_ways _ h (subst (λ z. bytes_eq z n ≡ true) (name_exact n m e) (name_self n)))

-- the name of a shared symbol is no local one's
pub not_captured : (n m : Bytes) (rows : List Row) (k : ℕ) → Apart bytes_eq (map (λ r. r.1) rows) → slice_get rows k ≡ Some (Shared n, m) → list_any (same_symbol (Local 0 m)) (map as_row rows) ≡ false
not_captured n m [] k a h = cc
not_captured n m (r ∷ rows) zero a h =
    let e = same_Some r (Shared n, m) h in
    or_from _ _ (ap (λ q. same_symbol (Local 0 m) (as_row q)) e) (local_new m rows (subst (λ z. list_any (bytes_eq z) (map (λ q. q.1) rows) ≡ false) (ap (λ q. q.1) e) a.0))
not_captured n m (r ∷ rows) (suc k) a h =
    let there : slice_get (map (λ q. q.1) rows) k ≡ Some m = slice_get-map (λ q. q.1) rows k ∙ ap (option_map (λ q. q.1)) h in
    or_from _ _ (local_differs r.0 m r.1 (other_name r.1 m (none_at (bytes_eq r.1) (map (λ q. q.1) rows) k m a.0 there))) (not_captured n m rows k a.1 h)

-- ROWS OF VARIABLES, OF FUNCTIONS AND OF ALIASES

module _ (base : Bytes → Bytes) (everywhere : List Bytes) where
  pub named_append : (given : List Bytes) (ss ts : List Symbol) → with_given_names base everywhere given (ss ++ ts) ≡ with_given_names base everywhere given ss ++ with_given_names base everywhere (given_after base everywhere given ss) ts
  named_append given [] ts = refl
  named_append given (Shared n ∷ ss) ts = ap (λ l. (Shared n, n) ∷ l) (named_append given ss ts)
  named_append given (Local i n ∷ ss) ts = ap (λ l. (Local i n, new_name base everywhere given n) ∷ l) (named_append (new_name base everywhere given n ∷ given) ss ts)

module _ (parts : List Module) where
  abbrev pub variable_rows : List Row
  variable_rows = with_given_names base_of (all_names parts) (shared_names (symbols parts)) (variable_symbols parts)

  abbrev pub function_rows : List Row
  function_rows = with_given_names base_of (all_names parts) (given_after base_of (all_names parts) (shared_names (symbols parts)) (variable_symbols parts)) (function_symbols parts)

  abbrev pub alias_rows : List Row
  alias_rows = with_given_names base_of (all_names parts) (given_after base_of (all_names parts) (shared_names (symbols parts)) (variable_symbols parts ++ function_symbols parts)) (alias_symbols parts)

  pub renaming_split : renaming parts ≡ variable_rows ++ function_rows ++ alias_rows
  renaming_split =
      named_append base_of (all_names parts) (shared_names (symbols parts)) (variable_symbols parts ++ function_symbols parts) (alias_symbols parts)
      ∙ ap (λ l. l ++ alias_rows) (named_append base_of (all_names parts) (shared_names (symbols parts)) (variable_symbols parts) (function_symbols parts))

  pub keys : map (λ r. r.0) (renaming parts) ≡ symbols parts
  keys = keys_named base_of (all_names parts) (shared_names (symbols parts)) (symbols parts)

  pub names : Apart bytes_eq (map (λ r. r.1) (renaming parts))
  names = names_apart base_of (all_names parts) (symbols parts) (shared_names (symbols parts)) (symbols_apart parts) (λ n h. h)

-- LINKED ENTRIES

definition_name : (parts : List Module) (m : Bytes) (e : Entry) (es : List Entry) (g : Global) → name_of (linked_definition parts m e es g) ≡ m
definition_name parts m e es (OfVariable v) = refl
definition_name parts m e es (OfFunction f) = refl
definition_name parts m e es (OfAlias a) = refl

pub definition_linkage : (parts : List Module) (m : Bytes) (e : Entry) (es : List Entry) (g : Global) → linkage_of (linked_definition parts m e es g) ≡ linkage_of g
definition_linkage parts m e es (OfVariable v) = refl
definition_linkage parts m e es (OfFunction f) = refl
definition_linkage parts m e es (OfAlias a) = refl

plain_again : (structs : Bytes → Bytes) (t : AliasType) → is_plain (renamed_alias_type structs t) ≡ is_plain t
plain_again structs (PlainType t) = refl
plain_again structs (FunctionType signature) = refl

definition_kind : (parts : List Module) (m : Bytes) (e : Entry) (es : List Entry) (g : Global) → is_variable (linked_definition parts m e es g) ≡ is_variable g
definition_kind parts m e es (OfVariable v) = refl
definition_kind parts m e es (OfFunction f) = refl
definition_kind parts m e es (OfAlias a) = plain_again (new_struct parts e.part) a.ty

definition_alias : (parts : List Module) (m : Bytes) (e : Entry) (es : List Entry) (g : Global) → is_alias (linked_definition parts m e es g) ≡ is_alias g
definition_alias parts m e es (OfVariable v) = refl
definition_alias parts m e es (OfFunction f) = refl
definition_alias parts m e es (OfAlias a) = refl

-- what is declared: its name, its linkage and its kind, and that it is no alias and has no initialiser or body
pub record Declares (l : Linkage) (m : Bytes) (kind : Bool) (g : Global) : Type 0 where
  pub name : name_of g ≡ m
  pub linkage : linkage_of g ≡ l
  pub same_kind : is_variable g ≡ kind
  pub no_alias : is_alias g ≡ false
  pub unwritten : is_written g ≡ false

declares_type : (l : Linkage) (parts : List Module) (m : Bytes) (i : ℕ) (t : AliasType) → Declares l m (is_plain t) (declaration_of_type l parts m i t)
declares_type l parts m i (PlainType t) = record { name = refl; linkage = refl; same_kind = refl; no_alias = refl; unwritten = refl }
declares_type l parts m i (FunctionType signature) = record { name = refl; linkage = refl; same_kind = refl; no_alias = refl; unwritten = refl }

pub declares : (l : Linkage) (parts : List Module) (m : Bytes) (i : ℕ) (g : Global) → Declares l m (is_variable g) (linked_declaration l parts m i g)
declares l parts m i (OfVariable v) = record { name = refl; linkage = refl; same_kind = refl; no_alias = refl; unwritten = refl }
declares l parts m i (OfFunction f) = record { name = refl; linkage = refl; same_kind = refl; no_alias = refl; unwritten = refl }
declares l parts m i (OfAlias a) = declares_type l parts m i a.ty

first_name : (parts : List Module) (s : Symbol) (m : Bytes) (o : Option Entry) → name_of (linked_first parts s m o) ≡ m
first_name parts s m None = refl
first_name parts s m (Some e) = (declares (declared_linkage parts s) parts m e.part e.global).name

declared_shared : (b : Bool) → is_local (if b then ExternWeak else External) ≡ false
declared_shared true = refl
declared_shared false = refl

first_shared : (parts : List Module) (s : Symbol) (m : Bytes) (o : Option Entry) → is_local (linkage_of (linked_first parts s m o)) ≡ false
first_shared parts s m None = refl
first_shared parts s m (Some e) = ap is_local (declares (declared_linkage parts s) parts m e.part e.global).linkage ∙ declared_shared (all_extern_weak parts s)

-- an entry has the name of its row
pub linked_name : (parts : List Module) (s : Symbol) (m : Bytes) (o : Option Entry) → name_of (linked_by parts s m o) ≡ m
linked_name parts s m None = first_name parts s m (first (entries_of parts s))
linked_name parts s m (Some e) = definition_name parts m e (definitions parts s) e.global

first_plain : (parts : List Module) (s : Symbol) (m : Bytes) (o : Option Entry) → is_alias (linked_first parts s m o) ≡ false
first_plain parts s m None = refl
first_plain parts s m (Some e) = (declares (declared_linkage parts s) parts m e.part e.global).no_alias

-- and is an alias where the symbol is one
linked_alias_by : (parts : List Module) (s : Symbol) (m : Bytes) (o : Option Entry) → is_alias (linked_by parts s m o) ≡ option_map_or (λ e. is_alias e.global) o false
linked_alias_by parts s m None = first_plain parts s m (first (entries_of parts s))
linked_alias_by parts s m (Some e) = definition_alias parts m e (definitions parts s) e.global

pub linked_is_alias_none : (parts : List Module) (s : Symbol) (m : Bytes) → is_alias (linked_by parts s m None) ≡ false
linked_is_alias_none parts s m = first_plain parts s m (first (entries_of parts s))

pub linked_is_alias : (parts : List Module) (r : Row) → is_alias (linked parts r) ≡ is_alias_symbol parts r.0
linked_is_alias parts r = linked_alias_by parts r.0 r.1 (home parts r.0)

abbrev pub entry_by : List Module → Symbol → Bytes → Option Entry → Entry
entry_by parts s m o = record { part = 0; global = linked_by parts s m o }

abbrev pub row_entry : List Module → Row → Entry
row_entry parts r = entry_by parts r.0 r.1 (home parts r.0)

of_shared : (g : Global) (m : Bytes) → name_of g ≡ m → is_local (linkage_of g) ≡ false → symbol_of (record { part = 0; global = g }) ≡ Shared m
of_shared g m n l = cond-false (is_local (linkage_of g)) _ _ l ∙ ap Shared n

of_local : (g : Global) (m : Bytes) → name_of g ≡ m → is_local (linkage_of g) ≡ true → symbol_of (record { part = 0; global = g }) ≡ Local 0 m
of_local g m n l = cond-true (is_local (linkage_of g)) _ _ l ∙ ap (Local 0) n

module _ (parts : List Module) (together : GoTogether parts) where
  -- an entry is of its row's symbol
  linked_symbol_by : (s : Symbol) (m : Bytes) (o : Option Entry) → home parts s ≡ o → has same_symbol (map symbol_of (entries parts)) s ≡ true → symbol_of (entry_by parts s m o) ≡ as_renamed s m
  linked_symbol_by (Shared n) m None h there = of_shared (linked_by parts (Shared n) m None) m (linked_name parts (Shared n) m None) (first_shared parts (Shared n) m (first (entries_of parts (Shared n))))
  linked_symbol_by (Shared n) m (Some e) h there =
      let is = (home_is parts (λ d. is_local (linkage_of d.global) ≡ true → is_definition d ≡ true) (Shared n) e together.locals h).0.1 in
      of_shared (linked_by parts (Shared n) m (Some e)) m (linked_name parts (Shared n) m (Some e)) (ap is_local (definition_linkage parts m e (definitions parts (Shared n)) e.global) ∙ symbol_shared n e is)
  linked_symbol_by (Local i n) m None h there = absurd (local_home parts i n together there h)
  linked_symbol_by (Local i n) m (Some e) h there =
      let is = (home_is parts (λ d. is_local (linkage_of d.global) ≡ true → is_definition d ≡ true) (Local i n) e together.locals h).0.1 in
      of_local (linked_by parts (Local i n) m (Some e)) m (linked_name parts (Local i n) m (Some e)) (ap is_local (definition_linkage parts m e (definitions parts (Local i n)) e.global) ∙ symbol_local i n e is)

  pub linked_symbol : (s : Symbol) (m : Bytes) → has same_symbol (map symbol_of (entries parts)) s ≡ true → symbol_of (row_entry parts (s, m)) ≡ as_renamed s m
  linked_symbol s m there = linked_symbol_by s m (home parts s) refl there

  -- the entry of a symbol is of the symbol's kind
  pub linked_kind : (b : Bool) (s : Symbol) (m : Bytes) (o : Option Entry) → home parts s ≡ o → AreOfKind parts b s → has same_symbol (map symbol_of (entries parts)) s ≡ true → is_variable (linked_by parts s m o) ≡ b
  linked_kind b s m (Some e) h kind there =
      let is = home_is parts (λ d. same_symbol s (symbol_of d) ≡ true → is_variable d.global ≡ b) s e kind h in
      definition_kind parts m e (definitions parts s) e.global ∙ is.0.0 is.0.1
  linked_kind b s m None h kind there = go (entries parts) kind there
    where
      go : (es : List Entry) → AllByRecursion (λ e. same_symbol s (symbol_of e) ≡ true → is_variable e.global ≡ b) es → has same_symbol (map symbol_of es) s ≡ true → is_variable (linked_first parts s m (first (filter (λ e. same_symbol s (symbol_of e)) es))) ≡ b
      go [] a h = cc
      go (e ∷ es) a h = by_test (same_symbol s (symbol_of e)) refl (go es a.1)
        where
          by_test : (c : Bool) → same_symbol s (symbol_of e) ≡ c → (has same_symbol (map symbol_of es) s ≡ true → is_variable (linked_first parts s m (first (filter (λ d. same_symbol s (symbol_of d)) es))) ≡ b) → is_variable (linked_first parts s m (first (filter (λ d. same_symbol s (symbol_of d)) (e ∷ es)))) ≡ b
          by_test true t more =
              ap (λ l. is_variable (linked_first parts s m (first l))) (cond-true (same_symbol s (symbol_of e)) _ _ t)
              ∙ (declares (declared_linkage parts s) parts m e.part e.global).same_kind ∙ a.0 t
          by_test false t more =
              ap (λ l. is_variable (linked_first parts s m (first l))) (cond-false (same_symbol s (symbol_of e)) _ _ t)
              ∙ more (subst (λ c. (c || list_any (same_symbol s) (map symbol_of es)) ≡ true) t h)
