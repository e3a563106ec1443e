-- The functions that a list of constructors names are functions in the linked module.
use Rattle.std.proofs.Common.{◌≡◌, ℕ, zero, suc, Bool, true, false, ◌&&◌, ◌||◌, ◌⊎◌, inl, inr, List, [], ◌∷◌, ◌++◌, map, filter_map, Option, Some, None, refl, sym, ap, ◌∙◌, subst, bytes_eq}
use Rattle.std.specs.Prelude.{slice_get}
use Rattle.std.specs.List.{list_any}
use Rattle.std.proofs.lemmas.Bool.{and_from, and_parts, or_left, or_right, or_cases, both_ways, false≢true}
use Rattle.std.proofs.lemmas.Option.{same_Some}
use Rattle.module_arena.specs.Module.{Bytes, Constant, Constants, Variable, AliasType, PlainType, FunctionType, Alias, Function, Module}
use Rattle.module_arena.specs.Module.Brackets.{Braces}
use Rattle.module_arena.specs.Module.Constant.{Integer, Truth, Null, Undef, Poison, ZeroInitializer, Address, ByteString, Aggregate, ElementAddress, Cast, Binary}
use Rattle.module_arena.specs.Module.Constants.{no_constants, more_constants}
use Rattle.module_arena.specs.Renamed.{renamed_constant, renamed_constants, renamed_alias_type}
use Rattle.module_arena.specs.Same.{same_type}
use Rattle.module_arena.specs.TypeTests.{is_integer_of, is_pointer}
use Rattle.module_arena.specs.EntryRules.{has_function, has_alias_of_function, is_function_or_null, constructor_type, is_constructor, are_constructors, is_lasting, is_lasting_variable, is_lasting_function, target_suits}
use Rattle.module_arena.specs.WellFormed.{has_entry}
use Rattle.linkage_rules.specs.Globals.{Global, OfVariable, OfFunction, OfAlias, name_of, is_variable, is_alias, is_plain, globals}
use Rattle.linkage_rules.specs.Entries.{Entry, entries, part_at, symbol_of, symbol_in}
use Rattle.linkage_rules.specs.declared.symbol.Symbol.{Symbol}
use Rattle.linkage_rules.specs.Winner.{home, definitions}
use Rattle.linkage_rules.specs.SymbolLaws.{name_self, name_exact}
use Rattle.link_rules.proofs.Symbols.{AreOfKind}
use Rattle.link_rules.specs.Rename.{new_global}
use Rattle.link_rules.specs.Structs.{new_struct}
use Rattle.link_rules.specs.Linked.{linked_alias, linked_definition, linked_by, linked, linked_globals, alias_if, link_result}
use Rattle.link_rules.proofs.Merged.{linked_name, linked_kind, linked_is_alias_none}
use Rattle.link_rules.proofs.Bound.{here}
use Rattle.link_rules.proofs.Searches.{at_all}
use Rattle.link_rules.proofs.Agreed.{any_left, any_right}
use Rattle.link_rules.proofs.ByKind.{any_key}
use Rattle.link_rules.proofs.OnValid.Types.{sameness_kept, width_same, pointer_same}
use Rattle.link_rules.proofs.OnValid.PartEntries.{EntryHolds}
use Rattle.link_rules.proofs.OnValid.Linking.{entry_named, function_there}
use Rattle.link_rules.specs.Valid.Laws.{AreLinkable}
use Rattle.link_rules.proofs.OnValid.Renaming.{entries_hold, together, row_of_name, linked_at}
use Rattle.link_rules.proofs.OnValid.Callees.{entry_where}
use Rattle.link_rules.proofs.OnValid.Strong.{one_entry}
use Rattle.link_rules.proofs.OnValid.Targets.{own_symbol, targets_kept}

any_follow : {A : Type 0} (p q : A → Bool) (xs : List A) → ((x : A) → p x ≡ true → q x ≡ true) → list_any p xs ≡ true → list_any q xs ≡ true
any_follow p q [] f h = cc
any_follow p q (x ∷ xs) f h = go (or_cases (p x) _ h) (any_follow p q xs f)
  where
    go : (p x ≡ true) ⊎ (list_any p xs ≡ true) → (list_any p xs ≡ true → list_any q xs ≡ true) → (q x || list_any q xs) ≡ true
    go (inl e) more = or_left (q x) _ (f x e)
    go (inr e) more = or_right (q x) _ (more e)

-- a function of that name
abbrev is_function_of : Bytes → Global → Bool
is_function_of name (OfFunction f) = bytes_eq name f.name
is_function_of name (OfVariable v) = false
is_function_of name (OfAlias a) = false

-- a function of that name, or an alias of a function
abbrev calls_function : Module → Bytes → Global → Bool
calls_function m name (OfFunction f) = bytes_eq name f.name
calls_function m name (OfVariable v) = false
calls_function m name (OfAlias a) = bytes_eq a.name name && has_function m a.target

-- a variable of that name
abbrev is_variable_of : Bytes → Global → Bool
is_variable_of name (OfVariable v) = bytes_eq v.name name
is_variable_of name (OfFunction f) = false
is_variable_of name (OfAlias a) = false

functions_among : (m : Module) (name : Bytes) (q : Global → Bool) → ((f : Function) → bytes_eq name f.name ≡ true → q (OfFunction f) ≡ true) → has_function m name ≡ true → list_any q (globals m) ≡ true
functions_among m name q f h =
    any_left q (map OfVariable m.variables ++ map OfFunction m.functions) (map OfAlias m.aliases)
    (any_right q (map OfVariable m.variables) (map OfFunction m.functions) (any_key OfFunction q m.functions ∙ any_follow (λ (g : Function). bytes_eq name g.name) (λ g. q (OfFunction g)) m.functions f (sym (any_key (λ (g : Function). g.name) (bytes_eq name) m.functions) ∙ h)))

calls_among : (m : Module) (name : Bytes) → (has_function m name || has_alias_of_function m name) ≡ true → list_any (calls_function m name) (globals m) ≡ true
calls_among m name h = go (or_cases (has_function m name) _ h)
  where
    go : (has_function m name ≡ true) ⊎ (has_alias_of_function m name ≡ true) → list_any (calls_function m name) (globals m) ≡ true
    go (inl t) = functions_among m name (calls_function m name) (λ f e. e) t
    go (inr t) = any_right (calls_function m name) (map OfVariable m.variables ++ map OfFunction m.functions) (map OfAlias m.aliases) (any_key OfAlias (calls_function m name) m.aliases ∙ t)

variables_among : (m : Module) (name : Bytes) → list_any (is_lasting_variable name) m.variables ≡ true → list_any (is_variable_of name) (globals m) ≡ true
variables_among m name h =
    any_left (is_variable_of name) (map OfVariable m.variables ++ map OfFunction m.functions) (map OfAlias m.aliases)
    (any_left (is_variable_of name) (map OfVariable m.variables) (map OfFunction m.functions)
    (any_key OfVariable (is_variable_of name) m.variables ∙ any_follow (is_lasting_variable name) (λ (v : Variable). bytes_eq v.name name) m.variables (λ v e. (and_parts (bytes_eq v.name name) _ e).0) h))

lasting_is_function : (m : Module) (name : Bytes) → list_any (is_lasting_function name) m.functions ≡ true → has_function m name ≡ true
lasting_is_function m name h =
    any_key (λ (g : Function). g.name) (bytes_eq name) m.functions
    ∙ any_follow (is_lasting_function name) (λ (f : Function). bytes_eq name f.name) m.functions (λ f e. turned f.name (and_parts (bytes_eq f.name name) _ e).0) h
  where
    turned : (n : Bytes) → bytes_eq n name ≡ true → bytes_eq name n ≡ true
    turned n e = subst (λ z. bytes_eq name z ≡ true) (sym (name_exact n name e)) (name_self name)

module _ (parts : List Module) (fine : AreLinkable parts) (i : ℕ) where
  abbrev part : Module
  part = part_at parts i

  -- no part has a variable and a function of one name
  not_both : (name : Bytes) → list_any (is_variable_of name) (globals part) ≡ true → has_function part name ≡ true → ⊥
  not_both name v f =
      let one = entry_where parts i (is_variable_of name) v in
      let other = entry_where parts i (is_function_of name) (functions_among part name (is_function_of name) (λ g e. e) f) in
      go one.1.global other.1.global one.3.1 other.3.1 (λ e. ap (λ (x : Entry). x.global) (one_entry parts fine one.0 other.0 one.1 other.1 one.2 other.2 (one.3.0 ∙ sym other.3.0) e))
    where
      go : (g h : Global) → is_variable_of name g ≡ true → is_function_of name h ≡ true → (name_of g ≡ name_of h → g ≡ h) → ⊥
      go (OfVariable v) (OfFunction f) p q same =
          let e : OfVariable v ≡ OfFunction f = same (name_exact v.name name p ∙ name_exact name f.name q) in
          cc
      go (OfFunction g) h p q same = cc
      go (OfAlias a) h p q same = cc
      go (OfVariable v) (OfVariable w) p q same = cc
      go (OfVariable v) (OfAlias a) p q same = cc

  -- a function, and an alias of one, are of the kind of functions
  function_kind : (name : Bytes) (g : Global) → EntryHolds part g → calls_function part name g ≡ true → (is_variable g ≡ false) × (name_of g ≡ name)
  function_kind name (OfFunction f) holds h = (refl, sym (name_exact name f.name h))
  function_kind name (OfVariable v) holds h = cc
  function_kind name (OfAlias a) holds h =
      let both = and_parts (bytes_eq a.name name) _ h in
      (by_type a.ty (and_parts (is_lasting a.linkage) _ holds.1.1.1.1.1.0).1 both.1, name_exact a.name name both.0)
    where
      by_type : (t : AliasType) → target_suits part t a.target ≡ true → has_function part a.target ≡ true → is_plain t ≡ false
      by_type (PlainType t) s f = absurd (not_both a.target (variables_among part a.target s) f)
      by_type (FunctionType signature) s f = refl

  -- what is linked of such a name
  calls_linked : (s : Symbol) (new : Bytes) (k : ℕ) (o : Option Entry) → home parts s ≡ o → (g : Global) → linked_by parts s new o ≡ g → is_variable g ≡ false → slice_get (linked_globals parts) k ≡ Some g → name_of g ≡ new → (has_function (link_result parts) new || has_alias_of_function (link_result parts) new) ≡ true
  calls_linked s new k o h (OfFunction f) eq kind at n = or_left _ _ (subst (λ z. has_function (link_result parts) z ≡ true) n (function_there (linked_globals parts) k f at))
  calls_linked s new k o h (OfVariable v) eq kind at n = cc
  calls_linked s new k None h (OfAlias b) eq kind at n = absurd (both_ways _ (sym (ap is_alias eq) ∙ linked_is_alias_none parts s new) refl)
  calls_linked s new k (Some e) h (OfAlias b) eq kind at n =
      or_right (has_function (link_result parts) new) _ (by_global e.global refl)
    where
      alias_any : (gs : List Global) (j : ℕ) → slice_get gs j ≡ Some (OfAlias b) → (b.name ≡ new) → has_function (link_result parts) b.target ≡ true → list_any (λ (a : Alias). bytes_eq a.name new && has_function (link_result parts) a.target) (filter_map alias_if gs) ≡ true
      alias_any [] j at n t = cc
      alias_any (g ∷ gs) zero at n t = subst (λ x. list_any (λ (a : Alias). bytes_eq a.name new && has_function (link_result parts) a.target) (filter_map alias_if (x ∷ gs)) ≡ true) (sym (same_Some g (OfAlias b) at)) (or_left _ _ (and_from _ _ (subst (λ z. bytes_eq z new ≡ true) (sym n) (name_self new)) t))
      alias_any (OfAlias c ∷ gs) (suc j) at n t = or_right (bytes_eq c.name new && has_function (link_result parts) c.target) _ (alias_any gs j at n t)
      alias_any (OfVariable v ∷ gs) (suc j) at n t = alias_any gs j at n t
      alias_any (OfFunction f ∷ gs) (suc j) at n t = alias_any gs j at n t

      by_type : (t : AliasType) (target : Bytes) → is_plain t ≡ false → target_suits (link_result parts) t target ≡ true → has_function (link_result parts) target ≡ true
      by_type (PlainType t) target p h = cc
      by_type (FunctionType signature) target p h = lasting_is_function (link_result parts) target h

      by_global : (g : Global) → e.global ≡ g → has_alias_of_function (link_result parts) new ≡ true
      by_global (OfAlias a) is =
          let linked_is : OfAlias b ≡ linked_definition parts new e (definitions parts s) (OfAlias a) = sym eq ∙ ap (linked_definition parts new e (definitions parts s)) is in
          let suits = targets_kept parts fine s e a h is in
          let same : b ≡ linked_alias parts new e.part a = cc in
          alias_any (linked_globals parts) k at n (ap (λ (c : Alias). has_function (link_result parts) c.target) same ∙ by_type (renamed_alias_type (new_struct parts e.part) a.ty) (new_global parts e.part a.target) (sym (ap (λ (c : Alias). is_plain c.ty) same) ∙ kind) suits)
      by_global (OfVariable v) is =
          let wrong : OfAlias b ≡ linked_definition parts new e (definitions parts s) (OfVariable v) = sym eq ∙ ap (linked_definition parts new e (definitions parts s)) is in
          absurd (both_ways _ (sym (ap is_alias (sym wrong))) refl)
      by_global (OfFunction f) is =
          let wrong : OfAlias b ≡ linked_definition parts new e (definitions parts s) (OfFunction f) = sym eq ∙ ap (linked_definition parts new e (definitions parts s)) is in
          absurd (both_ways _ (sym (ap is_alias (sym wrong))) refl)

  -- a function or an alias of a function is one in the linked module
  pub function_kept : (name : Bytes) → (has_function part name || has_alias_of_function part name) ≡ true → (has_function (link_result parts) (new_global parts i name) || has_alias_of_function (link_result parts) (new_global parts i name)) ≡ true
  function_kept name h =
      let found = entry_where parts i (calls_function part name) (calls_among part name h) in
      let d = found.1 in
      let holds : EntryHolds part d.global = subst (λ j. EntryHolds (part_at parts j) d.global) found.3.0 (at_all (λ e. EntryHolds (part_at parts e.part) e.global) (entries parts) found.0 d (entries_hold parts fine) found.2) in
      let facts = function_kind name d.global holds found.3.1 in
      let there : has_entry part name ≡ true = entry_named part name ∙ any_follow (calls_function part name) (λ g. bytes_eq name (name_of g)) (globals part) named_so (calls_among part name h) in
      let row = row_of_name parts fine i name there in
      let s = symbol_in parts i name in
      let symbol : s ≡ symbol_of d = own_symbol parts fine i found.0 name d found.2 found.3.0 facts.1 in
      let kind : AreOfKind parts false s = subst (AreOfKind parts false) (sym symbol) (subst (λ b. AreOfKind parts b (symbol_of d)) facts.0 (at_all (λ e. AreOfKind parts (is_variable e.global) (symbol_of e)) (entries parts) found.0 d (together parts fine).kinds found.2)) in
      let function = linked_kind parts (together parts fine) false s row.new (home parts s) refl kind (here parts (together parts fine) row.place s row.new row.at) in
      subst (λ n. (has_function (link_result parts) n || has_alias_of_function (link_result parts) n) ≡ true) (sym row.named)
      (calls_linked s row.new row.place (home parts s) refl (linked parts (s, row.new)) refl function (linked_at parts fine i row.place s row.new row.at) (linked_name parts s row.new (home parts s)))
    where
      named_so : (g : Global) → calls_function part name g ≡ true → bytes_eq name (name_of g) ≡ true
      named_so (OfFunction f) h = h
      named_so (OfVariable v) h = cc
      named_so (OfAlias a) h = subst (λ z. bytes_eq name z ≡ true) (sym (name_exact a.name name (and_parts (bytes_eq a.name name) _ h).0)) (name_self name)

  -- LISTS OF CONSTRUCTORS

  function_or_null : (c : Constant) → is_function_or_null part c ≡ true → is_function_or_null (link_result parts) (renamed_constant (new_struct parts i) (new_global parts i) c) ≡ true
  function_or_null (Address name) h = function_kept name h
  function_or_null Null h = refl
  function_or_null (Integer n) h = cc
  function_or_null (Truth truth) h = cc
  function_or_null Undef h = cc
  function_or_null Poison h = cc
  function_or_null ZeroInitializer h = cc
  function_or_null (ByteString bytes) h = cc
  function_or_null (Aggregate b cs) h = cc
  function_or_null (ElementAddress flags source cs) h = cc
  function_or_null (Cast opcode from value to) h = cc
  function_or_null (Binary opcode flags l left r right) h = cc

  constructor_kept : (c : Constant) → is_constructor part c ≡ true → is_constructor (link_result parts) (renamed_constant (new_struct parts i) (new_global parts i) c) ≡ true
  constructor_kept (Aggregate Braces (more_constants a (Integer priority) (more_constants b f (more_constants c x no_constants)))) h =
      let one = and_parts (is_integer_of 32 a) _ h in
      let two = and_parts (is_pointer b) _ one.1 in
      let three = and_parts (is_pointer c) _ two.1 in
      and_from _ _ (width_same (new_struct parts i) 32 a ∙ one.0) (and_from _ _ (pointer_same (new_struct parts i) b ∙ two.0) (and_from _ _ (pointer_same (new_struct parts i) c ∙ three.0) (function_or_null f three.1)))
  constructor_kept _ h = absurd (false≢true h)

  pub constructors_kept : (cs : Constants) → are_constructors part cs ≡ true → are_constructors (link_result parts) (renamed_constants (new_struct parts i) (new_global parts i) cs) ≡ true
  constructors_kept no_constants h = refl
  constructors_kept (more_constants t c cs) h =
      let one = and_parts (same_type t constructor_type) _ h in
      let two = and_parts (is_constructor part c) _ one.1 in
      and_from _ _ (sameness_kept (new_struct parts i) t constructor_type one.0) (and_from _ _ (constructor_kept c two.0) (constructors_kept cs two.1))
