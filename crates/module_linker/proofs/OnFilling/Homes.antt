-- What is written of the symbol at a place, by the ids of its entries.
use Rattle.std.proofs.Common.{◌≡◌, ℕ, true, List, filter, length, slice_get, Option, Some, None, refl, sym, subst, ap, ◌∙◌}
use Rattle.std.specs.Option.{option_map}
use Rattle.std.proofs.lemmas.List.{length-map}
use Rattle.std.proofs.lemmas.Option.{slice_get-map}
use Rattle.ir_tables.specs.declared.linkage.Linkage.{Linkage}
use Rattle.module_arena.specs.Lists.{Lists}
use Rattle.module_arena.specs.Module.{AliasType, Bytes, FunctionType, Module, PlainType}
use Rattle.module_arena.specs.declared.entry.GlobalId.{GlobalId}
use Rattle.module_arena.specs.declared.entry.GlobalId.TheVariants as global
use Rattle.linkage_rules.specs.declared.entry.EntryId.{EntryId}
use Rattle.linkage_rules.specs.declared.symbol.Symbol.{Symbol}
use Rattle.linkage_rules.specs.declared.symbol.SymbolKind.{SymbolKind}
use Rattle.linkage_rules.specs.declared.symbol.SymbolKind.TheVariants as kind
use Rattle.linkage_rules.specs.Entries.{Entry, entries_of}
use Rattle.linkage_rules.specs.Globals.{Global, OfAlias, OfFunction, OfVariable}
use Rattle.linkage_rules.specs.Grouped.{IsHome, group_in, home_in}
use Rattle.linkage_rules.specs.Ids.{IsEntryId, modules, seen}
use Rattle.linkage_rules.specs.Lists.{first}
use Rattle.linkage_rules.specs.Resolved.{Resolved}
use Rattle.linkage_rules.specs.Winner.{home, is_definition}
use Rattle.linkage_rules.proofs.Seen.{alias_seen, function_seen, get_within, variable_seen}
use Rattle.linkage_rules.proofs.Standing.{home_at, home_known}
use Rattle.link_rules.specs.Linked.{declaration_of_type, declared_linkage, linked, linked_by, linked_declaration, linked_definition, linked_first, linked_globals}
use Rattle.link_rules.specs.Rename.{renaming}
use Rattle.link_rules.proofs.Bound.{row_of}
use Rattle.link_rules.proofs.Merged.{keys}
use Rattle.module_linker.specs.Stages.Filled.{defined_as, with_blocks, with_initialiser}
use Rattle.module_linker.specs.Stages.Parts.{IsResolved}
use Rattle.module_linker.specs.Stages.Definitions.{definition_of, entries_defined}
use Rattle.module_linker.proofs.OnFilling.Filled.{id_of}
use Rattle.module_linker.proofs.OnFilling.Within.{alias_within, function_within, variable_within}

-- ---- a declaration has nothing to define

-- a variable without an initialiser, or a function without a body
abbrev IsDeclaration : Global → Type 0
IsDeclaration (OfVariable v) = v.initialiser ≡ None
IsDeclaration (OfFunction f) = f.body ≡ None
IsDeclaration (OfAlias a) = ⊥

undefined : (m : Module) (id : GlobalId) (g : Global) → IsDeclaration g → defined_as m id g ≡ m
undefined m (global.Variable n) (OfVariable v) none = ap (with_initialiser m n) none
undefined m (global.Function n) (OfVariable v) none = refl
undefined m (global.Alias n) (OfVariable v) none = refl
undefined m (global.Variable n) (OfFunction f) none = refl
undefined m (global.Function n) (OfFunction f) none = ap (with_blocks m n) none
undefined m (global.Alias n) (OfFunction f) none = refl
undefined m (global.Variable n) (OfAlias a) none = refl
undefined m (global.Function n) (OfAlias a) none = refl
undefined m (global.Alias n) (OfAlias a) none = absurd none

type_declared : (linkage : Linkage) (parts : List Module) (name : Bytes) (i : ℕ) (t : AliasType) → IsDeclaration (declaration_of_type linkage parts name i t)
type_declared linkage parts name i (PlainType t) = refl
type_declared linkage parts name i (FunctionType signature) = refl

entry_declared : (linkage : Linkage) (parts : List Module) (name : Bytes) (i : ℕ) (g : Global) → IsDeclaration (linked_declaration linkage parts name i g)
entry_declared linkage parts name i (OfVariable v) = refl
entry_declared linkage parts name i (OfFunction f) = refl
entry_declared linkage parts name i (OfAlias a) = type_declared linkage parts name i a.ty

first_declared : (parts : List Module) (s : Symbol) (name : Bytes) (o : Option Entry) → IsDeclaration (linked_first parts s name o)
first_declared parts s name None = refl
first_declared parts s name (Some e) = entry_declared (declared_linkage parts s) parts name e.part e.global

-- ---- the row of a symbol

module _ (parts : List Lists) (r : Resolved) (resolved : IsResolved parts r) where
  pub as_many : length r.symbols ≡ length (linked_globals (modules parts))
  as_many =
      ap length (resolved.symbols ∙ sym (keys (modules parts)))
      ∙ length-map (renaming (modules parts)) (λ row. row.0)
      ∙ sym (length-map (renaming (modules parts)) (linked (modules parts)))

  module _ (k : ℕ) (s : Symbol) (at : slice_get r.symbols k ≡ Some s) where
    row : (name : Bytes) × (slice_get (renaming (modules parts)) k ≡ Some (s, name))
    row = row_of (renaming (modules parts)) k s (ap (λ l. slice_get l k) (keys (modules parts) ∙ sym resolved.symbols) ∙ at)

    -- its name
    pub name_here : Bytes
    name_here = row.0

    -- what is written of it
    pub global_here : Global
    global_here = linked (modules parts) (s, name_here)

    pub linked_there : slice_get (linked_globals (modules parts)) k ≡ Some global_here
    unfolding name_here global_here
    linked_there = slice_get-map (linked (modules parts)) (renaming (modules parts)) k ∙ ap (option_map (linked (modules parts))) row.1

    -- where it is not defined
    pub nothing_to_define : home_in r.groups r.homes s ≡ None → (m : Module) (id : GlobalId) → m ≡ defined_as m id global_here
    unfolding global_here
    nothing_to_define none m id =
        let nowhere : home (modules parts) s ≡ None = sym (home_at parts r.groups r.homes resolved.bindings.homes resolved.bindings.groups s) ∙ ap (option_map (seen (modules parts))) none in
        let o = first (entries_of (modules parts) s) in
        sym (ap (λ h. defined_as m id (linked_by (modules parts) s name_here h)) nowhere ∙ undefined m id (linked_first (modules parts) s name_here o) (first_declared (modules parts) s name_here o))

    -- where it is
    module _ (id : EntryId) (found : home_in r.groups r.homes s ≡ Some id) where
      home_there : IsEntryId parts id × (is_definition (seen (modules parts) id) ≡ true)
      home_there = subst (IsHome parts) found (home_known parts r.groups r.homes resolved.bindings.homes s)

      pub home_is_entry : IsEntryId parts id
      home_is_entry = home_there.0

      pub definition_here : global_here ≡ definition_of parts id (group_in r.groups s) name_here
      unfolding global_here
      definition_here =
          let there : home (modules parts) s ≡ Some (seen (modules parts) id) = sym (home_at parts r.groups r.homes resolved.bindings.homes resolved.bindings.groups s) ∙ ap (option_map (seen (modules parts))) found in
          ap (linked_by (modules parts) s name_here) there
          ∙ ap (λ es. linked_definition (modules parts) name_here (seen (modules parts) id) (filter is_definition es) (seen (modules parts) id).global) (sym (resolved.bindings.groups.groups s))

-- ---- what is declared is of the kind of its home

abbrev pub IsOfKind : GlobalId → SymbolKind → Type 0
IsOfKind (global.Variable n) k = k ≡ kind.Variable
IsOfKind (global.Function n) k = k ≡ kind.Function
IsOfKind (global.Alias n) k = k ≡ kind.Alias

pub kind_same : (parts : List Lists) (id : EntryId) → IsEntryId parts id → (ids : List EntryId) (name : Bytes) (xs : List Global) → IsOfKind (id_of xs (definition_of parts id ids name)) id.kind
kind_same parts id known ids name xs = by id.kind refl
  where
    at : (e : Entry) → seen (modules parts) id ≡ e → (k : SymbolKind) → IsOfKind (id_of xs (linked_definition (modules parts) name e (entries_defined parts ids) e.global)) k → IsOfKind (id_of xs (definition_of parts id ids name)) k
    at e is k h = subst (λ (x : Entry). IsOfKind (id_of xs (linked_definition (modules parts) name x (entries_defined parts ids) x.global)) k) (sym is) h

    by : (k : SymbolKind) → id.kind ≡ k → IsOfKind (id_of xs (definition_of parts id ids name)) k
    by kind.Variable is =
        let v = get_within known.0.variables id.number (variable_within parts id known.0 known known.1 is) in
        at _ (variable_seen parts id known.0 known.1 v.0 is v.1) kind.Variable refl
    by kind.Function is =
        let f = get_within known.0.functions id.number (function_within parts id known.0 known known.1 is) in
        at _ (function_seen parts id known.0 known.1 f.0 is f.1) kind.Function refl
    by kind.Alias is =
        let x = get_within known.0.aliases id.number (alias_within parts id known.0 known known.1 is) in
        at _ (alias_seen parts id known.0 known.1 x.0 is x.1) kind.Alias refl
