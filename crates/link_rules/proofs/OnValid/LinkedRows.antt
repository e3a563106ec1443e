-- Each entry of the linked module holds what it is asked for.
use Rattle.std.proofs.Common.{◌≡◌, ℕ, suc, Bool, true, false, not, ◌&&◌, ◌⊎◌, inl, inr, List, [], ◌∷◌, map, length, Option, Some, None, refl, sym, ap, ◌∙◌, subst, option_map, filter, filter_map, flat_map, is_some}
use Rattle.std.specs.Prelude.{slice_get, if◌then◌else◌, nat_le}
use Rattle.std.specs.Option.{option_or}
use Rattle.std.specs.List.{AllByRecursion}
use Rattle.std.proofs.lemmas.Bool.{and_from, and_parts, cases_Bool, both_ways, cond-true, cond-false, false_from_ne_true}
use Rattle.std.proofs.lemmas.Option.{same_Some}
use Rattle.ir_tables.specs.declared.linkage.Linkage.{Linkage}
use Rattle.ir_tables.specs.declared.linkage.Linkage.TheVariants.{External, Private, Internal, Common, Appending, ExternWeak, AvailableExternally, Linkonce, LinkonceOdr, Weak, WeakOdr}
use Rattle.type_table.specs.Tree.{Tree}
use Rattle.module_arena.specs.Module.{Bytes, Signature, Parameter, Variable, Alias, Function, Module}
use Rattle.module_arena.specs.Renamed.{renamed_tree, renamed_alias_type, renamed_signature}
use Rattle.module_arena.specs.HostRows.{signature_of}
use Rattle.module_arena.specs.LayoutText.{has_own_layout}
use Rattle.module_arena.specs.Valid.{AllHold, IsValid, variable_demands, alias_demands, function_demands}
use Rattle.module_arena.proofs.Parts.{both_hold}
use Rattle.linkage_rules.specs.Globals.{Global, OfVariable, OfFunction, OfAlias, name_of, linkage_of, is_written, stated}
use Rattle.linkage_rules.specs.Linkages.{is_local, is_available_externally, is_appending, is_common}
use Rattle.linkage_rules.specs.Lists.{first, has}
use Rattle.linkage_rules.specs.Entries.{Entry, entries, part_at, same_symbol, symbol_of, entries_of}
use Rattle.linkage_rules.specs.declared.symbol.Symbol.{Symbol}
use Rattle.linkage_rules.specs.declared.symbol.Symbol.TheVariants.{Shared, Local}
use Rattle.linkage_rules.specs.Winner.{is_definition, gives_way, better, best, definitions, home}
use Rattle.linkage_rules.specs.Symbols.{symbols}
use Rattle.linkage_rules.specs.Bind.{all_extern_weak}
use Rattle.linkage_rules.specs.Addresses.{commons, greatest_common}
use Rattle.linkage_rules.specs.SymbolLaws.{symbol_exact}
use Rattle.link_rules.proofs.Symbols.{home_is}
use Rattle.link_rules.specs.Rename.{renaming, all_names, base_of, shared_names, new_global}
use Rattle.link_rules.specs.Structs.{new_struct, linked_type}
use Rattle.link_rules.specs.Linked.{linked_constant, joined_type, joined_initialiser, joined_alignment, linked_definition, declared_parameters, declared_linkage, linked_declaration, linked_first, linked_by, linked, linked_globals, variable_if, function_if, alias_if, first_of, link_result}
use Rattle.link_rules.proofs.Agreed.{none_passes}
use Rattle.link_rules.proofs.Names.{shared_stays}
use Rattle.link_rules.proofs.Merged.{Row}
use Rattle.link_rules.proofs.Bound.{has_first}
use Rattle.link_rules.proofs.Searches.{at_all}
use Rattle.link_rules.proofs.OnValid.Entries.{renamed_variable, variable_holds, function_holds, alias_holds}
use Rattle.link_rules.proofs.OnValid.Declarations.{variable_declared, function_declared}
use Rattle.link_rules.proofs.OnValid.PartEntries.{HasAt, EntryHolds, entry_holds, entries_at, variable_plain, function_plain, alias_plain}
use Rattle.link_rules.specs.Valid.Laws.{AreLinkable}
use Rattle.link_rules.proofs.OnValid.Renaming.{good_at, valid_at, together}
use Rattle.link_rules.proofs.OnValid.Callees.{part_renames, new_plain, shared_symbol}
use Rattle.module_arena.specs.EntryRules as rules
use Rattle.linkage_rules.proofs.Entries.{all_follow}
use Rattle.link_rules.proofs.Targets.{lasting_stays}

-- the alignment that several commons come to is one
abbrev pub CommonsAligned : List Module → Type 0
CommonsAligned parts = (s : Symbol) → rules.alignment_suits (greatest_common parts (definitions parts s)) ≡ true

-- what an alias that is kept is of is in the linked module such a definition still
abbrev pub TargetsKept : List Module → Type 0
TargetsKept parts = (s : Symbol) (e : Entry) (a : Alias) → home parts s ≡ Some e → e.global ≡ OfAlias a → rules.target_suits (link_result parts) (renamed_alias_type (new_struct parts e.part) a.ty) (new_global parts e.part a.target) ≡ true

-- an array that is appended holds what it is asked for
abbrev pub AppendedHolds : List Module → Type 0
AppendedHolds parts = (s : Symbol) (new : Bytes) (place : ℕ) (e : Entry) → slice_get (renaming parts) place ≡ Some (s, new) → home parts s ≡ Some e → is_appending (linkage_of e.global) ≡ true → EntryHolds (link_result parts) (linked_definition parts new e (definitions parts s) e.global)

-- the tests of linkages of both layers are one
pub appending_same : (l : Linkage) → rules.is_appending l ≡ is_appending l
appending_same External = refl
appending_same Private = refl
appending_same Internal = refl
appending_same Common = refl
appending_same Appending = refl
appending_same ExternWeak = refl
appending_same AvailableExternally = refl
appending_same Linkonce = refl
appending_same LinkonceOdr = refl
appending_same Weak = refl
appending_same WeakOdr = refl

-- an appending variable is not available_externally
appending_here : (l : Linkage) → rules.is_appending l ≡ true → not (is_available_externally l) ≡ true
appending_here Appending h = refl
appending_here External h = cc
appending_here Private h = cc
appending_here Internal h = cc
appending_here Common h = cc
appending_here ExternWeak h = cc
appending_here AvailableExternally h = cc
appending_here Linkonce h = cc
appending_here LinkonceOdr h = cc
appending_here Weak h = cc
appending_here WeakOdr h = cc

appending_written : (b : Bool) (l : Linkage) → rules.linkage_suits b l ≡ true → rules.is_appending l ≡ true → b ≡ true
appending_written true l h k = refl
appending_written false Appending h k = cc
appending_written false External h k = cc
appending_written false ExternWeak h k = cc
appending_written false Private h k = cc
appending_written false Internal h k = cc
appending_written false Common h k = cc
appending_written false AvailableExternally h k = cc
appending_written false Linkonce h k = cc
appending_written false LinkonceOdr h k = cc
appending_written false Weak h k = cc
appending_written false WeakOdr h k = cc

declared_suits : (b : Bool) → rules.linkage_suits false (if b then ExternWeak else External) ≡ true
declared_suits true = refl
declared_suits false = refl

abbrev filter_by : Symbol → List Entry → List Entry
filter_by s es = filter (λ e. same_symbol s (symbol_of e)) es

pub first_is : (s : Symbol) (es : List Entry) (e : Entry) → first (filter_by s es) ≡ Some e → (k : ℕ) × (slice_get es k ≡ Some e) × (same_symbol s (symbol_of e) ≡ true)
first_is s [] e h = cc
first_is s (d ∷ es) e h = go (cases_Bool (same_symbol s (symbol_of d))) (first_is s es e)
  where
    go : (same_symbol s (symbol_of d) ≡ true) ⊎ (same_symbol s (symbol_of d) ≡ false) → (first (filter_by s es) ≡ Some e → (k : ℕ) × (slice_get es k ≡ Some e) × (same_symbol s (symbol_of e) ≡ true)) → (k : ℕ) × (slice_get (d ∷ es) k ≡ Some e) × (same_symbol s (symbol_of e) ≡ true)
    go (inl t) more =
        let is : d ≡ e = same_Some d e (sym (ap first (cond-true (same_symbol s (symbol_of d)) _ _ t)) ∙ h) in
        (0, ap Some is, subst (λ z. same_symbol s (symbol_of z) ≡ true) is t)
    go (inr f) more = let r = more (sym (ap first (cond-false (same_symbol s (symbol_of d)) _ _ f)) ∙ h) in (suc r.0, r.1, r.2)

module _ (parts : List Module) where
  better_none : (e : Entry) (o : Option Entry) → better parts e o ≡ None → ⊥
  better_none e None h = cc
  better_none e (Some y) h = go (gives_way parts e y) h
    where
      go : (b : Bool) → (if b then Some y else Some e) ≡ None → ⊥
      go true h = cc
      go false h = cc

  best_none : (es : List Entry) → best parts es ≡ None → es ≡ []
  best_none [] h = refl
  best_none (e ∷ es) h = absurd (better_none e (best parts es) h)

  first_all : (P : Entry → Type 0) (es : List Entry) (e : Entry) → first es ≡ Some e → AllByRecursion P es → P e
  first_all P [] e h a = cc
  first_all P (d ∷ es) e h a = subst P (same_Some d e h) a.0

  -- the first entry of a symbol that is nowhere defined is no definition
  pub undefined_first : (s : Symbol) (e : Entry) → home parts s ≡ None → first (entries_of parts s) ≡ Some e → is_definition e ≡ false
  undefined_first s e none is = first_all (λ d. is_definition d ≡ false) (entries_of parts s) e is (none_passes is_definition (entries_of parts s) (best_none (definitions parts s) none))

-- the new name of a symbol that is not local
pub shared_new : (parts : List Module) (place : ℕ) (s : Symbol) (new : Bytes) (e : Entry) → slice_get (renaming parts) place ≡ Some (s, new) → symbol_of e ≡ s → is_local (linkage_of e.global) ≡ false → new ≡ name_of e.global
shared_new parts place (Shared n) new e at is f =
    let same : Shared (name_of e.global) ≡ Shared n = sym (shared_symbol e f) ∙ is in
    let named : name_of e.global ≡ n = cc in
    shared_stays base_of (all_names parts) (shared_names (symbols parts)) (symbols parts) place n new at ∙ sym named
shared_new parts place (Local j n) new e at is f = let no : Shared (name_of e.global) ≡ Local j n = sym (shared_symbol e f) ∙ is in cc

pub declared_types : (parts : List Module) (i k : ℕ) (ps : List Parameter) → map (λ (p : Parameter). p.ty) (declared_parameters parts i k ps) ≡ map (renamed_tree (new_struct parts i)) (map (λ (p : Parameter). p.ty) ps)
declared_types parts i k [] = refl
declared_types parts i k (p ∷ ps) = ap (λ l. linked_type parts i p.ty ∷ l) (declared_types parts i (suc k) ps)

module _ (parts : List Module) (fine : AreLinkable parts) (aligned : CommonsAligned parts) (targets : TargetsKept parts) (appended : AppendedHolds parts) where
  abbrev result : Module
  result = link_result parts

  module _ (place : ℕ) (s : Symbol) (new : Bytes) (at : slice_get (renaming parts) place ≡ Some (s, new)) (e : Entry) (is : symbol_of e ≡ s) where
    abbrev part : Module
    part = part_at parts e.part

    unlike : (name : Bytes) → name_of e.global ≡ name → rules.is_llvm_name name ≡ false → rules.is_llvm_name new ≡ false
    unlike name named h = new_plain parts place s new e at is (ap rules.is_llvm_name named ∙ h)

    pub joined_aligned : (v : Variable) → e.global ≡ OfVariable v → is_appending (linkage_of e.global) ≡ false → rules.alignment_suits v.alignment ≡ true → rules.alignment_suits (joined_alignment parts e (definitions parts s)) ≡ true
    joined_aligned v eq f h =
        ap rules.alignment_suits (cond-false (is_appending (linkage_of e.global)) _ _ f)
        ∙ go (is_common (linkage_of e.global) && nat_le 2 (length (commons (definitions parts s))))
      where
        go : (b : Bool) → rules.alignment_suits (if b then greatest_common parts (definitions parts s) else stated e.global) ≡ true
        go true = aligned s
        go false = ap (λ g. rules.alignment_suits (stated g)) eq ∙ h

    variable_row : (v : Variable) → e.global ≡ OfVariable v → HasAt part (OfVariable v) → EntryHolds part (OfVariable v) → is_appending (linkage_of e.global) ≡ false → EntryHolds result (linked_definition parts new e (definitions parts s) (OfVariable v))
    variable_row v eq has holds f =
        let plain : rules.is_appending v.linkage ≡ false = appending_same v.linkage ∙ sym (ap (λ g. is_appending (linkage_of g)) eq) ∙ f in
        let types : joined_type parts e (definitions parts s) v.ty ≡ linked_type parts e.part v.ty = cond-false (is_appending (linkage_of e.global)) _ _ f in
        let initialisers : joined_initialiser parts e (definitions parts s) v.initialiser ≡ option_map (linked_constant parts e.part) v.initialiser = cond-false (is_appending (linkage_of e.global)) _ _ f in
        let same : Variable = renamed_variable (new_struct parts e.part) (new_global parts e.part) new (joined_alignment parts e (definitions parts s)) v in
        let is_same : same ≡ record same { ty = joined_type parts e (definitions parts s) v.ty; initialiser = joined_initialiser parts e (definitions parts s) v.initialiser } = λ k. record same { ty = sym types k; initialiser = sym initialisers k } in
        subst (λ (w : Variable). AllHold (variable_demands result w)) is_same
        (variable_holds part result (new_struct parts e.part) (new_global parts e.part) (part_renames parts fine e.part) (good_at parts fine e.part) has.0 v has.1
        new (joined_alignment parts e (definitions parts s)) plain (unlike v.name (ap name_of eq) (variable_plain part v holds plain)) (joined_aligned v eq f holds.1.1.1.1.1.0) holds)

    definition_row : (g : Global) → e.global ≡ g → HasAt part g → EntryHolds part g → is_definition e ≡ true → home parts s ≡ Some e → EntryHolds result (linked_definition parts new e (definitions parts s) g)
    definition_row (OfVariable v) eq has holds defined h = go (cases_Bool (is_appending (linkage_of e.global)))
      where
        go : (is_appending (linkage_of e.global) ≡ true) ⊎ (is_appending (linkage_of e.global) ≡ false) → EntryHolds result (linked_definition parts new e (definitions parts s) (OfVariable v))
        go (inl t) = subst (λ g. EntryHolds result (linked_definition parts new e (definitions parts s) g)) eq (appended s new place e at h t)
        go (inr f) = variable_row v eq has holds f
    definition_row (OfFunction f) eq has holds defined h =
        function_holds part result (new_struct parts e.part) (new_global parts e.part) (part_renames parts fine e.part) (good_at parts fine e.part) has.0 f has.1 new
        (unlike f.name (ap name_of eq) (function_plain part f holds (sym (ap is_written eq) ∙ (and_parts (is_written e.global) _ defined).0))) holds
    definition_row (OfAlias a) eq has holds defined h =
        alias_holds part result (new_struct parts e.part) (new_global parts e.part) (part_renames parts fine e.part) (good_at parts fine e.part) has.0 a has.1 new
        (unlike a.name (ap name_of eq) (alias_plain part a holds)) (targets s e a h eq) holds

    -- DECLARATIONS

    module _ (undefined : is_definition e ≡ false) (local : is_local (linkage_of e.global) ≡ false) where
      written_here : (g : Global) → e.global ≡ g → is_written g ≡ true → not (is_available_externally (linkage_of g)) ≡ true → ⊥
      written_here g eq w a = both_ways _ undefined (and_from _ _ (ap is_written eq ∙ w) (ap (λ h. not (is_available_externally (linkage_of h))) eq ∙ a))

      declared_row : (g : Global) → e.global ≡ g → HasAt part g → EntryHolds part g → EntryHolds result (linked_declaration (declared_linkage parts s) parts new e.part g)
      declared_row (OfVariable v) eq has holds =
          let named : new ≡ v.name = shared_new parts place s new e at is local ∙ ap name_of eq in
          let plain : rules.is_appending v.linkage ≡ false = false_from_ne_true _ (λ t. written_here (OfVariable v) eq (appending_written (is_some v.initialiser) v.linkage holds.0 t) (appending_here v.linkage t)) in
          subst (λ (n : Bytes). AllHold (variable_demands result (record { name = n; linkage = declared_linkage parts s; constant = v.constant; ty = linked_type parts e.part v.ty; alignment = v.alignment; initialiser = None }))) (sym named)
          (variable_declared part result (new_struct parts e.part) (new_global parts e.part) (part_renames parts fine e.part) (good_at parts fine e.part) has.0 v has.1
          (declared_linkage parts s) (declared_suits (all_extern_weak parts s)) plain (variable_plain part v holds plain) holds)
      declared_row (OfFunction f) eq has holds =
          let g : Function = record { name = new; linkage = declared_linkage parts s; returns = linked_type parts e.part f.returns; parameters = declared_parameters parts e.part 0 f.parameters; variadic = f.variadic; body = None } in
          let types : signature_of g ≡ renamed_signature (new_struct parts e.part) (signature_of f) = ap (λ (ts : List Tree). let t : Signature = record { returns = linked_type parts e.part f.returns; parameters = ts; variadic = f.variadic } in t) (declared_types parts e.part 0 f.parameters) in
          function_declared part result (new_struct parts e.part) (new_global parts e.part) (part_renames parts fine e.part) (good_at parts fine e.part) has.0 f g has.1
          (record { name = shared_new parts place s new e at is local ∙ ap name_of eq; types = types; body = refl }) (declared_suits (all_extern_weak parts s)) holds
      declared_row (OfAlias a) eq has holds = absurd (written_here (OfAlias a) eq refl (lasting_stays a.linkage (and_parts (rules.is_lasting a.linkage) _ holds.1.1.1.1.1.0).0))

  -- ROWS

  entry_facts : AllByRecursion (λ e. HasAt (part_at parts e.part) e.global × EntryHolds (part_at parts e.part) e.global) (entries parts)
  entry_facts = all_follow (λ e. HasAt (part_at parts e.part) e.global) _ (entries parts) (λ e has. (has, entry_holds (part_at parts e.part) e.global (valid_at parts fine e.part) has)) (entries_at parts)

  row_by : (place : ℕ) (s : Symbol) (new : Bytes) → slice_get (renaming parts) place ≡ Some (s, new) → (o : Option Entry) → home parts s ≡ o → EntryHolds result (linked_by parts s new o)
  row_by place s new at (Some e) h =
      let found = home_is parts _ s e entry_facts h in
      definition_row place s new at e (sym (symbol_exact s (symbol_of e) found.0.1)) e.global refl found.0.0.0 found.0.0.1 found.1 h
  row_by place s new at None h =
      let first_entry = has_first parts (together parts fine) place s new at in
      let e = first_entry.0 in
      let found = first_is s (entries parts) e first_entry.1 in
      let facts = at_all _ (entries parts) found.0 e entry_facts found.1 in
      let undefined = undefined_first parts s e h first_entry.1 in
      let local = false_from_ne_true _ (λ t. both_ways _ undefined (at_all _ (entries parts) found.0 e (together parts fine).locals found.1 t)) in
      subst (λ (o : Option Entry). EntryHolds result (linked_first parts s new o)) (sym first_entry.1)
      (declared_row place s new at e (sym (symbol_exact s (symbol_of e) found.2)) undefined local e.global refl facts.0 facts.1)

  rows_hold : (rows : List Row) → ((k : ℕ) (r : Row) → slice_get rows k ≡ Some r → slice_get (renaming parts) k ≡ slice_get (renaming parts) k → EntryHolds result (linked parts r)) → AllByRecursion (EntryHolds result) (map (linked parts) rows)
  rows_hold [] f = tt
  rows_hold (r ∷ rows) f = (f 0 r refl refl, rows_hold rows (λ k q e u. f (suc k) q e refl))

  pub globals_hold : AllByRecursion (EntryHolds result) (linked_globals parts)
  globals_hold = rows_hold (renaming parts) (λ k r e u. row_by k r.0 r.1 e (home parts r.0) refl)

-- A MODULE OF WHICH EACH ENTRY HOLDS

variables_valid : (m : Module) (gs : List Global) → AllByRecursion (EntryHolds m) gs → AllHold (flat_map (variable_demands m) (filter_map variable_if gs))
variables_valid m [] a = tt
variables_valid m (OfVariable v ∷ gs) a = both_hold (variable_demands m v) _ a.0 (variables_valid m gs a.1)
variables_valid m (OfFunction f ∷ gs) a = variables_valid m gs a.1
variables_valid m (OfAlias b ∷ gs) a = variables_valid m gs a.1

aliases_valid : (m : Module) (gs : List Global) → AllByRecursion (EntryHolds m) gs → AllHold (flat_map (alias_demands m) (filter_map alias_if gs))
aliases_valid m [] a = tt
aliases_valid m (OfAlias b ∷ gs) a = both_hold (alias_demands m b) _ a.0 (aliases_valid m gs a.1)
aliases_valid m (OfVariable v ∷ gs) a = aliases_valid m gs a.1
aliases_valid m (OfFunction f ∷ gs) a = aliases_valid m gs a.1

functions_valid : (m : Module) (gs : List Global) → AllByRecursion (EntryHolds m) gs → AllHold (flat_map (function_demands m) (filter_map function_if gs))
functions_valid m [] a = tt
functions_valid m (OfFunction f ∷ gs) a = both_hold (function_demands m f) _ a.0 (functions_valid m gs a.1)
functions_valid m (OfVariable v ∷ gs) a = functions_valid m gs a.1
functions_valid m (OfAlias b ∷ gs) a = functions_valid m gs a.1

-- the text of the layout is that of a part
layout_own : (parts : List Module) → AllByRecursion IsValid parts → has_own_layout (first_of (λ (m : Module). m.layout) parts) ≡ true
layout_own [] a = refl
layout_own (m ∷ parts) a = go m.layout a.0.0 (layout_own parts a.1)
  where
    go : (o : Option Bytes) → has_own_layout o ≡ true → has_own_layout (first_of (λ (m : Module). m.layout) parts) ≡ true → has_own_layout (option_or o (first_of (λ (m : Module). m.layout) parts)) ≡ true
    go None h more = more
    go (Some text) h more = h

-- Linked parts are valid, if three things hold that are left open: the alignments of commons, the targets of aliases and
-- the arrays that are appended
pub linked_is_valid : (parts : List Module) → AreLinkable parts → CommonsAligned parts → TargetsKept parts → AppendedHolds parts → IsValid (link_result parts)
linked_is_valid parts fine aligned targets appended =
    let all = globals_hold parts fine aligned targets appended in (
      layout_own parts fine.valid,
      both_hold (flat_map (variable_demands (link_result parts)) (link_result parts).variables) _ (variables_valid (link_result parts) (linked_globals parts) all)
          (both_hold (flat_map (alias_demands (link_result parts)) (link_result parts).aliases) _ (aliases_valid (link_result parts) (linked_globals parts) all)
          (functions_valid (link_result parts) (linked_globals parts) all)),
    )
