-- A symbol is written as its home says, or else as in its first entry, which is no alias.
use Rattle.std.proofs.Common.{◌≡◌, ℕ, ◌<◌, Bool, true, false, cond, List, [], ◌∷◌, map, length, slice_get, Option, Some, None, refl, sym, subst, ap, ◌∙◌, filter, arith}
use Rattle.std.specs.List.{list_all, AllByRecursion}
use Rattle.std.specs.Prelude.{if◌then◌else◌}
use Rattle.std.specs.Option.{option_map}
use Rattle.std.proofs.lemmas.Bool.{and_parts, both_ways, false≢true}
use Rattle.std.proofs.lemmas.Option.{same_Some}
use Rattle.ir_tables.specs.declared.linkage.Linkage.TheVariants.{External, ExternWeak}
use Rattle.module_arena.specs.EntryRules.{is_lasting, target_suits, alias_suits}
use Rattle.module_arena.specs.Lists.{Lists}
use Rattle.module_arena.specs.Module.{Bytes, Alias, Module}
use Rattle.module_arena.specs.Valid.{IsValid}
use Rattle.linkage_rules.specs.declared.entry.EntryId.{EntryId}
use Rattle.linkage_rules.specs.declared.symbol.Symbol.{Symbol}
use Rattle.linkage_rules.specs.Entries.{Entry, entries, entries_of, part_at, same_symbol, symbol_of}
use Rattle.linkage_rules.specs.Globals.{Global, OfVariable, OfFunction, OfAlias, globals, is_alias, linkage_of}
use Rattle.linkage_rules.specs.Grouped.{group_in, home_in}
use Rattle.linkage_rules.specs.Ids.{IsEntryId, modules, seen}
use Rattle.linkage_rules.specs.Linkages.{is_extern_weak}
use Rattle.linkage_rules.specs.Lists.{first}
use Rattle.linkage_rules.specs.Resolved.{Resolved}
use Rattle.linkage_rules.specs.SymbolLaws.{symbol_self, symbol_exact}
use Rattle.linkage_rules.specs.Symbols.{symbols}
use Rattle.linkage_rules.specs.Winner.{best, better, gives_way, is_definition, definitions, home}
use Rattle.linkage_rules.proofs.Entries.{all_follow}
use Rattle.linkage_rules.proofs.Seen.{seen_part}
use Rattle.linkage_rules.proofs.Standing.{home_at}
use Rattle.link_rules.specs.Carried.{IsSymbol}
use Rattle.link_rules.specs.Linked.{linked, linked_by, linked_definition, linked_declaration, linked_first}
use Rattle.link_rules.specs.Rename.{renaming}
use Rattle.link_rules.proofs.Agreed.{none_passes}
use Rattle.link_rules.proofs.Apart.{at_has}
use Rattle.link_rules.proofs.Asked.{aliases_suit}
use Rattle.link_rules.proofs.Bound.{row_of, has_first}
use Rattle.link_rules.proofs.Carrying.{together}
use Rattle.link_rules.proofs.Merged.{keys}
use Rattle.link_rules.proofs.Parts.{entries_by, globals_all}
use Rattle.link_rules.proofs.Symbols.{all_filter}
use Rattle.link_rules.proofs.Targets.{lasting_stays}
use Rattle.module_linker.specs.Stages.Parts.{CanLink, IsResolved}
use Rattle.module_linker.specs.Entries.Definitions.{definition_of, declaration_of, linkage_among}

-- ---- an alias is a definition

abbrev AliasDefines : ℕ → Global → Type 0
AliasDefines i g = is_alias g ≡ true → is_definition (record { part = i; global = g }) ≡ true

always : {A : Type 0} (P : A → Type 0) (xs : List A) → ((x : A) → P x) → AllByRecursion P xs
always P [] f = tt
always P (x ∷ xs) f = (f x, always P xs f)

in_part : (m : Module) → IsValid m → (i : ℕ) → AllByRecursion (AliasDefines i) (globals m)
in_part m valid i =
    globals_all (AliasDefines i) m
    (always (λ v. AliasDefines i (OfVariable v)) m.variables (λ v h. absurd (false≢true h)))
    (always (λ f. AliasDefines i (OfFunction f)) m.functions (λ f h. absurd (false≢true h)))
    (all_follow (λ (a : Alias). alias_suits m a ≡ true) (λ a. AliasDefines i (OfAlias a)) m.aliases (λ a suits h. lasting_stays a.linkage (and_parts (is_lasting a.linkage) (target_suits m a.ty a.target) suits).0) (aliases_suit m valid))

aliases_define : (ms : List Module) → AllByRecursion IsValid ms → AllByRecursion (λ e. is_alias e.global ≡ true → is_definition e ≡ true) (entries ms)
aliases_define ms valid = entries_by IsValid AliasDefines ms valid (λ i v. in_part (part_at ms i) v i)

-- ---- without a definition there is no home

module _ (ms : List Module) where
  better_some : (e : Entry) (o : Option Entry) → better ms e o ≡ None → ⊥
  better_some e None h = cc
  better_some e (Some y) h = go (gives_way ms e y) h
    where
      go : (b : Bool) → cond b (Some y) (Some e) ≡ None → ⊥
      go true h = cc
      go false h = cc

  none_defines : (es : List Entry) → best ms es ≡ None → es ≡ []
  none_defines [] h = refl
  none_defines (e ∷ es) h = absurd (better_some e (best ms es) h)

  first_no_alias : (es : List Entry) (e : Entry) → AllByRecursion (λ d. is_alias d.global ≡ true → is_definition d ≡ true) es → filter is_definition es ≡ [] → first es ≡ Some e → is_alias e.global ≡ false
  first_no_alias [] e all none h = cc
  first_no_alias (d ∷ es) e all none h =
      let same = same_Some d e h in
      subst (λ x. is_alias x.global ≡ false) same (go (is_alias d.global) refl all.0 (none_passes is_definition (d ∷ es) none).0)
    where
      go : (b : Bool) → is_alias d.global ≡ b → (is_alias d.global ≡ true → is_definition d ≡ true) → is_definition d ≡ false → is_alias d.global ≡ false
      go true t defines not_one = absurd (both_ways (is_definition d) not_one (defines t))
      go false t defines not_one = t

-- ---- a symbol

module _ (parts : List Lists) (r : Resolved) (are : IsResolved parts r) (s : Symbol) (name : Bytes) where
  abbrev ids : List EntryId
  ids = group_in r.groups s

  home_is : home (modules parts) s ≡ option_map (seen (modules parts)) (home_in r.groups r.homes s)
  home_is = sym (home_at parts r.groups r.homes are.bindings.homes are.bindings.groups s)

  pub defined_is : (id : EntryId) → home_in r.groups r.homes s ≡ Some id → linked (modules parts) (s, name) ≡ definition_of parts id ids name
  defined_is id at =
      ap (linked_by (modules parts) s name) (home_is ∙ ap (option_map (seen (modules parts))) at)
      ∙ ap (λ es. linked_definition (modules parts) name (seen (modules parts) id) es (seen (modules parts) id).global) (sym (ap (filter is_definition) (are.bindings.groups.groups s)))

  module _ (can : CanLink (modules parts)) (symbol : IsSymbol (modules parts) s) where
    some_first : (e : Entry) × (first (entries_of (modules parts) s) ≡ Some e)
    some_first =
        let at = at_has same_symbol symbol_self symbol_exact (symbols (modules parts)) s symbol in
        let row = row_of (renaming (modules parts)) at.0 s (ap (λ l. slice_get l at.0) (keys (modules parts)) ∙ at.1) in
        has_first (modules parts) (together (modules parts) can.good can.valid can.agree) at.0 s row.0 row.1

    pub has_entry : 0 < length ids
    has_entry = go ids (ap first (are.bindings.groups.groups s) ∙ some_first.1)
      where
        go : (l : List EntryId) → first (map (seen (modules parts)) l) ≡ Some some_first.0 → 0 < length l
        go [] h = cc
        go (x ∷ l) h = omega arith

    module _ (none : home_in r.groups r.homes s ≡ None) (id : EntryId) (at : slice_get ids 0 ≡ Some id) where
      first_is : first (entries_of (modules parts) s) ≡ Some (seen (modules parts) id)
      first_is = ap first (sym (are.bindings.groups.groups s)) ∙ go ids at
        where
          go : (l : List EntryId) → slice_get l 0 ≡ Some id → first (map (seen (modules parts)) l) ≡ Some (seen (modules parts) id)
          go [] h = cc
          go (x ∷ l) h = ap (option_map (seen (modules parts))) h

      pub declared_is : IsEntryId parts id → linked (modules parts) (s, name) ≡ declaration_of parts id ids name
      declared_is known =
          ap (linked_by (modules parts) s name) (home_is ∙ ap (option_map (seen (modules parts))) none)
          ∙ ap (linked_first (modules parts) s name) first_is
          ∙ ap (λ es. linked_declaration (if list_all (λ (e : Entry). is_extern_weak (linkage_of e.global)) es then ExternWeak else External) (modules parts) name (seen (modules parts) id).part (seen (modules parts) id).global) (sym (are.bindings.groups.groups s))
          ∙ ap (λ i. linked_declaration (linkage_among parts ids) (modules parts) name i (seen (modules parts) id).global) (seen_part parts id known)

      pub no_alias : is_alias (seen (modules parts) id).global ≡ false
      no_alias =
          first_no_alias (modules parts) (entries_of (modules parts) s) (seen (modules parts) id)
          (all_filter (λ d. is_alias d.global ≡ true → is_definition d ≡ true) (λ d. same_symbol s (symbol_of d)) (entries (modules parts)) (aliases_define (modules parts) can.valid))
          (none_defines (modules parts) (definitions (modules parts) s) (home_is ∙ ap (option_map (seen (modules parts))) none)) first_is
