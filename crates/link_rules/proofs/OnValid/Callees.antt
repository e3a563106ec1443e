-- What is no intrinsic in a part is none in the linked module, under its new name.
use Rattle.std.proofs.Common.{◌≡◌, ℕ, zero, suc, ◌+◌, Bool, true, false, ◌&&◌, ◌⊎◌, inl, inr, List, [], ◌∷◌, map, Some, refl, sym, ap, ap₂, ◌∙◌, subst, option_map, bytes_eq, nat_eq, arith}
use Rattle.std.specs.Prelude.{slice_get, slice_index_or, if◌then◌else◌}
use Rattle.std.specs.List.{list_any}
use Rattle.std.proofs.lemmas.Bool.{and_from, and_parts, and_left, and_right, and_cases, or_left, or_right, or_cases, cases_Bool, both_ways, false_from_ne_true, cond-true, cond-false, eqb-true}
use Rattle.std.proofs.lemmas.Cmp.{nat_eq_equiv}
use Rattle.std.proofs.lemmas.Option.{same_Some, slice_get-map}
use Rattle.module_arena.specs.Module.{Bytes, Function, Module, empty_module}
use Rattle.module_arena.specs.EntryRules.{is_llvm_name, has_function, is_only_called}
use Rattle.module_arena.specs.WellFormed.{has_entry}
use Rattle.linkage_rules.specs.Globals.{Global, OfVariable, OfFunction, OfAlias, name_of, linkage_of, is_variable, globals}
use Rattle.linkage_rules.specs.Linkages.{is_local}
use Rattle.linkage_rules.specs.Lists.{has}
use Rattle.linkage_rules.specs.Entries.{Entry, entries_from, entries, part_at, same_symbol, symbol_of, symbol_in}
use Rattle.linkage_rules.specs.declared.symbol.Symbol.{Symbol}
use Rattle.linkage_rules.specs.declared.symbol.Symbol.TheVariants.{Shared, Local}
use Rattle.linkage_rules.specs.Winner.{home}
use Rattle.linkage_rules.specs.Symbols.{symbols}
use Rattle.link_rules.proofs.Apart.{has_at, at_has}
use Rattle.linkage_rules.specs.SymbolLaws.{name_self, name_exact, symbol_self, symbol_exact}
use Rattle.link_rules.proofs.Symbols.{AreOfKind, symbol_local}
use Rattle.link_rules.specs.Rename.{renaming, all_names, base_of, shared_names, new_global}
use Rattle.link_rules.specs.Linked.{linked, linked_globals, link_result}
use Rattle.link_rules.proofs.Names.{shared_stays}
use Rattle.link_rules.proofs.Merged.{names, linked_name, linked_kind}
use Rattle.link_rules.proofs.Bound.{here}
use Rattle.link_rules.proofs.Searches.{at_all}
use Rattle.type_table.proofs.Rooms.{unmapped}
use Rattle.link_rules.specs.Structs.{new_struct}
use Rattle.link_rules.proofs.Agreed.{any_left, any_right}
use Rattle.link_rules.proofs.OnValid.Good.{Renames}
use Rattle.link_rules.proofs.OnValid.Structs.{linked_structs, linked_struct_there}
use Rattle.link_rules.proofs.OnValid.LlvmNames.{local_plain}
use Rattle.link_rules.proofs.OnValid.PartEntries.{HasAt, EntryHolds, entries_at, local_name_plain, alias_plain}
use Rattle.link_rules.proofs.OnValid.Linking.{entry_named, function_from, one_row}
use Rattle.link_rules.specs.Valid.Laws.{AreLinkable}
use Rattle.link_rules.proofs.OnValid.Renaming.{EntryOf, find_entry, good_at, entries_hold, together, row_of_name, entries_there}

-- ENTRIES OF A PART

-- an entry of part i that passes
abbrev stands : ℕ → (Global → Bool) → Entry → Bool
stands i q e = nat_eq i e.part && q e.global

in_part : (i : ℕ) (q : Global → Bool) (gs : List Global) → list_any q gs ≡ true → list_any (stands i q) (map (λ g. let e : Entry = record { part = i; global = g } in e) gs) ≡ true
in_part i q [] h = cc
in_part i q (g ∷ gs) h = go (or_cases (q g) _ h) (in_part i q gs)
  where
    go : (q g ≡ true) ⊎ (list_any q gs ≡ true) → (list_any q gs ≡ true → list_any (stands i q) (map (λ x. let e : Entry = record { part = i; global = x } in e) gs) ≡ true) → list_any (stands i q) (map (λ x. let e : Entry = record { part = i; global = x } in e) (g ∷ gs)) ≡ true
    go (inl k) more = or_left _ _ (and_from _ _ (nat_eq_equiv.refl i) k)
    go (inr k) more = or_right _ _ (more k)

entry_there : (j : ℕ) (ms : List Module) (i : ℕ) (q : Global → Bool) → list_any q (globals (slice_index_or ms i empty_module)) ≡ true → list_any (stands (j + i) q) (entries_from j ms) ≡ true
entry_there j [] i q h = cc
entry_there j (m ∷ ms) zero q h =
    let same : j + 0 ≡ j = omega arith in
    subst (λ n. list_any (stands n q) (entries_from j (m ∷ ms)) ≡ true) (sym same) (any_left (stands j q) _ (entries_from (suc j) ms) (in_part j q (globals m) h))
entry_there j (m ∷ ms) (suc i) q h =
    let same : j + suc i ≡ suc j + i = omega arith in
    subst (λ n. list_any (stands n q) (entries_from j (m ∷ ms)) ≡ true) (sym same) (any_right (stands (suc j + i) q) _ (entries_from (suc j) ms) (entry_there (suc j) ms i q h))

-- where an entry of a part passes, one of all entries does
pub entry_where : (parts : List Module) (i : ℕ) (q : Global → Bool) → list_any q (globals (part_at parts i)) ≡ true → (k : ℕ) × (e : Entry) × (slice_get (entries parts) k ≡ Some e) × ((e.part ≡ i) × (q e.global ≡ true))
entry_where parts i q there =
    let found = find_entry (entries parts) (stands (0 + i) q) (entry_there 0 parts i q there) in
    let both = and_parts (nat_eq (0 + i) found.1.part) _ found.3 in
    (found.0, found.1, found.2, (sym (eqb-true (0 + i) found.1.part both.0) ∙ none i, both.1))
  where
    none : (k : ℕ) → 0 + k ≡ k
    none k = omega arith

-- a name that a part has an entry for is an entry's
pub entry_of : (parts : List Module) (i : ℕ) (name : Bytes) → has_entry (part_at parts i) name ≡ true → EntryOf parts i name
entry_of parts i name there =
    let found = entry_where parts i (λ g. bytes_eq name (name_of g)) (sym (entry_named (part_at parts i) name) ∙ there) in
    record { place = found.0; entry = found.1; at = found.2; part = found.3.0; named = sym (name_exact name (name_of found.1.global) found.3.1) }

-- an entry's symbol
pub local_symbol : (e : Entry) → is_local (linkage_of e.global) ≡ true → symbol_of e ≡ Local e.part (name_of e.global)
local_symbol e h = cond-true (is_local (linkage_of e.global)) _ _ h

pub shared_symbol : (e : Entry) → is_local (linkage_of e.global) ≡ false → symbol_of e ≡ Shared (name_of e.global)
shared_symbol e h = cond-false (is_local (linkage_of e.global)) _ _ h

shared_name : (b : Bool) (i : ℕ) (name n : Bytes) → (if b then Local i name else Shared name) ≡ Shared n → name ≡ n
shared_name true i name n h = let no : same_symbol (Shared n) (Local i name) ≡ true = subst (λ s. same_symbol (Shared n) s ≡ true) (sym h) (symbol_self (Shared n)) in cc
shared_name false i name n h = sym (name_exact n name (subst (λ s. same_symbol (Shared n) s ≡ true) (sym h) (symbol_self (Shared n))))

function_named : (fs : List Function) (k : ℕ) (f : Function) → slice_get fs k ≡ Some f → list_any (bytes_eq f.name) (map (λ (g : Function). g.name) fs) ≡ true
function_named [] k f at = cc
function_named (g ∷ fs) zero f at = or_left _ _ (subst (λ (h : Function). bytes_eq f.name h.name ≡ true) (sym (same_Some g f at)) (name_self f.name))
function_named (g ∷ fs) (suc k) f at = or_right (bytes_eq f.name g.name) _ (function_named fs k f at)

module _ (parts : List Module) (fine : AreLinkable parts) (i : ℕ) where
  -- the entry of a shared name is not local
  pub own_shared : (name : Bytes) (d : EntryOf parts i name) → symbol_in parts i name ≡ Shared name → symbol_of d.entry ≡ Shared name
  own_shared name d s = go (cases_Bool (is_local (linkage_of d.entry.global)))
    where
      go : (is_local (linkage_of d.entry.global) ≡ true) ⊎ (is_local (linkage_of d.entry.global) ≡ false) → symbol_of d.entry ≡ Shared name
      go (inr f) = shared_symbol d.entry f ∙ ap Shared d.named
      go (inl t) =
          let own : symbol_of d.entry ≡ Local i name = local_symbol d.entry t ∙ ap₂ Local d.part d.named in
          let there : has same_symbol (map symbol_of (entries parts)) (Local i name) ≡ true = has_at same_symbol symbol_self symbol_exact (map symbol_of (entries parts)) d.place (Local i name) (slice_get-map symbol_of (entries parts) d.place ∙ ap (option_map symbol_of) d.at ∙ ap Some own) in
          let no : Local i name ≡ Shared name = sym (cond-true (has same_symbol (map symbol_of (entries parts)) (Local i name)) _ _ there) ∙ s in
          cc

  -- an intrinsic's name is no function's where it is a variable's
  shared_case : (name : Bytes) (there : has_entry (part_at parts i) name ≡ true) (place : ℕ) → slice_get (renaming parts) place ≡ Some (Shared name, name) → symbol_in parts i name ≡ Shared name → is_llvm_name name ≡ true → has_function (part_at parts i) name ≡ false → has_function (link_result parts) name ≡ true → ⊥
  shared_case name there place at s llvm none found =
      let d = entry_of parts i name there in
      let is : HasAt (part_at parts i) d.entry.global = subst (λ j. HasAt (part_at parts j) d.entry.global) d.part (at_all (λ e. HasAt (part_at parts e.part) e.global) (entries parts) d.place d.entry (entries_at parts) d.at) in
      let holds : EntryHolds (part_at parts i) d.entry.global = subst (λ j. EntryHolds (part_at parts j) d.entry.global) d.part (at_all (λ e. EntryHolds (part_at parts e.part) e.global) (entries parts) d.place d.entry (entries_hold parts fine) d.at) in
      let own = own_shared name d s in
      let kind : AreOfKind parts true (Shared name) = subst (AreOfKind parts true) own (subst (λ b. AreOfKind parts b (symbol_of d.entry)) (of_variable d.entry.global is holds d.named) (at_all (λ e. AreOfKind parts (is_variable e.global) (symbol_of e)) (entries parts) d.place d.entry (together parts fine).kinds d.at)) in
      let variable : is_variable (linked parts (Shared name, name)) ≡ true = linked_kind parts (together parts fine) true (Shared name) name (home parts (Shared name)) refl kind (here parts (together parts fine) place (Shared name) name at) in
      let f = function_from name (linked_globals parts) found in
      let row = unmapped (linked parts) (slice_get (renaming parts) f.0) (OfFunction f.1) (sym (slice_get-map (linked parts) (renaming parts) f.0) ∙ f.2) in
      let named : name ≡ row.0.1 = f.3 ∙ sym (ap name_of row.2) ∙ linked_name parts row.0.0 row.0.1 (home parts row.0.0) in
      let same : linked parts (Shared name, name) ≡ OfFunction f.1 = ap (linked parts) (one_row (renaming parts) place f.0 (Shared name, name) row.0 (names parts) at row.1 named) ∙ row.2 in
      both_ways _ (ap is_variable same) variable
    where
      of_variable : (g : Global) → HasAt (part_at parts i) g → EntryHolds (part_at parts i) g → name_of g ≡ name → is_variable g ≡ true
      of_variable (OfVariable v) is holds n = refl
      of_variable (OfFunction f) is holds n = absurd (both_ways _ none (subst (λ z. has_function (part_at parts i) z ≡ true) n (function_named (part_at parts i).functions is.0 f is.1)))
      of_variable (OfAlias a) is holds n = absurd (both_ways _ (alias_plain (part_at parts i) a holds) (ap is_llvm_name n ∙ llvm))

  by_symbol : (name new : Bytes) (place : ℕ) (s : Symbol) → has_entry (part_at parts i) name ≡ true → symbol_in parts i name ≡ s → slice_get (renaming parts) place ≡ Some (s, new) → is_only_called (part_at parts i) name ≡ false → is_only_called (link_result parts) new ≡ false
  by_symbol name new place (Local j n) there e at h =
      let found = at_has same_symbol symbol_self symbol_exact (map symbol_of (entries parts)) (Local j n) (here parts (together parts fine) place (Local j n) new at) in
      let x = unmapped symbol_of (slice_get (entries parts) found.0) (Local j n) (sym (slice_get-map symbol_of (entries parts) found.0) ∙ found.1) in
      let local = symbol_local j n x.0 (subst (λ t. same_symbol (Local j n) t ≡ true) (sym x.2) (symbol_self (Local j n))) in
      let symbol : Local x.0.part (name_of x.0.global) ≡ Local j n = sym (local_symbol x.0 local) ∙ x.2 in
      let named : name_of x.0.global ≡ n = cc in
      let plain = local_name_plain (part_at parts x.0.part) x.0.global (at_all (λ e. EntryHolds (part_at parts e.part) e.global) (entries parts) found.0 x.0 (entries_hold parts fine) x.1) local in
      and_left _ _ (local_plain (all_names parts) (shared_names (symbols parts)) (symbols parts) place j n new at (ap is_llvm_name (sym named) ∙ plain))
  by_symbol name new place (Shared n) there e at h =
      let same : name ≡ n = shared_name (has same_symbol (map symbol_of (entries parts)) (Local i name)) i name n e in
      let stays : new ≡ n = shared_stays base_of (all_names parts) (shared_names (symbols parts)) (symbols parts) place n new at in
      ap (is_only_called (link_result parts)) (stays ∙ sym same)
      ∙ by_name (cases_Bool (is_llvm_name name)) (subst (λ z. slice_get (renaming parts) place ≡ Some (Shared z, name)) (sym same) (subst (λ z. slice_get (renaming parts) place ≡ Some (Shared n, z)) (stays ∙ sym same) at)) (e ∙ ap Shared (sym same))
    where
      by_name : (is_llvm_name name ≡ true) ⊎ (is_llvm_name name ≡ false) → slice_get (renaming parts) place ≡ Some (Shared name, name) → symbol_in parts i name ≡ Shared name → is_only_called (link_result parts) name ≡ false
      by_name (inr f) at s = and_left _ _ f
      by_name (inl t) at s = and_right _ _ (false_from_ne_true _ (λ found. shared_case name there place at s t (no_function (and_cases (is_llvm_name name) _ h)) found))
        where
          no_function : (is_llvm_name name ≡ false) ⊎ (has_function (part_at parts i) name ≡ false) → has_function (part_at parts i) name ≡ false
          no_function (inl f) = absurd (both_ways _ f t)
          no_function (inr f) = f

  pub callees_kept : (name : Bytes) → has_entry (part_at parts i) name ≡ true → is_only_called (part_at parts i) name ≡ false → is_only_called (link_result parts) (new_global parts i name) ≡ false
  callees_kept name there h =
      let row = row_of_name parts fine i name there in
      ap (is_only_called (link_result parts)) row.named ∙ by_symbol name row.new row.place (symbol_in parts i name) there refl row.at h

  -- what is written in a part may be written in the linked module
  pub part_renames : Renames (part_at parts i) (link_result parts) (new_struct parts i) (new_global parts i)
  part_renames = record {
    structs = linked_structs parts i (good_at parts fine i).structs;
    struct_there = linked_struct_there parts i (good_at parts fine i).structs;
    entries = entries_there parts fine i;
    callees = callees_kept;
  }

-- a definition or declaration has a name that begins `llvm.` only where its entry has one
pub new_plain : (parts : List Module) (place : ℕ) (s : Symbol) (new : Bytes) (e : Entry) → slice_get (renaming parts) place ≡ Some (s, new) → symbol_of e ≡ s → is_llvm_name (name_of e.global) ≡ false → is_llvm_name new ≡ false
new_plain parts place (Shared n) new e at is h = go (cases_Bool (is_local (linkage_of e.global)))
  where
    go : (is_local (linkage_of e.global) ≡ true) ⊎ (is_local (linkage_of e.global) ≡ false) → is_llvm_name new ≡ false
    go (inl t) = let no : Local e.part (name_of e.global) ≡ Shared n = sym (local_symbol e t) ∙ is in cc
    go (inr f) =
        let same : Shared (name_of e.global) ≡ Shared n = sym (shared_symbol e f) ∙ is in
        let named : name_of e.global ≡ n = cc in
        ap is_llvm_name (shared_stays base_of (all_names parts) (shared_names (symbols parts)) (symbols parts) place n new at ∙ sym named) ∙ h
new_plain parts place (Local j n) new e at is h = go (cases_Bool (is_local (linkage_of e.global)))
  where
    go : (is_local (linkage_of e.global) ≡ true) ⊎ (is_local (linkage_of e.global) ≡ false) → is_llvm_name new ≡ false
    go (inr f) = let no : Shared (name_of e.global) ≡ Local j n = sym (shared_symbol e f) ∙ is in cc
    go (inl t) =
        let same : Local e.part (name_of e.global) ≡ Local j n = sym (local_symbol e t) ∙ is in
        let named : name_of e.global ≡ n = cc in
        local_plain (all_names parts) (shared_names (symbols parts)) (symbols parts) place j n new at (ap is_llvm_name (sym named) ∙ h)
