-- Each part's names are there in the linked module, and what is no intrinsic is none there.
use Rattle.std.proofs.Common.{◌≡◌, ℕ, suc, Bool, true, false, ◌||◌, ◌⊎◌, inl, inr, List, [], ◌∷◌, ◌++◌, Some, refl, sym, ap, ◌∙◌, subst, option_map, bytes_eq}
use Rattle.std.specs.Prelude.{slice_get}
use Rattle.std.specs.List.{list_any, AllByRecursion}
use Rattle.std.proofs.lemmas.Bool.{or_left, or_right, or_cases, cases_Bool}
use Rattle.std.proofs.lemmas.Option.{slice_get-map}
use Rattle.module_arena.specs.Module.{Bytes, Module}
use Rattle.module_arena.specs.Functions.{variable_names, alias_names}
use Rattle.module_arena.specs.WellFormed.{IsWellFormed, has_entry}
use Rattle.module_arena.specs.Valid.{IsValid}
use Rattle.linkage_rules.specs.Globals.{Global, OfVariable, OfFunction, OfAlias, name_of}
use Rattle.linkage_rules.specs.Entries.{Entry, entries, part_at, symbol_in}
use Rattle.linkage_rules.specs.declared.symbol.Symbol.{Symbol}
use Rattle.linkage_rules.specs.Winner.{home}
use Rattle.linkage_rules.proofs.Entries.{all_follow}
use Rattle.link_rules.proofs.Symbols.{GoTogether}
use Rattle.link_rules.proofs.Agreed.{go_together}
use Rattle.link_rules.proofs.Declared.{is_declared}
use Rattle.link_rules.specs.Rename.{renaming, new_global}
use Rattle.link_rules.specs.Linked.{linked, linked_globals, link_result}
use Rattle.link_rules.proofs.Merged.{linked_name}
use Rattle.link_rules.proofs.Bound.{NameRow, name_row}
use Rattle.link_rules.proofs.Distinct.{are_distinct}
use Rattle.link_rules.specs.Valid.Laws.{AreLinkable}
use Rattle.link_rules.proofs.OnValid.PartEntries.{HasAt, EntryHolds, entry_holds, entries_at, at_part, empty_good, empty_valid, local_defined}
use Rattle.link_rules.proofs.OnValid.Linking.{entry_named, variable_there, function_there, alias_there}

-- an entry of a part, by its place
pub record EntryOf (parts : List Module) (i : ℕ) (name : Bytes) : Type 0 where
  pub place : ℕ
  pub entry : Entry
  pub at : slice_get (entries parts) place ≡ Some entry
  pub part : entry.part ≡ i
  pub named : name_of entry.global ≡ name

pub find_entry : (es : List Entry) (test : Entry → Bool) → list_any test es ≡ true → (k : ℕ) × (e : Entry) × (slice_get es k ≡ Some e) × (test e ≡ true)
find_entry [] test h = cc
find_entry (e ∷ es) test h = go (cases_Bool (test e)) (find_entry es test) h
  where
    go : (test e ≡ true) ⊎ (test e ≡ false) → (list_any test es ≡ true → (k : ℕ) × (d : Entry) × (slice_get es k ≡ Some d) × (test d ≡ true)) → (test e || list_any test es) ≡ true → (k : ℕ) × (d : Entry) × (slice_get (e ∷ es) k ≡ Some d) × (test d ≡ true)
    go (inl t) more h = (0, e, refl, t)
    go (inr f) more h = let r = more (subst (λ b. (b || list_any test es) ≡ true) f h) in (suc r.0, r.1, r.2, r.3)

module _ (parts : List Module) (fine : AreLinkable parts) where
  pub good_at : (i : ℕ) → IsWellFormed (part_at parts i)
  good_at i = at_part IsWellFormed parts i empty_good fine.good

  pub valid_at : (i : ℕ) → IsValid (part_at parts i)
  valid_at i = at_part IsValid parts i empty_valid fine.valid

  pub entries_hold : AllByRecursion (λ e. EntryHolds (part_at parts e.part) e.global) (entries parts)
  entries_hold = all_follow (λ e. HasAt (part_at parts e.part) e.global) (λ e. EntryHolds (part_at parts e.part) e.global) (entries parts) (λ e at. entry_holds (part_at parts e.part) e.global (valid_at e.part) at) (entries_at parts)

  pub together : GoTogether parts
  together =
      go_together parts (all_follow _ _ parts (λ m good. are_distinct m good) fine.good) fine.agree
      (all_follow _ _ (entries parts) (λ e h. local_defined (part_at parts e.part) e h) entries_hold)

  module _ (i : ℕ) where
    -- the row of a name
    pub row_of_name : (name : Bytes) → has_entry (part_at parts i) name ≡ true → NameRow parts together i name
    row_of_name name there = name_row parts together i name (is_declared parts i name (sym (entry_named (part_at parts i) name) ∙ there))

    pub linked_at : (k : ℕ) (s : Symbol) (new : Bytes) → slice_get (renaming parts) k ≡ Some (s, new) → slice_get (linked_globals parts) k ≡ Some (linked parts (s, new))
    linked_at k s new at = slice_get-map (linked parts) (renaming parts) k ∙ ap (option_map (linked parts)) at

    entry_by_kind : (k : ℕ) (g : Global) → slice_get (linked_globals parts) k ≡ Some g → has_entry (link_result parts) (name_of g) ≡ true
    entry_by_kind k (OfVariable v) at = any_left (variable_names (link_result parts)) _ (variable_there (linked_globals parts) k v at)
      where
        any_left : (xs ys : List Bytes) → list_any (bytes_eq v.name) xs ≡ true → list_any (bytes_eq v.name) (xs ++ ys) ≡ true
        any_left [] ys h = cc
        any_left (x ∷ xs) ys h = go (or_cases (bytes_eq v.name x) _ h) (any_left xs ys)
          where
            go : (bytes_eq v.name x ≡ true) ⊎ (list_any (bytes_eq v.name) xs ≡ true) → (list_any (bytes_eq v.name) xs ≡ true → list_any (bytes_eq v.name) (xs ++ ys) ≡ true) → list_any (bytes_eq v.name) ((x ∷ xs) ++ ys) ≡ true
            go (inl e) more = or_left _ _ e
            go (inr e) more = or_right (bytes_eq v.name x) _ (more e)
    entry_by_kind k (OfAlias a) at = any_right (variable_names (link_result parts)) _ (any_left (alias_names (link_result parts)) _ (alias_there (linked_globals parts) k a at))
      where
        any_left : (xs ys : List Bytes) → list_any (bytes_eq a.name) xs ≡ true → list_any (bytes_eq a.name) (xs ++ ys) ≡ true
        any_left [] ys h = cc
        any_left (x ∷ xs) ys h = go (or_cases (bytes_eq a.name x) _ h) (any_left xs ys)
          where
            go : (bytes_eq a.name x ≡ true) ⊎ (list_any (bytes_eq a.name) xs ≡ true) → (list_any (bytes_eq a.name) xs ≡ true → list_any (bytes_eq a.name) (xs ++ ys) ≡ true) → list_any (bytes_eq a.name) ((x ∷ xs) ++ ys) ≡ true
            go (inl e) more = or_left _ _ e
            go (inr e) more = or_right (bytes_eq a.name x) _ (more e)

        any_right : (xs ys : List Bytes) → list_any (bytes_eq a.name) ys ≡ true → list_any (bytes_eq a.name) (xs ++ ys) ≡ true
        any_right [] ys h = h
        any_right (x ∷ xs) ys h = or_right (bytes_eq a.name x) _ (any_right xs ys h)
    entry_by_kind k (OfFunction f) at = any_right (variable_names (link_result parts)) _ (any_right (alias_names (link_result parts)) _ (function_there (linked_globals parts) k f at))
      where
        any_right : (xs ys : List Bytes) → list_any (bytes_eq f.name) ys ≡ true → list_any (bytes_eq f.name) (xs ++ ys) ≡ true
        any_right [] ys h = h
        any_right (x ∷ xs) ys h = or_right (bytes_eq f.name x) _ (any_right xs ys h)

    -- a name of a part is there under its new name
    pub entries_there : (name : Bytes) → has_entry (part_at parts i) name ≡ true → has_entry (link_result parts) (new_global parts i name) ≡ true
    entries_there name there =
        let row = row_of_name name there in
        let s = symbol_in parts i name in
        subst (λ n. has_entry (link_result parts) n ≡ true) (linked_name parts s row.new (home parts s) ∙ sym row.named)
        (entry_by_kind row.place (linked parts (s, row.new)) (linked_at row.place s row.new row.at))
