-- Linked parts are valid.
use Rattle.std.proofs.Common.{◌≡◌, true, false, not, ◌||◌, ◌⊎◌, inl, inr, List, [], ◌∷◌, ◌++◌, flat_map, Option, Some, refl, sym, ap, ◌∙◌, subst, bytes_eq, codes}
use Rattle.std.specs.List.{list_any, AllByRecursion}
use Rattle.std.proofs.lemmas.Bool.{and_from, and_parts, or_left, or_right, or_cases, cases_Bool, not_from_false}
use Rattle.type_table.specs.Tree.{Tree, ptr}
use Rattle.module_arena.specs.Module.{Bytes, Constant, Variable, Module}
use Rattle.module_arena.specs.Module.Brackets.{Square, Braces, Packed}
use Rattle.module_arena.specs.Module.Constant.{Integer, Truth, Null, Undef, Poison, ZeroInitializer, Address, ByteString, Aggregate, ElementAddress, Cast, Binary}
use Rattle.module_arena.specs.Renamed.{renamed_constants}
use Rattle.module_arena.specs.Same.{same_type}
use Rattle.module_arena.proofs.SameValues.{type_is}
use Rattle.linkage_rules.specs.Globals.{name_of, linkage_of}
use Rattle.linkage_rules.specs.Linkages.{is_local, is_appending}
use Rattle.linkage_rules.specs.Entries.{Entry, part_at, symbol_of}
use Rattle.linkage_rules.specs.declared.symbol.Symbol.{Symbol}
use Rattle.linkage_rules.specs.declared.symbol.Symbol.TheVariants.{Shared, Local}
use Rattle.linkage_rules.specs.Winner.{definitions, home}
use Rattle.linkage_rules.specs.Contents.Contents.{ContentPiece, elements_in, elements_of}
use Rattle.link_rules.specs.Rename.{new_global}
use Rattle.link_rules.specs.Structs.{new_struct}
use Rattle.link_rules.specs.Linked.{linked_pieces, link_result}
use Rattle.link_rules.proofs.OnValid.Pieces.{linked_after, constructors_after}
use Rattle.link_rules.specs.Valid.Laws.{AreLinkable, LinkedIsValid}
use Rattle.link_rules.proofs.OnValid.Callees.{local_symbol, shared_symbol}
use Rattle.link_rules.proofs.OnValid.Constructors.{constructors_kept}
use Rattle.link_rules.proofs.OnValid.Commons.{commons_aligned}
use Rattle.link_rules.proofs.OnValid.Targets.{targets_kept}
use Rattle.link_rules.proofs.OnValid.Appended.{IsAppended, when_true, in_entry}
use Rattle.link_rules.proofs.OnValid.AppendedRows.{appending_shared, own, first, Named, each_named, elements, appended_variable, array_row}
use Rattle.link_rules.proofs.OnValid.LinkedRows.{AppendedHolds, shared_new, linked_is_valid}
use Rattle.module_arena.specs.EntryRules as rules
use Rattle.linkage_rules.proofs.Entries.{all_follow}

-- the elements are of one type, which is that of constructors or that of pointers
two_types : (t : Tree) → same_type t rules.constructor_type ≡ true → same_type t ptr ≡ true → ⊥
two_types t h k =
    let differ : rules.constructor_type ≡ ptr = sym (type_is t rules.constructor_type h) ∙ type_is t ptr k in
    cc

module _ (parts : List Module) (fine : AreLinkable parts) (t : Tree) (constructor : same_type t rules.constructor_type ≡ true) where
  -- what an entry lists
  listed : (x : Entry) → IsAppended parts t x → rules.is_llvm_name (name_of x.global) ≡ true → (ps : List ContentPiece) → rules.are_constructors (link_result parts) (linked_pieces parts ps) ≡ true → rules.are_constructors (link_result parts) (linked_pieces parts (elements_in x ++ ps)) ≡ true
  listed x a llvm ps rest = by_list a.list a.initialiser (in_entry parts fine t x a) a.is_list
    where
      part : Module
      part = part_at parts x.part

      named : rules.is_llvm_name a.variable.name ≡ true
      named = ap rules.is_llvm_name (sym (ap name_of a.is)) ∙ llvm

      suits : (rules.is_constructor_list part a.variable || rules.is_used_list a.variable) ≡ true
      suits = when_true (rules.is_llvm_name a.variable.name) _ (and_parts (rules.variable_name_suits part a.variable) _ a.holds.1.1.1.0).0 named

      lists : rules.lists_constructors part a.variable.initialiser ≡ true
      lists = go (or_cases (rules.is_constructor_list part a.variable) _ suits)
        where
          go : (rules.is_constructor_list part a.variable ≡ true) ⊎ (rules.is_used_list a.variable ≡ true) → rules.lists_constructors part a.variable.initialiser ≡ true
          go (inl c) =
              let one = and_parts (list_any (bytes_eq a.variable.name) (codes "llvm.global_ctors" ∷ codes "llvm.global_dtors" ∷ [])) _ c in
              let two = and_parts (rules.is_appending a.variable.linkage) _ one.1 in
              (and_parts (rules.is_array_of rules.constructor_type a.variable.ty) _ two.1).1
          go (inr u) =
              let one = and_parts (list_any (bytes_eq a.variable.name) (codes "llvm.used" ∷ codes "llvm.compiler.used" ∷ [])) _ u in
              let two = and_parts (rules.is_appending a.variable.linkage) _ one.1 in
              absurd (two_types t constructor (subst (λ (w : Tree). rules.is_array_of ptr w ≡ true) a.type two.1))

      by_list : (c : Constant) → a.variable.initialiser ≡ Some c → elements_in x ≡ elements_of x.part c → rules.is_list_of a.length (Some c) ≡ true → rules.are_constructors (link_result parts) (linked_pieces parts (elements_in x ++ ps)) ≡ true
      by_list (Aggregate Square cs) eq inside h =
          ap (rules.are_constructors (link_result parts)) (ap (λ l. linked_pieces parts (l ++ ps)) inside ∙ linked_after parts x.part cs ps)
          ∙ constructors_after (link_result parts) (renamed_constants (new_struct parts x.part) (new_global parts x.part) cs) (linked_pieces parts ps)
          (constructors_kept parts fine x.part cs (subst (λ (o : Option Constant). rules.lists_constructors part o ≡ true) eq lists)) rest
      by_list ZeroInitializer eq inside h = ap (λ l. rules.are_constructors (link_result parts) (linked_pieces parts (l ++ ps))) inside ∙ rest
      by_list (Aggregate Braces cs) eq inside h = cc
      by_list (Aggregate Packed cs) eq inside h = cc
      by_list (Integer n) eq inside h = cc
      by_list (Truth truth) eq inside h = cc
      by_list Null eq inside h = cc
      by_list Undef eq inside h = cc
      by_list Poison eq inside h = cc
      by_list (Address name) eq inside h = cc
      by_list (ByteString bytes) eq inside h = cc
      by_list (ElementAddress flags source operands) eq inside h = cc
      by_list (Cast opcode from value to) eq inside h = cc
      by_list (Binary opcode flags l left r right) eq inside h = cc

  all_listed : (es : List Entry) → AllByRecursion (λ x. IsAppended parts t x × (rules.is_llvm_name (name_of x.global) ≡ true)) es → rules.are_constructors (link_result parts) (linked_pieces parts (flat_map elements_in es)) ≡ true
  all_listed [] a = refl
  all_listed (x ∷ es) a = listed x a.0.0 a.0.1 (flat_map elements_in es) (all_listed es a.1)

module _ (parts : List Module) (fine : AreLinkable parts) where
  module _ (s : Symbol) (new : Bytes) (e : Entry) (h : home parts s ≡ Some e) (appends : is_appending (linkage_of e.global) ≡ true) (same : new ≡ name_of e.global) where
    abbrev entry : IsAppended parts (first parts fine s e h appends).0 e
    entry = (first parts fine s e h appends).1

    abbrev type : Tree
    type = (first parts fine s e h appends).0

    named : new ≡ entry.variable.name
    named = same ∙ ap name_of entry.is

    -- all definitions of the symbol have its name
    name_of_each : (x : Entry) → symbol_of x ≡ s → name_of x.global ≡ name_of e.global
    name_of_each x is = go (cases_Bool (is_local (linkage_of x.global)))
      where
        shared : symbol_of e ≡ Shared (name_of e.global)
        shared = shared_symbol e (appending_shared (linkage_of e.global) appends)

        both : symbol_of x ≡ Shared (name_of e.global)
        both = is ∙ sym (own parts fine s e h appends) ∙ shared

        go : (is_local (linkage_of x.global) ≡ true) ⊎ (is_local (linkage_of x.global) ≡ false) → name_of x.global ≡ name_of e.global
        go (inr f) = let one : Shared (name_of x.global) ≡ Shared (name_of e.global) = sym (shared_symbol x f) ∙ both in cc
        go (inl t) = let wrong : Local x.part (name_of x.global) ≡ Shared (name_of e.global) = sym (local_symbol x t) ∙ both in cc

    abbrev array_of_all : Variable
    array_of_all = appended_variable parts fine s e h appends new same

    element_type : (u : Tree) → rules.is_array_of u entry.variable.ty ≡ true → same_type type u ≡ true
    element_type u k = subst (λ (w : Tree). rules.is_array_of u w ≡ true) entry.type k

    as_constructors : rules.is_llvm_name new ≡ true → rules.is_constructor_list (part_at parts e.part) entry.variable ≡ true → rules.is_constructor_list (link_result parts) array_of_all ≡ true
    as_constructors llvm c =
        let one = and_parts (list_any (bytes_eq entry.variable.name) (codes "llvm.global_ctors" ∷ codes "llvm.global_dtors" ∷ [])) _ c in
        let two = and_parts (rules.is_appending entry.variable.linkage) _ one.1 in
        let three = and_parts (rules.is_array_of rules.constructor_type entry.variable.ty) _ two.1 in
        let of_type = element_type rules.constructor_type three.0 in
        and_from _ _ (subst (λ n. list_any (bytes_eq n) (codes "llvm.global_ctors" ∷ codes "llvm.global_dtors" ∷ []) ≡ true) (sym named) one.0)
        (and_from _ _ two.0 (and_from _ _ of_type
        (ap (rules.are_constructors (link_result parts)) (sym (elements parts fine s e h appends).2)
        ∙ all_listed parts fine type of_type (definitions parts s)
        (all_follow (Named parts fine s e h appends) _ (definitions parts s) (λ x p. (p.0, ap rules.is_llvm_name (name_of_each x p.1 ∙ sym same) ∙ llvm)) (each_named parts fine s e h appends)))))

    as_used : rules.is_used_list entry.variable ≡ true → rules.is_used_list array_of_all ≡ true
    as_used u =
        let one = and_parts (list_any (bytes_eq entry.variable.name) (codes "llvm.used" ∷ codes "llvm.compiler.used" ∷ [])) _ u in
        let two = and_parts (rules.is_appending entry.variable.linkage) _ one.1 in
        and_from _ _ (subst (λ n. list_any (bytes_eq n) (codes "llvm.used" ∷ codes "llvm.compiler.used" ∷ []) ≡ true) (sym named) one.0) (and_from _ _ two.0 (element_type ptr two.1))

    name_suits : rules.variable_name_suits (link_result parts) array_of_all ≡ true
    name_suits = go (cases_Bool (rules.is_llvm_name new))
      where
        go : (rules.is_llvm_name new ≡ true) ⊎ (rules.is_llvm_name new ≡ false) → rules.variable_name_suits (link_result parts) array_of_all ≡ true
        go (inr f) = or_left (not (rules.is_llvm_name new)) _ (not_from_false _ f)
        go (inl t) = or_right (not (rules.is_llvm_name new)) _ (by_list (or_cases (rules.is_constructor_list (part_at parts e.part) entry.variable) _ suits))
          where
            suits : (rules.is_constructor_list (part_at parts e.part) entry.variable || rules.is_used_list entry.variable) ≡ true
            suits = when_true (rules.is_llvm_name entry.variable.name) _ (and_parts (rules.variable_name_suits (part_at parts e.part) entry.variable) _ entry.holds.1.1.1.0).0 (ap rules.is_llvm_name (sym named) ∙ t)

            by_list : (rules.is_constructor_list (part_at parts e.part) entry.variable ≡ true) ⊎ (rules.is_used_list entry.variable ≡ true) → (rules.is_constructor_list (link_result parts) array_of_all || rules.is_used_list array_of_all) ≡ true
            by_list (inl c) = or_left _ _ (as_constructors t c)
            by_list (inr u) = or_right (rules.is_constructor_list (link_result parts) array_of_all) _ (as_used u)

  pub appended_hold : AppendedHolds parts
  appended_hold s new place e at h appends =
      let same : new ≡ name_of e.global = shared_new parts place s new e at (own parts fine s e h appends) (appending_shared (linkage_of e.global) appends) in
      array_row parts fine s e h appends new same (name_suits s new e h appends same)

-- the module that is made of valid parts without conflict is valid
pub link_is_valid : LinkedIsValid
link_is_valid parts fine = linked_is_valid parts fine (commons_aligned parts fine) (targets_kept parts fine) (appended_hold parts fine)
