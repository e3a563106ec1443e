-- An appended array holds what it is asked for.
use Rattle.std.proofs.Common.{◌≡◌, ℕ, true, false, not, ◌⊎◌, inl, inr, List, [], ◌∷◌, filter_map, flat_map, Option, Some, None, refl, sym, ap, ◌∙◌, subst, option_map, option_and_then, is_some}
use Rattle.std.specs.Prelude.{slice_get}
use Rattle.std.specs.List.{AllByRecursion}
use Rattle.std.proofs.lemmas.Bool.{and_from, and_parts, or_left, or_right, cases_Bool, both_ways, cond-true, cond-false, not_from_false}
use Rattle.ir_tables.specs.declared.linkage.Linkage.{Linkage}
use Rattle.ir_tables.specs.declared.linkage.Linkage.TheVariants.{External, Private, Internal, Common, Appending, ExternWeak, AvailableExternally, Linkonce, LinkonceOdr, Weak, WeakOdr}
use Rattle.type_table.specs.Tree.{Tree, array, Structs}
use Rattle.type_table.specs.Shape.{Shape, array_of, shape}
use Rattle.type_table.specs.Layout.{has_layout, layout}
use Rattle.module_arena.specs.Module.{Bytes, Constant, Constants, Variable, Module}
use Rattle.module_arena.specs.Module.Brackets.{Square}
use Rattle.module_arena.specs.Module.Constant.{Aggregate}
use Rattle.module_arena.specs.TypeTests.{lies_in_memory}
use Rattle.module_arena.specs.Valid.{AllHold, variable_demands}
use Rattle.linkage_rules.specs.Globals.{OfVariable, name_of, linkage_of, type_of, element_of, stated}
use Rattle.linkage_rules.specs.Linkages.{is_local, is_appending}
use Rattle.linkage_rules.specs.Entries.{Entry, entries, part_at, same_symbol, symbol_of, entries_of}
use Rattle.linkage_rules.specs.declared.symbol.Symbol.{Symbol}
use Rattle.linkage_rules.specs.declared.symbol.Symbol.TheVariants.{Shared, Local}
use Rattle.linkage_rules.specs.Winner.{is_definition, definitions, home, shape_in}
use Rattle.linkage_rules.specs.Contents.Contents.{elements_in}
use Rattle.linkage_rules.specs.Addresses.{joined_length, greatest_stated}
use Rattle.linkage_rules.specs.SymbolLaws.{symbol_exact}
use Rattle.link_rules.proofs.Symbols.{home_is}
use Rattle.linkage_rules.proofs.Entries.{all_passing, all_follow}
use Rattle.link_rules.proofs.Agreed.{all_from_at}
use Rattle.link_rules.proofs.Searches.{at_all}
use Rattle.link_rules.specs.Structs.{new_struct, linked_type}
use Rattle.link_rules.specs.Linked.{linked_pieces, joined_type, joined_alignment, joined_initialiser, linked_definition, link_result}
use Rattle.link_rules.proofs.OnValid.Types.{nameless_same, memory_same}
use Rattle.link_rules.proofs.OnValid.Known.{variable_type_known}
use Rattle.link_rules.proofs.OnValid.Pieces.{AreElements, nameless_equal}
use Rattle.link_rules.proofs.OnValid.PartEntries.{HasAt, EntryHolds, entries_at}
use Rattle.link_rules.specs.Valid.Laws.{AreLinkable}
use Rattle.link_rules.proofs.OnValid.Renaming.{good_at, entries_hold}
use Rattle.link_rules.proofs.OnValid.Callees.{part_renames, local_symbol, shared_symbol}
use Rattle.link_rules.proofs.OnValid.Commons.{greatest_aligned}
use Rattle.link_rules.proofs.OnValid.Appended.{IsAppended, is_appended, go_with, joined}
use Rattle.module_arena.specs.EntryRules as rules

-- what is to be appended is shared
pub appending_shared : (l : Linkage) → is_appending l ≡ true → is_local l ≡ false
appending_shared Appending h = refl
appending_shared External h = cc
appending_shared Private h = cc
appending_shared Internal h = cc
appending_shared Common h = cc
appending_shared ExternWeak h = cc
appending_shared AvailableExternally h = cc
appending_shared Linkonce h = cc
appending_shared LinkonceOdr h = cc
appending_shared Weak h = cc
appending_shared WeakOdr h = cc

-- its linkage suits a definition, and is not common
appending_suits : (l : Linkage) → rules.is_appending l ≡ true → (rules.linkage_suits true l ≡ true) × (rules.is_common l ≡ false)
appending_suits Appending h = (refl, refl)
appending_suits External h = cc
appending_suits Private h = cc
appending_suits Internal h = cc
appending_suits Common h = cc
appending_suits ExternWeak h = cc
appending_suits AvailableExternally h = cc
appending_suits Linkonce h = cc
appending_suits LinkonceOdr h = cc
appending_suits Weak h = cc
appending_suits WeakOdr h = cc

-- an array lies in memory whatever its length
shapes_lie : (n k : ℕ) (o : Option Shape) → is_some (option_and_then layout (option_map (array_of n) o)) ≡ true → is_some (option_and_then layout (option_map (array_of k) o)) ≡ true
shapes_lie n k None h = h
shapes_lie n k (Some s) h = go (cases_Bool (has_layout s))
  where
    go : (has_layout s ≡ true) ⊎ (has_layout s ≡ false) → is_some (layout (array_of k s)) ≡ true
    go (inl t) = ap is_some (cond-true (has_layout s) _ None t)
    go (inr f) = absurd (both_ways _ (ap is_some (cond-false (has_layout s) _ None f)) h)

array_lies : (structs : Structs) (n k : ℕ) (t : Tree) → lies_in_memory structs (array n t) ≡ true → lies_in_memory structs (array k t) ≡ true
array_lies structs n k t h = shapes_lie n k (shape structs t) h

-- the alignments that are stated
all_stated : (es : List Entry) → AllByRecursion (λ (e : Entry). rules.alignment_suits (stated e.global) ≡ true) es → AllByRecursion (λ n. rules.is_alignment n ≡ true) (filter_map (λ (e : Entry). stated e.global) es)
all_stated [] a = tt
all_stated (e ∷ es) a = go (stated e.global) refl a.0 (all_stated es a.1)
  where
    go : (o : Option ℕ) → stated e.global ≡ o → rules.alignment_suits (stated e.global) ≡ true → AllByRecursion (λ n. rules.is_alignment n ≡ true) (filter_map (λ (e : Entry). stated e.global) es) → AllByRecursion (λ n. rules.is_alignment n ≡ true) (filter_map (λ (e : Entry). stated e.global) (e ∷ es))
    go None q h rest = rw q rest
    go (Some n) q h rest = rw q (ap rules.alignment_suits (sym q) ∙ h, rest)

module _ (parts : List Module) (fine : AreLinkable parts) where
  abbrev Facts : Entry → Type 0
  Facts x = HasAt (part_at parts x.part) x.global × EntryHolds (part_at parts x.part) x.global

  facts : AllByRecursion Facts (entries parts)
  facts = all_from_at Facts (entries parts) (λ k x at. (at_all (λ e. HasAt (part_at parts e.part) e.global) (entries parts) k x (entries_at parts) at, at_all (λ e. EntryHolds (part_at parts e.part) e.global) (entries parts) k x (entries_hold parts fine) at))

  -- appended entries whose shapes are alike have elements of one type
  one_type : (t u : Tree) (e x : Entry) → IsAppended parts t e → IsAppended parts u x → shape_in parts x.part (element_of (type_of x.global)) ≡ shape_in parts e.part (element_of (type_of e.global)) → u ≡ t
  one_type t u e x a b same =
      let left : element_of (type_of x.global) ≡ u = ap (λ g. element_of (type_of g)) b.is ∙ ap element_of b.type in
      let right : element_of (type_of e.global) ≡ t = ap (λ g. element_of (type_of g)) a.is ∙ ap element_of a.type in
      nameless_equal _ _ u t b.free a.free (sym (ap (shape_in parts x.part) left) ∙ same ∙ ap (shape_in parts e.part) right)

  module _ (s : Symbol) (e : Entry) (h : home parts s ≡ Some e) (appends : is_appending (linkage_of e.global) ≡ true) where
    found : (Facts e × (same_symbol s (symbol_of e) ≡ true)) × (is_definition e ≡ true)
    found = home_is parts Facts s e facts h

    place : (k : ℕ) × (slice_get (entries parts) k ≡ Some e)
    place = (home_is parts (λ x. (k : ℕ) × (slice_get (entries parts) k ≡ Some x)) s e (all_from_at _ (entries parts) (λ k x at. (k, at))) h).0.0

    pub own : symbol_of e ≡ s
    own = sym (symbol_exact s (symbol_of e) found.0.1)

    pub first : (t : Tree) × IsAppended parts t e
    first = is_appended parts e found.0.0.0 found.0.0.1 appends

    -- each definition of the symbol is to be appended, with elements of the type
    other : (k : ℕ) (x : Entry) → slice_get (entries parts) k ≡ Some x → symbol_of x ≡ s → IsAppended parts first.0 x
    other k x at is =
        let shared : symbol_of e ≡ Shared (name_of e.global) = shared_symbol e (appending_shared (linkage_of e.global) appends) in
        let same : symbol_of x ≡ Shared (name_of e.global) = is ∙ sym own ∙ shared in
        let with_e = go_with parts fine (name_of e.global) place.0 k e x place.1 at shared same appends (names_same x same (cases_Bool (is_local (linkage_of x.global)))) in
        let here = at_all Facts (entries parts) k x facts at in
        let mine = is_appended parts x here.0 here.1 with_e.0 in
        subst (λ t. IsAppended parts t x) (one_type first.0 mine.0 e x first.1 mine.1 with_e.1) mine.1
      where
        names_same : (x : Entry) → symbol_of x ≡ Shared (name_of e.global) → (is_local (linkage_of x.global) ≡ true) ⊎ (is_local (linkage_of x.global) ≡ false) → name_of x.global ≡ name_of e.global
        names_same x is (inr f) = let both : Shared (name_of x.global) ≡ Shared (name_of e.global) = sym (shared_symbol x f) ∙ is in cc
        names_same x is (inl t) = let wrong : Local x.part (name_of x.global) ≡ Shared (name_of e.global) = sym (local_symbol x t) ∙ is in cc

    abbrev pub all : List Entry
    all = definitions parts s

    abbrev pub Named : Entry → Type 0
    Named x = IsAppended parts first.0 x × (symbol_of x ≡ s)

    pub each_named : AllByRecursion Named all
    each_named =
        all_follow _ Named all (λ x p. (p.0.0 p.0.1, sym (symbol_exact s (symbol_of x) p.0.1)))
        (all_passing _ is_definition (entries_of parts s) (all_passing (λ x. same_symbol s (symbol_of x) ≡ true → IsAppended parts first.0 x) (λ x. same_symbol s (symbol_of x)) (entries parts)
        (all_from_at _ (entries parts) (λ k x at t. other k x at (sym (symbol_exact s (symbol_of x) t))))))

    pub each : AllByRecursion (IsAppended parts first.0) all
    each = all_follow Named (IsAppended parts first.0) all (λ x p. p.0) each_named

    pub elements : (cs : Constants) × (AreElements (link_result parts) first.0 (joined_length all) cs) × (linked_pieces parts (flat_map elements_in all) ≡ cs)
    elements = joined parts fine first.0 all each

    pub aligned : rules.alignment_suits (greatest_stated all) ≡ true
    aligned = greatest_aligned _ (all_stated all (all_follow _ _ all (λ x p. ap (λ g. rules.alignment_suits (stated g)) p.is ∙ p.holds.1.1.1.1.1.0) each))

    -- the array in the linked module
    module _ (new : Bytes) (named : new ≡ name_of e.global) where
      abbrev pub v : Variable
      v = first.1.variable

      abbrev pub appended_variable : Variable
      appended_variable = record { name = new; linkage = v.linkage; constant = v.constant; ty = array (joined_length all) first.0; alignment = greatest_stated all; initialiser = Some (Aggregate Square elements.0) }

      lies : lies_in_memory (link_result parts).structs (array (joined_length all) first.0) ≡ true
      lies =
          let part = part_at parts e.part in
          let before : lies_in_memory part.structs v.ty ≡ true = (and_parts (lies_in_memory part.structs v.ty) _ (subst (λ (o : Option Constant). rules.variable_type_suits part.structs v.ty o ≡ true) first.1.initialiser first.1.holds.1.1.1.1.0)).0 in
          let after : lies_in_memory (link_result parts).structs (linked_type parts e.part v.ty) ≡ true = memory_same part.structs (link_result parts).structs (new_struct parts e.part) (part_renames parts fine e.part).structs v.ty (variable_type_known part (good_at parts fine e.part) first.1.has.0 v first.1.has.1) ∙ before in
          let type : linked_type parts e.part v.ty ≡ array first.1.length first.0 = ap (linked_type parts e.part) first.1.type ∙ ap (array first.1.length) (nameless_same (new_struct parts e.part) first.0 first.1.free) in
          array_lies (link_result parts).structs first.1.length (joined_length all) first.0 (subst (λ t. lies_in_memory (link_result parts).structs t ≡ true) type after)

      array_holds : rules.variable_name_suits (link_result parts) appended_variable ≡ true → AllHold (variable_demands (link_result parts) appended_variable)
      array_holds suits = (
        (appending_suits v.linkage first.1.appends).0,
        (
          or_left (not (rules.is_common v.linkage)) _ (not_from_false _ (appending_suits v.linkage first.1.appends).1),
          (
            or_right (not (rules.is_appending v.linkage)) _ (and_from _ _ first.1.free refl),
            (
              and_from _ _ suits (not_from_false _ elements.1.no_intrinsic),
              (
                and_from _ _ lies (and_from _ _ elements.1.void_free elements.1.types),
                (
                  aligned,
                  (elements.1.fit, tt),
                ),
              ),
            ),
          ),
        ),
      )

      pub same_variable : linked_definition parts new e all (OfVariable v) ≡ OfVariable appended_variable
      same_variable =
          let types : joined_type parts e all v.ty ≡ array (joined_length all) first.0 =
          cond-true (is_appending (linkage_of e.global)) _ _ appends
          ∙ ap (array (joined_length all)) (ap (λ t. linked_type parts e.part (element_of t)) first.1.type ∙ nameless_same (new_struct parts e.part) first.0 first.1.free) in
          let alignments : joined_alignment parts e all ≡ greatest_stated all = cond-true (is_appending (linkage_of e.global)) _ _ appends in
          let initialisers : joined_initialiser parts e all v.initialiser ≡ Some (Aggregate Square elements.0) =
          cond-true (is_appending (linkage_of e.global)) _ _ appends ∙ ap (λ cs. Some (Aggregate Square cs)) elements.2 in
          λ i. OfVariable (record { name = new; linkage = v.linkage; constant = v.constant; ty = types i; alignment = alignments i; initialiser = initialisers i })

      pub array_row : rules.variable_name_suits (link_result parts) appended_variable ≡ true → EntryHolds (link_result parts) (linked_definition parts new e all e.global)
      array_row suits =
          subst (EntryHolds (link_result parts)) (sym (ap (linked_definition parts new e all) first.1.is ∙ same_variable)) (array_holds suits)
