-- An appended array of the linked module is well formed, and so is the module.
use Rattle.std.proofs.Common.{◌≡◌, ℕ, zero, suc, ◌+◌, ◌*◌, ◌^◌, ◌≤◌, max, true, false, not, ◌⊎◌, inl, inr, List, [], ◌∷◌, ◌++◌, map, flat_map, Option, Some, None, refl, sym, ap, ◌∙◌, subst, option_map, option_to_list, nat_le, nat_lt, arith, leb-true, le-leb, ltb-false}
use Rattle.std.specs.Prelude.{slice_get}
use Rattle.std.specs.Option.{option_map_or}
use Rattle.std.specs.List.{AllByRecursion}
use Rattle.std.proofs.lemmas.Bool.{and_from, and_parts, or_right, both_ways, cond-true}
use Rattle.linkage_rules.proofs.Gathered.{all_joined}
use Rattle.type_table.specs.Tree.{Tree, array}
use Rattle.type_table.specs.Shape.{Shape, array_of, nesting, shape}
use Rattle.type_table.specs.Layout.{size, has_layout}
use Rattle.module_arena.specs.Module.{Bytes, Constant, Constants, Module}
use Rattle.module_arena.specs.Module.Brackets.{Square, Braces, Packed}
use Rattle.module_arena.specs.Module.Constant.{Integer, Truth, Null, Undef, Poison, ZeroInitializer, Address, ByteString, Aggregate, ElementAddress, Cast, Binary}
use Rattle.module_arena.specs.Module.Constants.{no_constants, more_constants}
use Rattle.module_arena.specs.Renamed.{renamed_constants}
use Rattle.module_arena.specs.Constants.{Typed, constants_in, constants_of}
use Rattle.module_arena.specs.WellFormed.{is_within_limits, is_good_type, is_good_part, depth, greatest_depth}
use Rattle.linkage_rules.specs.Globals.{linkage_of, type_of, element_of, is_variable, is_alias}
use Rattle.linkage_rules.specs.Linkages.{is_appending}
use Rattle.linkage_rules.specs.Entries.{Entry, part_at, same_symbol, symbol_of}
use Rattle.linkage_rules.specs.declared.symbol.Symbol.{Symbol}
use Rattle.linkage_rules.specs.Symbols.{is_alias_symbol, variable_symbols, function_symbols, alias_symbols}
use Rattle.linkage_rules.specs.Winner.{definitions, home, size_in}
use Rattle.linkage_rules.specs.Contents.Contents.{ContentPiece, elements_in, elements_of}
use Rattle.linkage_rules.specs.Addresses.{joined_length, greatest_stated}
use Rattle.link_rules.proofs.Symbols.{AreOfKind, function_kinds, aliases_are, home_is}
use Rattle.link_rules.specs.Counts.{Count, limit, appended_bytes, appended_count, too_many}
use Rattle.link_rules.specs.Rename.{renaming, new_global}
use Rattle.link_rules.specs.Structs.{new_struct, linked_type}
use Rattle.link_rules.specs.Linked.{linked_pieces, linked_definition, link_result}
use Rattle.link_rules.proofs.Bound.{symbol_at}
use Rattle.link_rules.proofs.Searches.{at_all}
use Rattle.link_rules.specs.Valid.Laws.{AreLinkable, LinkedIsWellFormed}
use Rattle.link_rules.proofs.OnValid.Lists.{all_tested}
use Rattle.link_rules.proofs.OnValid.Types.{KnownTree, nameless_same, shape_same}
use Rattle.link_rules.proofs.OnValid.Known.{AllGood, GoodParts, good_variable, variable_constants, variable_type_known, all_at}
use Rattle.link_rules.proofs.OnValid.Good.{good_type_kept, constant_good}
use Rattle.link_rules.proofs.OnValid.Pieces.{after, linked_after, constants_after}
use Rattle.link_rules.proofs.OnValid.Renaming.{good_at, together}
use Rattle.link_rules.proofs.OnValid.Callees.{part_renames}
use Rattle.link_rules.proofs.OnValid.Appended.{IsAppended, in_entry}
use Rattle.link_rules.proofs.OnValid.AppendedRows.{appending_shared, own, first, each, elements, aligned, same_variable}
use Rattle.link_rules.proofs.OnValid.LinkedRows.{shared_new}
use Rattle.link_rules.proofs.OnValid.LinkedGood.{EntryGood, small}
use Rattle.link_rules.proofs.OnValid.Few.{passed}
use Rattle.link_rules.proofs.OnValid.GoodRows.{AppendedGood, linked_is_well_formed}
use Rattle.type_table.specs.Shape as shapes
use Rattle.module_arena.specs.EntryRules as rules
use Rattle.link_rules.proofs.Parts.{all_true}

-- CONSTANTS BEHIND EACH OTHER

abbrev IsShallow : ℕ → Type 0
IsShallow d = nat_le (d + 1) 64 ≡ true

both_shallow : (a b : ℕ) → IsShallow a → IsShallow b → IsShallow (max a b)
both_shallow a b h k =
    let p = leb-true (a + 1) 64 h in
    let q = leb-true (b + 1) 64 k in
    let r : max a b + 1 ≤ 64 = omega arith in
    le-leb (max a b + 1) 64 r

max_again : (a b c : ℕ) → max a (max b c) ≡ max (max a b) c
max_again a b c = omega arith

max_none : (b : ℕ) → b ≡ max 0 b
max_none b = omega arith

depth_after : (cs ds : Constants) → greatest_depth (after cs ds) ≡ max (greatest_depth cs) (greatest_depth ds)
depth_after no_constants ds = max_none (greatest_depth ds)
depth_after (more_constants t c cs) ds = ap (max (depth c)) (depth_after cs ds) ∙ max_again (depth c) (greatest_depth cs) (greatest_depth ds)

record GoodList (m : Module) (cs : Constants) : Type 0 where
  shallow : IsShallow (greatest_depth cs)
  good : GoodParts m (constants_of cs)

good_after : (m : Module) (cs ds : Constants) → GoodList m cs → GoodList m ds → GoodList m (after cs ds)
good_after m cs ds a b = record {
  shallow = subst IsShallow (sym (depth_after cs ds)) (both_shallow (greatest_depth cs) (greatest_depth ds) a.shallow b.shallow);
  good = subst (GoodParts m) (sym (constants_after cs ds)) (all_joined _ (constants_of cs) (constants_of ds) a.good b.good);
}

module _ (parts : List Module) (fine : AreLinkable parts) (t : Tree) where
  listed : (x : Entry) → IsAppended parts t x → (ps : List ContentPiece) → GoodList (link_result parts) (linked_pieces parts ps) → GoodList (link_result parts) (linked_pieces parts (elements_in x ++ ps))
  listed x a ps rest = by_list a.list a.initialiser (in_entry parts fine t x a) a.is_list
    where
      by_list : (c : Constant) → a.variable.initialiser ≡ Some c → elements_in x ≡ elements_of x.part c → rules.is_list_of a.length (Some c) ≡ true → GoodList (link_result parts) (linked_pieces parts (elements_in x ++ ps))
      by_list (Aggregate Square cs) eq inside h =
          let part = part_at parts x.part in
          let old : AllGood part ((a.variable.ty, Aggregate Square cs) ∷ []) = subst (λ (o : Option Constant). AllGood part (map {B = Typed} (λ c. (a.variable.ty, c)) (option_to_list o))) eq (variable_constants part (good_at parts fine x.part) a.has.0 a.variable a.has.1) in
          let new = constant_good part (link_result parts) (new_struct parts x.part) (new_global parts x.part) (part_renames parts fine x.part) (a.variable.ty, Aggregate Square cs) old.0 in
          let both = and_parts (nat_le (greatest_depth (renamed_constants (new_struct parts x.part) (new_global parts x.part) cs) + 1) 64) _ new in
          let tests : GoodParts (link_result parts) (constants_in (linked_type parts x.part a.variable.ty) (Aggregate Square (renamed_constants (new_struct parts x.part) (new_global parts x.part) cs))) = all_true (is_good_part (link_result parts)) (constants_in (linked_type parts x.part a.variable.ty) (Aggregate Square (renamed_constants (new_struct parts x.part) (new_global parts x.part) cs))) both.1 in
          subst (GoodList (link_result parts)) (sym (ap (λ l. linked_pieces parts (l ++ ps)) inside ∙ linked_after parts x.part cs ps))
          (good_after (link_result parts) (renamed_constants (new_struct parts x.part) (new_global parts x.part) cs) (linked_pieces parts ps)
          (record { shallow = both.0; good = tests.1 }) rest)
      by_list ZeroInitializer eq inside h = subst (λ l. GoodList (link_result parts) (linked_pieces parts (l ++ ps))) (sym inside) rest
      by_list (Aggregate Braces cs) eq inside h = cc
      by_list (Aggregate Packed cs) eq inside h = cc
      by_list (Integer n) eq inside h = cc
      by_list (Truth truth) eq inside h = cc
      by_list Null eq inside h = cc
      by_list Undef eq inside h = cc
      by_list Poison eq inside h = cc
      by_list (Address name) eq inside h = cc
      by_list (ByteString bytes) eq inside h = cc
      by_list (ElementAddress flags source operands) eq inside h = cc
      by_list (Cast opcode from value to) eq inside h = cc
      by_list (Binary opcode flags l left r right) eq inside h = cc

  all_listed : (es : List Entry) → AllByRecursion (IsAppended parts t) es → GoodList (link_result parts) (linked_pieces parts (flat_map elements_in es))
  all_listed [] a = record { shallow = refl; good = tt }
  all_listed (x ∷ es) a = listed x a.0 (flat_map elements_in es) (all_listed es a.1)

-- LIMITS

within_array : (o : Option Shape) (n k : ℕ) → is_within_limits (option_map (array_of n) o) ≡ true → nat_le k (2 ^ 40) ≡ true → nat_le (k * option_map_or size o 0) (2 ^ 40) ≡ true → is_within_limits (option_map (array_of k) o) ≡ true
within_array None n k h p q = cc
within_array (Some s) n k h p q =
    let one = and_parts (nat_le (nesting s + 1) 64) _ h in
    let two = and_parts (nat_le (1 + shapes.parts s) (2 ^ 20)) _ one.1 in
    and_from _ _ one.0 (and_from _ _ two.0 (and_from _ _ p (or_right (not (has_layout s)) _ q)))

max_within : (a b k : ℕ) → nat_lt k (max a b) ≡ false → (nat_le a k ≡ true) × (nat_le b k ≡ true)
max_within a b k h =
    let below = ltb-false k (max a b) h in
    let p : a ≤ k = omega arith in
    let q : b ≤ k = omega arith in
    (le-leb a k p, le-leb b k q)

in_append : (xs ys : List Symbol) (k : ℕ) (s : Symbol) → slice_get (xs ++ ys) k ≡ Some s → ((j : ℕ) × (slice_get xs j ≡ Some s)) ⊎ ((j : ℕ) × (slice_get ys j ≡ Some s))
in_append [] ys k s h = inr (k, h)
in_append (x ∷ xs) ys zero s h = inl (0, h)
in_append (x ∷ xs) ys (suc k) s h = go (in_append xs ys k s h)
  where
    go : ((j : ℕ) × (slice_get xs j ≡ Some s)) ⊎ ((j : ℕ) × (slice_get ys j ≡ Some s)) → ((j : ℕ) × (slice_get (x ∷ xs) j ≡ Some s)) ⊎ ((j : ℕ) × (slice_get ys j ≡ Some s))
    go (inl p) = inl (suc p.0, p.1)
    go (inr p) = inr p

module _ (parts : List Module) (fine : AreLinkable parts) (few : too_many parts ≡ None) where
  module _ (s : Symbol) (new : Bytes) (place : ℕ) (e : Entry) (at : slice_get (renaming parts) place ≡ Some (s, new)) (h : home parts s ≡ Some e) (appends : is_appending (linkage_of e.global) ≡ true) where
    abbrev entry : IsAppended parts (first parts fine s e h appends).0 e
    entry = (first parts fine s e h appends).1

    abbrev type : Tree
    type = (first parts fine s e h appends).0

    -- it is a variable's symbol
    among : (j : ℕ) × (slice_get (variable_symbols parts) j ≡ Some s)
    among = go (in_append (variable_symbols parts ++ function_symbols parts) (alias_symbols parts) place s (symbol_at parts (together parts fine) place s new at))
      where
        of_variable : is_variable e.global ≡ true
        of_variable = ap is_variable entry.is

        by_two : ((j : ℕ) × (slice_get (variable_symbols parts) j ≡ Some s)) ⊎ ((j : ℕ) × (slice_get (function_symbols parts) j ≡ Some s)) → (j : ℕ) × (slice_get (variable_symbols parts) j ≡ Some s)
        by_two (inl p) = p
        by_two (inr p) =
            let kind = at_all (AreOfKind parts false) (function_symbols parts) p.0 s (function_kinds parts (together parts fine)) p.1 in
            let found = home_is parts (λ d. same_symbol s (symbol_of d) ≡ true → is_variable d.global ≡ false) s e kind h in
            absurd (both_ways _ (found.0.0 found.0.1) of_variable)

        go : ((j : ℕ) × (slice_get (variable_symbols parts ++ function_symbols parts) j ≡ Some s)) ⊎ ((j : ℕ) × (slice_get (alias_symbols parts) j ≡ Some s)) → (j : ℕ) × (slice_get (variable_symbols parts) j ≡ Some s)
        go (inl p) = by_two (in_append (variable_symbols parts) (function_symbols parts) p.0 s p.1)
        go (inr p) =
            let alias = at_all (λ q. is_alias_symbol parts q ≡ true) (alias_symbols parts) p.0 s (aliases_are parts) p.1 in
            absurd (both_ways _ (ap is_alias entry.is) (ap (λ o. option_map_or (λ (d : Entry). is_alias d.global) o false) (sym h) ∙ alias))

    abbrev all : List Entry
    all = definitions parts s

    counted : nat_lt (2 ^ 40) (appended_bytes parts e all) ≡ false
    counted =
        let rows = all_at (λ (c : Count). nat_lt (limit c.kind) c.number ≡ false) (λ q. appended_count parts (definitions parts q) (home parts q)) (variable_symbols parts) among.0 s among.1 (passed parts fine few).1.1.1.1 in
        (subst (AllByRecursion (λ (c : Count). nat_lt (limit c.kind) c.number ≡ false)) (ap (appended_count parts all) h ∙ cond-true (is_appending (linkage_of e.global)) _ [] appends) rows).0

    type_is_good : is_good_type (link_result parts).structs (array (joined_length all) type) ≡ true
    type_is_good =
        let part = part_at parts e.part in
        let v = entry.variable in
        let good = good_at parts fine e.part in
        let new_type : linked_type parts e.part v.ty ≡ array entry.length type = ap (linked_type parts e.part) entry.type ∙ ap (array entry.length) (nameless_same (new_struct parts e.part) type entry.free) in
        let old = (and_parts (is_good_type part.structs v.ty) _ (good_variable part good entry.has.0 v entry.has.1)).0 in
        let there = subst (λ u. is_good_type (link_result parts).structs u ≡ true) new_type (good_type_kept part (link_result parts) (new_struct parts e.part) (new_global parts e.part) (part_renames parts fine e.part) v.ty old) in
        let both = and_parts (is_good_type (link_result parts).structs type) _ there in
        let known = subst (KnownTree part.structs) entry.type (variable_type_known part good entry.has.0 v entry.has.1) in
        let same : shape (link_result parts).structs type ≡ shape part.structs type =
        ap (shape (link_result parts).structs) (sym (nameless_same (new_struct parts e.part) type entry.free)) ∙ shape_same part.structs (link_result parts).structs (new_struct parts e.part) (part_renames parts fine e.part).structs type known in
        let element : element_of (type_of e.global) ≡ type = ap (λ g. element_of (type_of g)) entry.is ∙ ap element_of entry.type in
        let sizes : size_in parts e.part (element_of (type_of e.global)) ≡ option_map_or size (shape (link_result parts).structs type) 0 = ap (size_in parts e.part) element ∙ ap (λ o. option_map_or size o 0) (sym same) in
        let limits = max_within (joined_length all) (joined_length all * size_in parts e.part (element_of (type_of e.global))) (2 ^ 40) counted in
        and_from _ _ both.0 (within_array (shape (link_result parts).structs type) entry.length (joined_length all) both.1 limits.0 (subst (λ z. nat_le (joined_length all * z) (2 ^ 40) ≡ true) sizes limits.1))

    row : EntryGood (link_result parts) (linked_definition parts new e all e.global)
    row =
        let same = shared_new parts place s new e at (own parts fine s e h appends) (appending_shared (linkage_of e.global) appends) in
        let list = subst (GoodList (link_result parts)) (elements parts fine s e h appends).2 (all_listed parts fine type all (each parts fine s e h appends)) in
        let whole : is_good_part (link_result parts) (array (joined_length all) type, Aggregate Square (elements parts fine s e h appends).0) ≡ true = and_from _ _ type_is_good (and_from _ _ refl (and_from _ _ refl (and_from _ _ refl refl))) in
        subst (EntryGood (link_result parts)) (sym (ap (linked_definition parts new e all) entry.is ∙ same_variable parts fine s e h appends new same)) (
          and_from _ _ type_is_good (small (greatest_stated all) (aligned parts fine s e h appends)),
          (and_from _ _ list.shallow (and_from _ _ whole (all_tested (is_good_part (link_result parts)) _ list.good)), tt),
        )

  pub appended_good : AppendedGood parts
  appended_good s new place e at h appends = row s new place e at h appends

-- linked parts that pass no count are well formed
pub link_is_well_formed : LinkedIsWellFormed
link_is_well_formed parts fine few = linked_is_well_formed parts fine few (appended_good parts fine few)
