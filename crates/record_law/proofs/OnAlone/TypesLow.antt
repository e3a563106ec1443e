-- The records of the types and structs of a well-formed module have operands of 64 bits.
use Rattle.std.proofs.Common.{◌≡◌, ℕ, ◌^◌, ◌<◌, ◌≤◌, true, false, List, [], ◌∷◌, length, map, flat_map, Option, Some, None, arith, inl, inr}
use Rattle.std.specs.Prelude.{nat_le, bytes_eq}
use Rattle.std.specs.List.{list_all, AllByRecursion}
use Rattle.std.specs.Option.{option_map}
use Rattle.std.proofs.lemmas.Bool.{and_parts, cases_Bool, leb-true}
use Rattle.type_table.specs.Limits.{IsWithinLimits}
use Rattle.type_table.specs.Shape.{Shape, array_of, expanded, name_shape, shape}
use Rattle.type_table.specs.Tree.{Tree, int, ptr, void, array, struct, named, Trees, no_trees, more_trees, TreeBody, opaque_body, fields, Structs, body_of, index_of}
use Rattle.module_arena.specs.Module.{Bytes, Module}
use Rattle.module_arena.specs.Same.{same_type}
use Rattle.module_arena.specs.WellFormed.{IsWellFormed, is_within_limits, is_good_type}
use Rattle.module_arena.proofs.WithinLimits.{within_limits_decides}
use Rattle.record_table.specs.Fields.{bool_code}
use Rattle.record_table.specs.Layout.{place}
use Rattle.record_table.specs.TypeRecords.{earlier, definition}
use Rattle.record_table.specs.Mentions.{mentioned}
use Rattle.record_table.specs.Spelling.{places, by_ids, body_by_ids, type_line, type_lines, string_table, texts_in}
use Rattle.record_law.proofs.OnTypes.Tests.{both_of}
use Rattle.record_law.proofs.OnTypes.GoodWritten.{AreGood}
use Rattle.record_law.proofs.OnTypes.GoodMentioned.{mentioned_good}
use Rattle.record_law.proofs.OnAlone.Numbers.{IsSmall, none, next, one, join, flat, counted}
use Rattle.record_law.proofs.OnAlone.LinesLow.{bool_low}
use Rattle.record_law.proofs.OnAlone.BodiesLow.{IsLowLine}
use Rattle.record_law.proofs.OnAlone.EntriesLow.{offset, offset_low, length_low}

place_at_most : (all : List Tree) (t : Tree) → place same_type all t ≤ length all
unfolding place
place_at_most [] t = omega arith
place_at_most (s ∷ all) t = elim (cases_Bool (same_type s t)) [
  | inl is ↦ rw is (omega arith)
  | inr differs ↦ rw differs (let later = place_at_most all t in omega (arith, later))
]

index_at_most : (names : List Bytes) (name : Bytes) → index_of names name ≤ length names
index_at_most [] name = omega arith
index_at_most (n ∷ names) name = elim (cases_Bool (bytes_eq n name)) [
  | inl is ↦ rw is (omega arith)
  | inr differs ↦ rw differs (let later = index_at_most names name in omega (arith, later))
]

short : (n : ℕ) (o : Option Shape) → IsWithinLimits (option_map (array_of n) o) → n ≤ 2 ^ 40
short n None within = absurd within
short n (Some s) within = within.length_fits

-- an array of a good type has few elements
array_is_short : (structs : Structs) (n : ℕ) (t : Tree) → is_good_type structs (array n t) ≡ true → n ≤ 2 ^ 40
array_is_short structs n t good =
    short n (expanded (name_shape (λ _. None) (body_of structs) 64) t) ((within_limits_decides (shape structs (array n t))).0 (and_parts (is_good_type structs t) (is_within_limits (shape structs (array n t))) good).1)

number_some : (n : ℕ) → 0 < length ((earlier 0).spell n)
number_some n = omega arith

module _ (m : Module) (all : List Tree) (few : length all < 2 ^ 37) (names : List Bytes) (fewer : length names < 2 ^ 37) where
  place_low : (t : Tree) → place same_type all t < 2 ^ 64
  place_low t = let most = place_at_most all t in omega (arith, most, few)

  places_low : (ts : Trees) → AllByRecursion (λ n. IsSmall ((earlier 0).spell n)) (places all ts)
  places_low no_trees = tt
  places_low (more_trees t ts) = (one (place same_type all t) (place_low t), places_low ts)

  type_low : (t : Tree) → is_good_type m.structs t ≡ true → IsLowLine (type_line (by_ids all names t))
  type_low (int w) good =
      let narrow = leb-true w 128 (and_parts (nat_le 1 w) (nat_le w 128) good).1 in
      record { code = omega arith; operands = one w (omega (arith, narrow)) }
  type_low ptr good = record { code = omega arith; operands = none }
  type_low void good = record { code = omega arith; operands = none }
  type_low (array n t) good =
      let few_elements = array_is_short m.structs n t good in
      record { code = omega arith; operands = next n _ (omega (arith, few_elements)) (one (place same_type all t) (place_low t)) }
  type_low (struct packed ts) good =
      record { code = omega arith; operands = next (bool_code packed) _ (bool_low packed) (flat (earlier 0).spell (places all ts) (places_low ts)) }
  type_low (named name) good =
      let most = index_at_most names name in
      record { code = omega arith; operands = one (index_of names name) (omega (arith, most, fewer)) }

  types_low : (ts : List Tree) → AreGood m ts → AllByRecursion IsLowLine (map (λ t. type_line (by_ids all names t)) ts)
  types_low [] good = tt
  types_low (t ∷ ts) good =
      let p = and_parts (is_good_type m.structs t) (list_all (is_good_type m.structs) ts) good in
      (type_low t p.0, types_low ts p.1)

  module _ (table_short : length (string_table m) < 2 ^ 37) where
    name_low : (name : Bytes) → (texts_in m).holds name ≡ true → IsSmall (offset m table_short name ∷ length name ∷ [])
    name_low name held =
        let less = length_low m table_short name held in
        next (offset m table_short name) _ (offset_low m table_short name held) (one (length name) (omega (arith, less)))

    struct_low : (name : Bytes) (b : TreeBody) → (texts_in m).holds name ≡ true → IsSmall ((definition (texts_in m) 0).spell (body_by_ids all b, name))
    struct_low name opaque_body held = next 2 _ (omega arith) (next 0 _ (omega arith) (name_low name held))
    struct_low name (fields true ts) held =
        next 1 _ (omega arith) (join (length (places all ts) ∷ flat_map (earlier 0).spell (places all ts)) (offset m table_short name ∷ length name ∷ []) (counted (earlier 0).spell (places all ts) number_some (places_low ts)) (name_low name held))
    struct_low name (fields false ts) held =
        next 0 _ (omega arith) (join (length (places all ts) ∷ flat_map (earlier 0).spell (places all ts)) (offset m table_short name ∷ length name ∷ []) (counted (earlier 0).spell (places all ts) number_some (places_low ts)) (name_low name held))

    structs_low : (ss : Structs) → AllByRecursion (λ name. (texts_in m).holds name ≡ true) (map (λ s. s.0) ss) → AllByRecursion IsLowLine (map (λ s. (7, (definition (texts_in m) 0).spell (body_by_ids all s.1, s.0))) ss)
    structs_low [] held = tt
    structs_low (s ∷ ss) held = (record { code = omega arith; operands = struct_low s.0 s.1 held.0 }, structs_low ss held.1)

-- the block of types
pub block_of_types_low : (m : Module) → IsWellFormed m → length (mentioned m) < 2 ^ 37 → length (map (λ s. s.0) m.structs) < 2 ^ 37 → length (string_table m) < 2 ^ 37
    → AllByRecursion (λ name. (texts_in m).holds name ≡ true) (map (λ s. s.0) m.structs) → AllByRecursion IsLowLine (type_lines (texts_in m) (mentioned m) m)
block_of_types_low m well few fewer table_short held =
    let names = map (λ (s : Bytes × TreeBody). s.0) m.structs in
    both_of IsLowLine (map (λ t. type_line (by_ids (mentioned m) names t)) (mentioned m)) (map (λ s. (7, (definition (texts_in m) 0).spell (body_by_ids (mentioned m) s.1, s.0))) m.structs)
    (types_low m (mentioned m) few names fewer (mentioned m) (mentioned_good m well)) (structs_low m (mentioned m) few names fewer table_short m.structs held)
