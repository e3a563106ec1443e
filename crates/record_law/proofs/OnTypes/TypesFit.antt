-- The types and structs of a well-formed module are read of the block that lists them.
use Rattle.std.proofs.Common.{◌≡◌, ℕ, ◌+◌, ◌≤◌, ◌<◌, true, not, ◌&&◌, List, [], ◌∷◌, ◌++◌, length, map, flat_map, refl, sym, ap, subst, arith}
use Rattle.std.specs.Prelude.{bytes_eq, nat_lt, nat_le, ◌==◌}
use Rattle.std.specs.List.{list_all, list_any, AllByRecursion}
use Rattle.std.proofs.lemmas.Bool.{and_parts, and_from, or_left, or_right, lt-ltb, ltb-true, leb-true, ne_eqb}
use Rattle.std.proofs.lemmas.List.{length-append, length-map, append_assoc}
use Rattle.std.proofs.lemmas.Slice.Eq.{bytes_eq-Decides}
use Rattle.ir_tables.specs.Table.{is_distinct}
use Rattle.type_table.specs.Shape.{shape}
use Rattle.type_table.specs.Tree.{Tree, named, TreeBody, opaque_body, fields, Structs}
use Rattle.module_arena.specs.Module.{Bytes, Module}
use Rattle.module_arena.specs.Names.{is_name}
use Rattle.module_arena.specs.WellFormed.{IsWellFormed, is_within_limits, is_good_type, is_good_body, struct_names}
use Rattle.record_table.specs.Fields as table_fields
use Rattle.record_table.specs.Mentions.{in_struct, in_variable, in_function, in_alias_type, mentioned}
use Rattle.record_table.specs.StringTable.{has_text, once_each, offset_in}
use Rattle.record_table.specs.TypeRecords.{are_distinct}
use Rattle.record_table.specs.Spelling.{string_table, texts_of, texts_in}
use Rattle.record_table.proofs.TextsBack.{lays_sized}
use Rattle.record_law.specs.Types.ReadTypes.{TypesAreRead}
use Rattle.record_law.proofs.OnTypes.Tests.{front_of, rest_of, new_behind}
use Rattle.record_law.proofs.OnTypes.TextsHeld.{struct_held}
use Rattle.record_law.proofs.OnTypes.TypesInOrder.{AreThere, has, written_there}
use Rattle.record_law.proofs.OnTypes.TypesPut.{IsGood}
use Rattle.record_law.proofs.OnTypes.StructsPut.{BodyIsThere}
use Rattle.record_law.proofs.OnTypes.StructsListed.{names_of}
use Rattle.record_law.proofs.OnTypes.TypesRead.{names_split, StructFits, AreNew, TypesFit, types_read}
use Rattle.record_law.proofs.OnTypes.GoodWritten.{AreGood}
use Rattle.record_law.proofs.OnTypes.GoodMentioned.{good_tree, mentioned_good}

-- ---- names

not_zero : (bs : Bytes) → list_all (λ c. nat_lt 0 c && nat_lt c 256) bs ≡ true → list_all (λ c. not (c == 0)) bs ≡ true
not_zero [] h = refl
not_zero (c ∷ bs) h =
    let p = and_parts (nat_lt 0 c && nat_lt c 256) (list_all (λ c. nat_lt 0 c && nat_lt c 256) bs) h in
    and_from (not (c == 0)) (list_all (λ c. not (c == 0)) bs) (positive c (and_parts (nat_lt 0 c) (nat_lt c 256) p.0).0) (not_zero bs p.1)
  where
    positive : (c : ℕ) → nat_lt 0 c ≡ true → not (c == 0) ≡ true
    positive c e = let less : 0 < c = ltb-true 0 c e in ap not (ne_eqb c 0 (omega (arith, less)))

-- a name is what records may give as a name
pub name_again : (name : Bytes) → is_name name ≡ true → table_fields.is_name name ≡ true
name_again [] h = h
name_again (b ∷ bs) h = not_zero (b ∷ bs) h

names_again : (names : List Bytes) → list_all is_name names ≡ true → list_all table_fields.is_name names ≡ true
names_again [] h = refl
names_again (n ∷ ns) h =
    let p = and_parts (is_name n) (list_all is_name ns) h in
    and_from (table_fields.is_name n) (list_all table_fields.is_name ns) (name_again n p.0) (names_again ns p.1)

distinct_again : (names : List Bytes) → is_distinct bytes_eq names ≡ true → are_distinct names ≡ true
distinct_again [] h = refl
distinct_again (n ∷ ns) h =
    let p = and_parts (not (list_any (bytes_eq n) ns)) (is_distinct bytes_eq ns) h in
    and_from (not (list_any (bytes_eq n) ns)) (are_distinct ns) p.0 (distinct_again ns p.1)

has_later : (n : Bytes) (ns all : List Bytes) → AllByRecursion (λ x. has_text all x ≡ true) ns → AllByRecursion (λ x. has_text (n ∷ all) x ≡ true) ns
has_later n [] all h = tt
has_later n (x ∷ ns) all h = (or_right (bytes_eq n x) (has_text all x) h.0, has_later n ns all h.1)

-- each name is among the names
pub has_each : (ns : List Bytes) → AllByRecursion (λ x. has_text ns x ≡ true) ns
has_each [] = tt
has_each (n ∷ ns) = (or_left (bytes_eq n n) (has_text ns n) ((bytes_eq-Decides n n).1 refl), has_later n ns ns (has_each ns))

module _ (m : Module) where
  good_ones : (ts : List Tree) → AreGood m ts → AllByRecursion (IsGood (texts_in m) m.structs (mentioned m) (names_of m.structs)) ts
  good_ones [] g = tt
  good_ones (t ∷ ts) g =
      let p = and_parts (is_good_type m.structs t) (list_all (is_good_type m.structs) ts) g in
      let one = good_tree m.structs t p.0 in
      (record { within = one.within; wide = one.wide; known = one.known }, good_ones ts p.1)

  names_within : (ss : Structs) → list_all (λ s. is_good_body m.structs s.1 && is_good_type m.structs (named s.0)) ss ≡ true
      → AllByRecursion (λ t. is_within_limits (shape m.structs t) ≡ true) (map named (names_of ss))
  names_within [] g = tt
  names_within (s ∷ ss) g =
      let p = and_parts (is_good_body m.structs s.1 && is_good_type m.structs (named s.0)) (list_all (λ s. is_good_body m.structs s.1 && is_good_type m.structs (named s.0)) ss) g in
      let q = and_parts (is_good_body m.structs s.1) (is_good_type m.structs (named s.0)) p.0 in
      ((good_tree m.structs (named s.0) q.1).within, names_within ss p.1)

  body_there : (name : Bytes) (b : TreeBody) → AreThere (mentioned m) (in_struct (name, b)) → BodyIsThere (mentioned m) b
  body_there name opaque_body h = tt
  body_there name (fields packed ts) h = h

  structs_fit : (ss : Structs) → AreThere (mentioned m) (flat_map in_struct ss) → AllByRecursion (λ x. has_text (names_of m.structs) x ≡ true) (names_of ss) → list_all is_name (names_of ss) ≡ true
      → AllByRecursion (StructFits (texts_in m) (lays_sized (string_table m) (offset_in (once_each (texts_of m)))) m.structs (mentioned m)) ss
  structs_fit [] there held names = tt
  structs_fit (s ∷ ss) there held names =
      let p = and_parts (is_name s.0) (list_all is_name (names_of ss)) names in (
        record {
          there = body_there s.0 s.1 (front_of (λ t. has (mentioned m) t ≡ true) (in_struct s) (flat_map in_struct ss) there);
          held = struct_held m s.0 held.0;
          name = name_again s.0 p.0;
        },
        structs_fit ss (rest_of (λ t. has (mentioned m) t ≡ true) (in_struct s) (flat_map in_struct ss) there) held.1 p.1,
      )

  are_new : (front back : Structs) → is_distinct bytes_eq (names_of (front ++ back)) ≡ true → length (front ++ back) ≤ 262144
      → AreNew (texts_in m) (lays_sized (string_table m) (offset_in (once_each (texts_of m)))) m.structs (mentioned m) front back
  are_new front [] distinct few = tt
  are_new front (s ∷ back) distinct few =
      let here = subst (λ (ns : List Bytes). is_distinct bytes_eq ns ≡ true) (names_split front (s ∷ back)) distinct in
      let all = length-append front (s ∷ back) in
      let fewer : length (names_of front) < 262144 = omega (arith, few, all, length-map front (λ (s : Bytes × TreeBody). s.0)) in (
        new_behind (names_of front) (names_of back) s.0 here,
        lt-ltb (length (names_of front)) 0x4_0000 fewer,
        are_new (front ++ s ∷ []) back (subst (λ (ss : Structs). is_distinct bytes_eq (names_of ss) ≡ true) (sym (append_assoc front (s ∷ []) back)) distinct)
            (subst (λ (ss : Structs). length ss ≤ 262144) (sym (append_assoc front (s ∷ []) back)) few),
      )

  types_fit : IsWellFormed m → TypesFit m
  types_fit well =
      let names = and_parts (list_all is_name (struct_names m)) (is_distinct bytes_eq (struct_names m)) well.struct_names in
      let few = leb-true (length m.structs) 262144 (and_parts (nat_le (length m.structs) 262144) _ well.few).0 in
      let a = flat_map in_struct m.structs in
      let b = flat_map in_variable m.variables in
      let c = flat_map in_function m.functions in
      let d = flat_map (λ a. in_alias_type a.ty) m.aliases in
      let there = front_of (λ t. has (mentioned m) t ≡ true) a b (front_of (λ t. has (mentioned m) t ≡ true) (a ++ b) c (front_of (λ t. has (mentioned m) t ≡ true) (a ++ b ++ c) d (written_there m))) in
      record {
        good = good_ones (mentioned m) (mentioned_good m well);
        within = names_within m.structs well.structs;
        fit = structs_fit m.structs there (has_each (names_of m.structs)) names.0;
        new = are_new [] m.structs names.1 few;
        distinct = and_from (list_all table_fields.is_name (names_of m.structs)) (are_distinct (names_of m.structs)) (names_again (names_of m.structs) names.0) (distinct_again (names_of m.structs) names.1);
      }

  pub types_back : IsWellFormed m → (at : ℕ) → TypesAreRead m at
  types_back well at = types_read m (types_fit well) at
