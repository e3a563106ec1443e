-- A block of types, record by record: the types are made of earlier ones, and the structs have the names that are known ahead.
use Rattle.std.proofs.Common.{◌≡◌, ◌<◌, ◌≤◌, ◌+◌, ℕ, zero, suc, Bool, true, false, not, ◌&&◌, cond, List, [], ◌∷◌, ◌++◌, length, get_or, set, map, Option, Some, None, nat_lt, nat_eq, bytes_eq, refl, sym, ap, subst, ◌∙◌, arith, append_assoc, append-nil, inl, inr, length-set}
use Rattle.std.specs.Prelude.{Ok, Err, ◌==◌}
use Rattle.std.specs.List.{list_all, list_any, AllByRecursion}
use Rattle.std.proofs.lemmas.Bool.{and_parts, and_from, or_parts, cases_Bool, eqb-true, ltb-true, le-leb, not-true}
use Rattle.std.proofs.lemmas.List.{length-append, length-map}
use Rattle.ir_tables.specs.Table.{is_distinct}
use Rattle.type_table.specs.declared.ir_type.StructBody.{StructBody}
use Rattle.type_table.specs.Types.{Types, with_type, with_body, names, structs, trees, Knows, KnowsBody}
use Rattle.type_table.specs.Types as tables
use Rattle.type_table.proofs.Added.{AllKnown-push}
use Rattle.module_arena.specs.Module.{Bytes}
use Rattle.module_arena.specs.Names as arena
use Rattle.module_arena.specs.WellFormed.{is_good_type, are_good_names}
use Rattle.record_table.specs.Layout.{judged}
use Rattle.record_table.specs.Fields.{Texts, is_name}
use Rattle.record_table.specs.Faults.{Answer, ◌>>=◌, Records, no_more, a_block, a_record, BadRecord, UnknownRecord, is_block_id, also}
use Rattle.record_table.specs.TypeRecords.{Listed, TypeKind, all_fit, are_distinct, at_first, called, definition, ir_type, kind_of_code, kinds, listed, listed_by, listed_from, names_in, stand_ins, struct_record, type_record}
use Rattle.record_law.proofs.OnLabels.Kept.{unless_ok, also_held}
use Rattle.record_law.proofs.OnFormed.Good.{AreGoodTypes, AreTexts}
use Rattle.record_law.proofs.OnFormed.TypeRecords.{definition_read, name_ahead, type_read}
use Rattle.record_law.proofs.OnFormed.Tests.{all_pass, both_of, distinct_with, each_set, each_too, other_way}
use Rattle.record_law.proofs.OnFormed.Texts.{HoldsTexts, name_again, texts_hold}
use Rattle.record_law.proofs.OnFormed.Trees.{IsMade, body_wider, names_are, table_good, trees_good}
use Rattle.record_law.proofs.OnFormed.Unbroken.{judged_read}

-- ---- names

-- a name that is none of these
pub new_name : (n : Bytes) (ns : List Bytes) → list_any (bytes_eq n) ns ≡ false → AllByRecursion (λ m. bytes_eq m n ≡ false) ns
new_name n [] h = tt
new_name n (m ∷ ns) h = let p = or_parts (bytes_eq n m) (list_any (bytes_eq n) ns) h in (other_way n m p.0, new_name n ns p.1)

distinct_again : (ns : List Bytes) → is_distinct bytes_eq ns ≡ true → are_distinct ns ≡ true
distinct_again [] h = refl
distinct_again (n ∷ ns) h =
    let p = and_parts (not (list_any (bytes_eq n) ns)) (is_distinct bytes_eq ns) h in
    and_from (not (list_any (bytes_eq n) ns)) (are_distinct ns) p.0 (distinct_again ns p.1)

names_again : (ns : List Bytes) → AllByRecursion (λ n. arena.is_name n ≡ true) ns → list_all is_name ns ≡ true
names_again ns h = all_pass is_name ns (each_too (λ n. arena.is_name n ≡ true) (λ n. is_name n ≡ true) ns name_again h)

called_again : (ns : List Bytes) → AllByRecursion (λ n. arena.is_name n ≡ true) ns → is_distinct bytes_eq ns ≡ true → called ns ≡ ns
called_again ns good distinct =
    ap (λ b. cond b ns (stand_ins 0 ns)) (and_from (list_all is_name ns) (are_distinct ns) (names_again ns good) (distinct_again ns distinct))

opaque_names : (ns : List Bytes) → map (λ (s : Bytes × Option StructBody). s.0) (map (λ (n : Bytes). (n, None)) ns) ≡ ns
opaque_names [] = refl
opaque_names (n ∷ ns) = ap (λ (ms : List Bytes). n ∷ ms) (opaque_names ns)

opaque_known : (count : ℕ) (ns : List Bytes) → AllByRecursion (λ (s : Bytes × Option StructBody). KnowsBody count s.1) (map (λ (n : Bytes). (n, None)) ns)
opaque_known count [] = tt
opaque_known count (n ∷ ns) = (tt, opaque_known count ns)

-- a body changes no name
names_stay : (all : List (Bytes × Option StructBody)) (id : ℕ) (b : Option StructBody)
    → map (λ (s : Bytes × Option StructBody). s.0) (set all id (get_or (map (λ (s : Bytes × Option StructBody). s.0) all) id [], b)) ≡ map (λ (s : Bytes × Option StructBody). s.0) all
names_stay [] id b = refl
names_stay (s ∷ all) zero b = refl
names_stay (s ∷ all) (suc id) b = ap (λ (ns : List Bytes). s.0 ∷ ns) (names_stay all id b)

not_seven : (code : ℕ) (kind : TypeKind) → kind_of_code code kinds ≡ Some kind → nat_eq code 7 ≡ false
not_seven code kind h = elim (cases_Bool (nat_eq code 7)) [
  | inl is ↦ absurd (never (subst (λ c. kind_of_code c kinds ≡ Some kind) (eqb-true code 7 is) h))
  | inr differs ↦ differs
]
  where
    never : kind_of_code 7 kinds ≡ Some kind → ⊥
    never e = cc

-- ---- record by record

module _ (t : Texts) (holds : HoldsTexts t) (all : List Bytes) where
  -- what was read so far, in front of these records
  record IsSoFar (rest : Records) (s : Listed) : Type 0 where
    pub texts : s.texts ≡ t
    pub called_so : names s.types ≡ called all
    pub split : all ≡ s.names ++ names_in t rest
    pub good : AllByRecursion (λ n. arena.is_name n ≡ true) s.names
    pub distinct : is_distinct bytes_eq s.names ≡ true
    pub few : length s.names ≤ 262144
    pub known : tables.AllKnown 0 (length s.types.structs) s.types.types
    pub bodies : AllByRecursion (λ b. KnowsBody (length s.types.types) b.1) s.types.structs

  -- and all of it is within the limits
  record IsFit (rest : Records) (s : Listed) : Type 0 where
    pub so_far : IsSoFar rest s
    pub fit : all_fit s.types ≡ true

  type_step : (s u : Listed) (code : ℕ) (operands : List ℕ) (behind : Records) (kind : TypeKind) → kind_of_code code kinds ≡ Some kind → IsSoFar (a_record code operands behind) s
      → type_record s (judged (ir_type (length s.types.types) (length s.types.structs) kind) operands) ≡ Ok u → IsFit behind u
  type_step s u code operands behind kind of h e =
      let count = length s.types.types in
      let known = length s.types.structs in
      let x = judged (ir_type count known kind) operands in
      let after : Types = with_type s.types x.0 in
      let made : Listed = record s { at = suc s.at; types = after } in
      let one = unless_ok 17 s.at (also 7 (all_fit after) (also 5 (length s.names == 0) x.1)) made u e in
      let seven = also_held 7 (all_fit after) (also 5 (length s.names == 0) x.1) one.0 in
      let five = also_held 5 (length s.names == 0) x.1 seven.1 in
      let knows = judged_read (Knows count known) (ir_type count known kind) (type_read count known kind) operands five.1 in
      let long : length after.types ≡ count + 1 = length-append s.types.types (x.0 ∷ []) in
      subst (λ (v : Listed). IsFit behind v) one.1 (record {
        so_far = record {
          texts = h.texts;
          called_so = h.called_so;
          split = h.split ∙ ap (λ b. s.names ++ cond b ((judged (definition t 0) operands).0.1 ∷ names_in t behind) (names_in t behind)) (not_seven code kind of);
          good = h.good;
          distinct = h.distinct;
          few = h.few;
          known = AllKnown-push 0 known s.types.types x.0 h.known (subst (λ n. Knows n known x.0) (omega arith) knows);
          bodies = each_too (λ b. KnowsBody count b.1) (λ b. KnowsBody (length after.types) b.1) s.types.structs (λ b k. subst (λ n. KnowsBody n b.1) (sym long) (body_wider count b.1 k)) h.bodies;
        };
        fit = seven.0;
      })

  struct_step : (s u : Listed) (code : ℕ) (operands : List ℕ) (behind : Records) → nat_eq code 7 ≡ true → IsSoFar (a_record code operands behind) s
      → struct_record s (judged (definition s.texts (length s.types.types)) operands) ≡ Ok u → IsFit behind u
  struct_step s u code operands behind is h e =
      let count = length s.types.types in
      let place = length s.names in
      let x = judged (definition s.texts count) operands in
      let after : Types = with_body s.types place x.0.0 in
      let made : Listed = record s { at = suc s.at; types = after; names = s.names ++ x.0.1 ∷ [] } in
      let is_new = not (list_any (bytes_eq x.0.1) s.names) in
      let one = unless_ok 17 s.at (also 7 (all_fit after && nat_lt place 0x4_0000) (also 4 is_new x.1)) made u e in
      let seven = also_held 7 (all_fit after && nat_lt place 0x4_0000) (also 4 is_new x.1) one.0 in
      let four = also_held 4 is_new x.1 seven.1 in
      let fits = and_parts (all_fit after) (nat_lt place 0x4_0000) seven.0 in
      let texts : HoldsTexts s.texts = subst HoldsTexts (sym h.texts) holds in
      let d = judged_read (λ x. KnowsBody count (Some x.0) × (arena.is_name x.1 ≡ true)) (definition s.texts count) (definition_read s.texts texts count) operands four.1 in
      let others = new_name x.0.1 s.names (not-true (list_any (bytes_eq x.0.1) s.names) four.0) in
      let ahead : (judged (definition t 0) operands).0.1 ≡ x.0.1 = ap (λ y. (judged (definition y 0) operands).0.1) (sym h.texts) ∙ name_ahead s.texts texts 0 count operands in
      let many = length-append s.names (x.0.1 ∷ []) in
      let less : place < 262144 = ltb-true place 0x4_0000 fits.1 in
      subst (λ (v : Listed). IsFit behind v) one.1 (record {
        so_far = record {
          texts = h.texts;
          called_so = names_stay s.types.structs place (Some x.0.0) ∙ h.called_so;
          split = h.split ∙ (ap (λ b. s.names ++ cond b ((judged (definition t 0) operands).0.1 ∷ names_in t behind) (names_in t behind)) is
              ∙ (ap (λ n. s.names ++ (n ∷ names_in t behind)) ahead ∙ sym (append_assoc s.names (x.0.1 ∷ []) (names_in t behind))));
          good = both_of (λ n. arena.is_name n ≡ true) s.names (x.0.1 ∷ []) h.good (d.1, tt);
          distinct = distinct_with bytes_eq s.names [] x.0.1 (subst (λ (ns : List Bytes). is_distinct bytes_eq ns ≡ true) (sym (append-nil s.names)) h.distinct) others refl;
          few = omega (arith, many, less);
          known = subst (λ n. tables.AllKnown 0 n s.types.types) (sym (length-set s.types.structs place (get_or (names s.types) place [], Some x.0.0))) h.known;
          bodies = each_set (λ b. KnowsBody count b.1) s.types.structs place (get_or (names s.types) place [], Some x.0.0) h.bodies d.0;
        };
        fit = fits.0;
      })

  -- one record
  seven_step : (s u : Listed) (code : ℕ) (operands : List ℕ) (behind : Records) (b : Bool) → nat_eq code 7 ≡ b → IsSoFar (a_record code operands behind) s
      → cond {A = Answer Listed} b (struct_record s (judged (definition s.texts (length s.types.types)) operands)) (Err (UnknownRecord 17 code)) ≡ Ok u → IsFit behind u
  seven_step s u code operands behind true is h e = struct_step s u code operands behind is h e
  seven_step s u code operands behind false is h e = absurd (cc)

  record_step : (s u : Listed) (code : ℕ) (operands : List ℕ) (behind : Records) → IsSoFar (a_record code operands behind) s → listed_by s code operands (kind_of_code code kinds) ≡ Ok u → IsFit behind u
  record_step s u code operands behind h e = by (kind_of_code code kinds) refl e
    where
      by : (o : Option TypeKind) → kind_of_code code kinds ≡ o → listed_by s code operands o ≡ Ok u → IsFit behind u
      by (Some kind) of e = type_step s u code operands behind kind of h e
      by None of e = seven_step s u code operands behind (nat_eq code 7) refl h e

  -- all of them
  all_good : (s : Listed) → IsFit no_more s → AreGoodTypes s.types
  all_good s h =
      let so_far = h.so_far in
      let same : all ≡ s.names = so_far.split ∙ append-nil s.names in
      let as_read : names s.types ≡ s.names = so_far.called_so ∙ (ap called same ∙ called_again s.names so_far.good so_far.distinct) in
      let made : IsMade s.types = record { known = so_far.known; bodies = so_far.bodies; fit = h.fit } in
      let by_name : s.names ≡ map (λ s. s.0) (structs s.types) = sym as_read ∙ names_are s.types made in
      let many = ap length by_name in
      let size = length-map (structs s.types) (λ s. s.0) in
      let few = so_far.few in
      record {
        types_good = all_pass (is_good_type (structs s.types)) (trees s.types) (trees_good s.types made);
        structs_good = table_good s.types made;
        names_good = subst (λ (ns : List Bytes). are_good_names ns ≡ true) by_name (and_from (list_all arena.is_name s.names) (is_distinct bytes_eq s.names) (all_pass arena.is_name s.names so_far.good) so_far.distinct);
        few = le-leb (length (structs s.types)) 262144 (omega (arith, few, many, size));
      }

  from_good : (s u : Listed) (rest : Records) → IsFit rest s → listed_from s rest ≡ Ok u → AreGoodTypes u.types
  from_good s u no_more h e = let same : s ≡ u = cc in subst (λ (v : Listed). AreGoodTypes v.types) same (all_good s h)
  from_good s u (a_block id inside behind) h e = absurd (by (is_block_id id) e)
    where
      by : (b : Bool) → cond {A = Answer Listed} b (Err (BadRecord id s.at 5)) (Err (UnknownRecord id 0)) ≡ Ok u → ⊥
      by true e = cc
      by false e = cc
  from_good s u (a_record code operands behind) h e = by (listed_by s code operands (kind_of_code code kinds)) refl e (λ v h e. from_good v u behind h e)
    where
      by : (answer : Answer Listed) → listed_by s code operands (kind_of_code code kinds) ≡ answer → (answer >>= λ v. listed_from v behind) ≡ Ok u
          → ((v : Listed) → IsFit behind v → listed_from v behind ≡ Ok u → AreGoodTypes u.types) → AreGoodTypes u.types
      by (Ok v) is e others = others v (record_step s v code operands behind h.so_far is) e
      by (Err fault) is e others = absurd (cc)

first_so_far : (t : Texts) (at : ℕ) (inside : Records) → (holds : HoldsTexts t) → IsSoFar t holds (names_in t inside) inside (at_first t at inside)
first_so_far t at inside holds = record {
  texts = refl;
  called_so = opaque_names (called (names_in t inside));
  split = refl;
  good = tt;
  distinct = refl;
  few = omega arith;
  known = tt;
  bodies = opaque_known 0 (called (names_in t inside));
}

read_good : (t : Texts) (holds : HoldsTexts t) (at : ℕ) (inside : Records) (u : Listed) → listed t at inside ≡ Ok u → AreGoodTypes u.types
read_good t holds at no_more u e = from_good t holds [] (at_first t at no_more) u no_more (record { so_far = first_so_far t at no_more holds; fit = refl }) e
read_good t holds at (a_block id inside behind) u e = absurd (by (is_block_id id) e)
  where
    by : (b : Bool) → cond {A = Answer Listed} b (Err (BadRecord id at 5)) (Err (UnknownRecord id 0)) ≡ Ok u → ⊥
    by true e = cc
    by false e = cc
read_good t holds at (a_record code operands behind) u e = by (listed_by first code operands (kind_of_code code kinds)) refl e
  where
    first : Listed
    first = at_first t at (a_record code operands behind)

    by : (answer : Answer Listed) → listed_by first code operands (kind_of_code code kinds) ≡ answer → (answer >>= λ v. listed_from v behind) ≡ Ok u → AreGoodTypes u.types
    by (Ok v) is e =
        from_good t holds (names_in t (a_record code operands behind)) v u behind
        (record_step t holds (names_in t (a_record code operands behind)) first v code operands behind (first_so_far t at (a_record code operands behind) holds) is) e
    by (Err fault) is e = absurd (cc)

-- a block of types of either version
pub types_are_good : (t : Texts) (at : ℕ) (inside : Records) (u : Listed) → AreTexts t → listed t at inside ≡ Ok u → AreGoodTypes u.types
types_are_good t at inside u are e = read_good t (texts_hold t are) at inside u e
