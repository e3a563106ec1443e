-- The block of types is read as the types and structs of the module.
use Rattle.std.proofs.Common.{◌≡◌, ℕ, suc, ◌+◌, true, false, ◌&&◌, List, [], ◌∷◌, ◌++◌, length, Option, Some, None, Ok, refl, sym, ap, ◌∙◌, append-nil, append_assoc, arith, inl, inr}
use Rattle.std.proofs.lemmas.Bool.{cases_Bool, and_parts}
use Rattle.std.proofs.lemmas.Slice.Eq.{bytes_eq-Decides}
use Rattle.std.proofs.lemmas.List.{length-map}
use Rattle.std.specs.Prelude.{map, flat_map, set, slice_index_or, nat_lt, nat_eq, bytes_eq, ⊤}
use Rattle.std.specs.List.{AllByRecursion, list_any, list_all}
use Rattle.bit_tree.specs.Written.{Written, no_more}
use Rattle.type_table.specs.Tree.{Tree, TreeBody, opaque_body, fields, named, Structs}
use Rattle.type_table.specs.Types.{Types, structs, with_body}
use Rattle.type_table.specs.Shape.{shape}
use Rattle.type_table.specs.declared.ir_type.StructBody.{StructBody}
use Rattle.module_arena.specs.Module.{Bytes, Module}
use Rattle.module_arena.specs.WellFormed.{is_within_limits}
use Rattle.record_table.specs.Walk.{least, going, next}
use Rattle.record_table.specs.Layout.{many, judged}
use Rattle.record_table.specs.StringTable.{once_each, offset_in, is_within, text_at}
use Rattle.record_table.proofs.TextsBack.{lays_sized}
use Rattle.record_table.specs.Fields.{Texts, is_name}
use Rattle.record_table.specs.Lays.{Lays}
use Rattle.record_table.specs.Faults.{Answer, ◌>>=◌}
use Rattle.record_table.specs.TypeRecords.{TypeKind, OfInt, OfPtr, OfVoid, OfArray, OfStruct, OfName, kind_code, kind_of, all_fit, earlier, definition, names_in, are_distinct, called, Listed, struct_record, listed_from}
use Rattle.record_table.specs.Mentions.{mentioned}
use Rattle.record_table.specs.Spelling.{Line, put, records_put, places, by_ids, body_by_ids, type_line, string_table, texts_of, texts_in}
use Rattle.record_law.proofs.OnBodies.BodyBack.{put_append}
use Rattle.record_law.specs.Types.ReadTypes.{TypesAreRead}
use Rattle.record_law.proofs.OnTypes.Judged.{judged_from}
use Rattle.record_law.proofs.OnTypes.TypesInOrder.{mentioned_in_order}
use Rattle.record_law.proofs.OnTypes.TypesById.{IsNamedBy}
use Rattle.record_law.proofs.OnTypes.TypesFront.{StandsOn, in_front_of}
use Rattle.record_law.proofs.OnTypes.TypesPut.{undefined, listed_at, IsGood, known_all, both_within, types_put}
use Rattle.record_law.proofs.OnTypes.StructsPut.{BodyIsThere, body_fields_there, lays_definition, set_behind, found_behind}
use Rattle.record_law.proofs.OnTypes.StructsListed.{names_of, defined, types_with, names_again, trees_with, bodies_with, front_within}

pub names_split : (front back : Structs) → names_of (front ++ back) ≡ names_of front ++ names_of back
names_split [] back = refl
names_split (s ∷ front) back = ap (λ ns. s.0 ∷ ns) (names_split front back)

no_struct : (kind : TypeKind) → nat_eq (kind_code kind) 7 ≡ false
no_struct OfInt = refl
no_struct OfPtr = refl
no_struct OfVoid = refl
no_struct OfArray = refl
no_struct OfStruct = refl
no_struct OfName = refl

module _ (texts : Texts) (lays_last : Lays (λ text. texts.holds text ≡ true) texts.last) (bodies : Structs) (all : List Tree) where
  -- behind all types and some structs
  abbrev listed_with : Structs → Structs → ℕ → Listed
  listed_with front back at = record { texts = texts; at = at; types = types_with bodies all front back; names = names_of front }

  -- a struct with fields of the module and a name that is held
  pub record StructFits (s : Bytes × TreeBody) : Type 0 where
    pub there : BodyIsThere all s.1
    pub held : texts.holds s.0 ≡ true
    pub name : is_name s.0 ≡ true

  -- each has a new name, and is not one too many
  abbrev pub AreNew : Structs → Structs → Type 0
  AreNew front [] = ⊤
  AreNew front (s ∷ back) = (list_any (bytes_eq s.0) (names_of front) ≡ false) × (nat_lt (length (names_of front)) 0x4_0000 ≡ true) × AreNew (front ++ s ∷ []) back

  there_all : (front : Structs) → AllByRecursion StructFits front → AllByRecursion (λ s. BodyIsThere all s.1) front
  there_all [] fit = tt
  there_all (s ∷ front) fit = (fit.0.there, there_all front fit.1)

  fits_and : (front : Structs) (s : Bytes × TreeBody) → AllByRecursion StructFits front → StructFits s → AllByRecursion StructFits (front ++ s ∷ [])
  fits_and [] s fit one = (one, tt)
  fits_and (t ∷ front) s fit one = (fit.0, fits_and front s fit.1 one)

  definition_judged : (s : Bytes × TreeBody) → StructFits s → judged (definition texts (length all)) ((definition texts 0).spell (body_by_ids all s.1, s.0)) ≡ ((body_by_ids all s.1, s.0), None)
  definition_judged s fit = judged_from (lays_definition texts lays_last (length all)) (body_by_ids all s.1, s.0) (body_fields_there all s.1 fit.there, (fit.held, fit.name))

  defined_more : (front : Structs) (s : Bytes × TreeBody) → defined bodies all (front ++ s ∷ []) ≡ defined bodies all front ++ (s.0, Some (body_by_ids all s.1)) ∷ []
  defined_more [] s = refl
  defined_more (t ∷ front) s = ap (λ xs. (t.0, Some (body_by_ids all t.1)) ∷ xs) (defined_more front s)

  -- the types where one struct more is defined
  after_is : (front back : Structs) (s : Bytes × TreeBody)
      → with_body (types_with bodies all front (s ∷ back)) (length (names_of front)) (body_by_ids all s.1) ≡ types_with bodies all (front ++ s ∷ []) back
  after_is front back s =
      let body : Option StructBody = Some (body_by_ids all s.1) in
      let rest = undefined (names_of back) in
      let now : List (Bytes × Option StructBody) = defined bodies all front ++ (s.0, None) ∷ rest in
      let made : List (Bytes × Option StructBody) → Types = λ xs. record { types = map (by_ids all (names_of bodies)) all; structs = xs } in
      ap (λ ns. made (set now (length (names_of front)) (slice_index_or ns (length (names_of front)) [], body))) (names_again bodies all front (s ∷ back) ∙ names_split front (s ∷ back))
      ∙ ap (λ n. made (set now (length (names_of front)) (n, body))) (found_behind (names_of front) s.0 (names_of back) [])
      ∙ ap (λ i. made (set now i (s.0, body))) (length-map front (λ (s : Bytes × TreeBody). s.0) ∙ sym (length-map front (λ (s : Bytes × TreeBody). (s.0, Some (body_by_ids all s.1)))))
      ∙ ap made (set_behind (defined bodies all front) (s.0, None) rest (s.0, body))
      ∙ ap made (sym (append_assoc (defined bodies all front) ((s.0, body) ∷ []) rest))
      ∙ ap (λ xs. made (xs ++ rest)) (sym (defined_more front s))

  placed : (front back : Structs) (s : Bytes × TreeBody) (at : ℕ) → all_fit (with_body (types_with bodies all front (s ∷ back)) (length (names_of front)) (body_by_ids all s.1)) ≡ true
      → nat_lt (length (names_of front)) 0x4_0000 ≡ true → list_any (bytes_eq s.0) (names_of front) ≡ false
      → struct_record (listed_with front (s ∷ back) at) ((body_by_ids all s.1, s.0), None)
      ≡ Ok (record (listed_with front (s ∷ back) at) { at = suc at; types = with_body (types_with bodies all front (s ∷ back)) (length (names_of front)) (body_by_ids all s.1); names = names_of front ++ s.0 ∷ [] })
  placed front back s at fits few new = rw (fits, few, new) refl

  pub structs_put : (back front : Structs) (at : ℕ) (behind : Written) → bodies ≡ front ++ back → StandsOn [] all → AllByRecursion (IsNamedBy (names_of bodies)) all
      → AllByRecursion (λ t. is_within_limits (shape bodies t) ≡ true) (all ++ map named (names_of bodies)) → AllByRecursion StructFits front → AllByRecursion StructFits back → AreNew front back
      → listed_from (listed_with front back at) (records_put (put (map (λ s. (7, (definition texts 0).spell (body_by_ids all s.1, s.0))) back) behind)) ≡ listed_from (listed_with bodies [] (at + length back)) (records_put behind)
  structs_put [] front at behind e stands known within before fit new =
      ap (λ done. listed_from (listed_with done [] at) (records_put behind)) (sym (e ∙ append-nil front)) ∙ ap (λ n. listed_from (listed_with bodies [] n) (records_put behind)) (omega arith)
  structs_put (s ∷ back) front at behind e stands known within before fit new =
      let more : List Line = map (λ s. (7, (definition texts 0).spell (body_by_ids all s.1, s.0))) back in
      let later = fits_and front s before fit.0 in
      let shifted : bodies ≡ (front ++ s ∷ []) ++ back = e ∙ sym (append_assoc front (s ∷ []) back) in
      let fits = ap all_fit (after_is front back s) ∙ front_within bodies all (front ++ s ∷ []) back shifted stands known (there_all (front ++ s ∷ []) later) within in
      let go : Answer Listed → Answer Listed = λ answer. answer >>= λ t. listed_from t (records_put (put more behind)) in
      ap (λ count. go (struct_record (listed_with front (s ∷ back) at) (judged (definition texts count) ((definition texts 0).spell (body_by_ids all s.1, s.0))))) (length-map all (by_ids all (names_of bodies)))
      ∙ ap (λ x. go (struct_record (listed_with front (s ∷ back) at) x)) (definition_judged s fit.0)
      ∙ ap go (placed front back s at fits new.1 new.0)
      ∙ ap (λ t. listed_from (record { texts = texts; at = suc at; types = t; names = names_of front ++ s.0 ∷ [] }) (records_put (put more behind))) (after_is front back s)
      ∙ ap (λ ns. listed_from (record { texts = texts; at = suc at; types = types_with bodies all (front ++ s ∷ []) back; names = ns }) (records_put (put more behind))) (sym (names_split front (s ∷ [])))
      ∙ structs_put back (front ++ s ∷ []) (suc at) behind shifted stands known within later fit.1 new.2
      ∙ ap (λ n. listed_from (listed_with bodies [] n) (records_put behind)) (omega arith)

  -- ---- names of structs are gathered first
  past_types : (ts : List Tree) (behind : Written) → names_in texts (records_put (put (map (λ t. type_line (by_ids all (names_of bodies) t)) ts) behind)) ≡ names_in texts (records_put behind)
  past_types [] behind = refl
  past_types (t ∷ ts) behind = rw (no_struct (kind_of (by_ids all (names_of bodies) t))) (past_types ts behind)

  -- fields are taken, whichever are types that are there
  taken : (count : ℕ) (ns rest : List ℕ) (broken : Option ℕ)
      → (later : Option ℕ) × (many (earlier count).read (length ns) (going (flat_map (earlier count).spell ns ++ rest) broken) ≡ (ns, going rest later))
  unfolding many next
  taken count [] rest broken = (broken, refl)
  taken count (n ∷ ns) rest broken = elim (cases_Bool (nat_lt n count)) [
    | inl is ↦ let others = taken count ns rest broken in (others.0, rw (is, others.1) refl)
    | inr differs ↦ let others = taken count ns rest (least 2 broken) in (others.0, rw (differs, others.1) refl)
  ]

  module _ (last_read : (text : Bytes) → texts.holds text ≡ true → (broken : Option ℕ) → (texts.last.read (going (texts.last.spell text) broken)).0 ≡ text) where
    -- so the name is read, whatever the count of types is
    name_behind : (body : TreeBody) (name : Bytes) → texts.holds name ≡ true → (judged (definition texts 0) ((definition texts 0).spell (body_by_ids all body, name))).0.1 ≡ name
    unfolding many next
    name_behind opaque_body name held = last_read name held None
    name_behind (fields true ts) name held = let all_taken = taken 0 (places all ts) (texts.last.spell name) None in rw all_taken.1 (last_read name held all_taken.0)
    name_behind (fields false ts) name held = let all_taken = taken 0 (places all ts) (texts.last.spell name) None in rw all_taken.1 (last_read name held all_taken.0)

    named_in : (back : Structs) → AllByRecursion StructFits back → names_in texts (records_put (put (map (λ s. (7, (definition texts 0).spell (body_by_ids all s.1, s.0))) back) no_more)) ≡ names_of back
    named_in [] fit = refl
    named_in (s ∷ back) fit = rw (name_behind s.1 s.0 fit.0.held, named_in back fit.1) refl

module _ (m : Module) where
  abbrev texts : Texts
  texts = texts_in m

  abbrev here : List Tree
  here = mentioned m

  abbrev names : List Bytes
  names = names_of m.structs

  abbrev table_of : Bytes
  table_of = string_table m

  abbrev offset_of : Bytes → ℕ
  offset_of = offset_in (once_each (texts_of m))

  -- a text that is held is read of its place, whatever is broken before
  last_read : (text : Bytes) → texts.holds text ≡ true → (broken : Option ℕ) → (texts.last.read (going (texts.last.spell text) broken)).0 ≡ text
  unfolding next
  last_read text held broken =
      let both = and_parts (is_within table_of (offset_of text) (length text)) (bytes_eq (text_at table_of (offset_of text) (length text)) text) held in
      (bytes_eq-Decides (text_at table_of (offset_of text) (length text)) text).0 both.1

  -- what the types and structs of a module keep
  pub record TypesFit : Type 0 where
    pub good : AllByRecursion (IsGood texts m.structs here names) here
    pub within : AllByRecursion (λ t. is_within_limits (shape m.structs t) ≡ true) (map named names)
    pub fit : AllByRecursion (StructFits texts (lays_sized table_of offset_of) m.structs here) m.structs
    pub new : AreNew texts (lays_sized table_of offset_of) m.structs here [] m.structs
    pub distinct : (list_all is_name names && are_distinct names) ≡ true

  abbrev type_part : List Line
  type_part = map (λ t. type_line (by_ids here names t)) here

  abbrev struct_part : List Line
  struct_part = map (λ s. (7, (definition texts 0).spell (body_by_ids here s.1, s.0))) m.structs

  called_so : (list_all is_name names && are_distinct names) ≡ true → called names ≡ names
  called_so distinct = rw distinct refl

  gathered : TypesFit → called (names_in texts (records_put (put (type_part ++ struct_part) no_more))) ≡ names
  gathered types =
      ap (λ w. called (names_in texts (records_put w))) (put_append type_part struct_part no_more)
      ∙ ap called (past_types texts (lays_sized table_of offset_of) m.structs here here (put struct_part no_more) ∙ named_in texts (lays_sized table_of offset_of) m.structs here last_read m.structs types.fit)
      ∙ called_so types.distinct

  -- the block of types is read
  pub types_read : TypesFit → (at : ℕ) → TypesAreRead m at
  types_read types at =
      let stands = in_front_of here (mentioned_in_order m) in
      let known = known_all texts m.structs here names here types.good in
      record {
        all = record { texts = texts; at = at + length here + length m.structs; types = types_with m.structs here m.structs []; names = names };
        is =
            ap (λ ns. listed_from (record { texts = texts; at = at; types = record { types = []; structs = undefined ns }; names = [] }) (records_put (put (type_part ++ struct_part) no_more))) (gathered types)
            ∙ ap (λ w. listed_from (listed_at texts m.structs here names [] at) (records_put w)) (put_append type_part struct_part no_more)
            ∙ types_put texts m.structs here names here [] at (put struct_part no_more) refl stands tt tt types.good types.within
            ∙ structs_put texts (lays_sized table_of offset_of) m.structs here m.structs [] (at + length here) no_more refl stands known
            (both_within texts m.structs here names here (map named names) types.good types.within) tt types.fit types.new;
        types_are = trees_with m.structs here m.structs [] (sym (append-nil m.structs)) stands known;
        structs_are = bodies_with m.structs here m.structs [] (sym (append-nil m.structs)) stands known (there_all texts (lays_sized table_of offset_of) m.structs here m.structs types.fit) ∙ append-nil m.structs;
      }
