-- Types and constants that are well formed can be written.
use Rattle.std.specs.Prelude.{◌≡◌, refl, ℕ, zero, suc, ◌+◌, ◌-◌, ◌≤◌, ◌<◌, ◌^◌, max, nat_le, Bool, true, false, not, ◌&&◌, bytes_eq, List, [], ◌∷◌, ◌++◌, map, Option, Some, None, cond, slice_index_or}
use Rattle.std.specs.List.{list_any, list_all}
use Rattle.std.proofs.Common.{ap, sym, subst, ◌∙◌, arith, pow_mono}
use Rattle.std.proofs.lemmas.Bool.{and_parts, ltb-true, leb-true, not-true, or_parts}
use Rattle.std.proofs.lemmas.Slice.Eq.{bytes_eq-Decides}
use Rattle.ir_tables.specs.Table.{is_distinct}
use Rattle.ir_tables.specs.declared.opcode.Opcode.TheVariants as op
use Rattle.type_table.specs.Shape.{Shape, array_of, struct_of, Shapes, expanded, all_expanded, body_shape, shape, nesting, deepest}
use Rattle.type_table.specs.Tree.{Tree, int, ptr, void, array, struct, named, Trees, no_trees, more_trees, TreeBody, opaque_body, fields, Structs, index_of, body_of}
use Rattle.type_table.proofs.Rooms.{unmapped, unjoined, name_shape-suc}
use Rattle.module_arena.specs.Module.{Bytes, Constant, Integer, Truth, Null, Undef, Poison, ZeroInitializer, Address, ByteString, Aggregate, ElementAddress, Cast, Binary, Constants, no_constants, more_constants, Module}
use Rattle.module_arena.specs.Constants.{constants_in, constants_of}
use Rattle.module_arena.specs.Forms.{are_flags_of, is_constant_binary, has_constants}
use Rattle.module_arena.specs.Names.{are_bytes, is_name}
use Rattle.module_arena.specs.WellFormed.{struct_names, global_names, is_within_limits, is_good_type, are_good_types, is_good_body, are_good_structs, is_in_range, is_good_part, depth, greatest_depth, is_good_constant}
use Rattle.canonical.specs.Law.Written.{Inside, IsTypeText, AreTypeTexts, IsNumberText, IsConstantText, AreConstantTexts, AreTypeListTexts}
use Rattle.canonical.specs.Law.Texts.{IsBodyOfStruct, AreStructTexts}
use Rattle.canonical.proofs.OnReads.Sizes.{room_shape, shape_fits, short_array}
use Rattle.canonical.proofs.OnReads.Flags.{flag_set}
use Rattle.canonical.proofs.OnReads.Good.{first_of_all, others_of_all, all_front, all_rest, whole, AreGoodParts, AllGoodParts}
use Rattle.canonical.proofs.OnReads.NameTexts.{bytes_of, name_text, name_among, struct_among}

bytes_in_range : (ty : Tree) (bytes : Bytes) → is_in_range ty (ByteString bytes) ≡ true → are_bytes bytes ≡ true
bytes_in_range (int w) bytes e = e
bytes_in_range ptr bytes e = e
bytes_in_range void bytes e = e
bytes_in_range (array n t) bytes e = e
bytes_in_range (struct packed ts) bytes e = e
bytes_in_range (named name) bytes e = e

-- inside a bracket, where one more than so many may still be opened
within : (d n : ℕ) (P : ℕ → Type 0) → n + 1 ≤ d → ((k : ℕ) → n ≤ k → P k) → Inside d P
within zero n P le h = absurd (omega (arith, le))
within (suc d) n P le h = h d (omega (arith, le))

module _ (m : Module) (structs_named : list_all is_name (struct_names m) ≡ true) (globals_named : list_all is_name (global_names m) ≡ true) where
  -- a type whose shape, by whatever is said of names, nests no deeper
  mutual
    type_text : (f : Bytes → Option Shape) (t : Tree) (d : ℕ) (x : Shape) → is_good_type m.structs t ≡ true → expanded f t ≡ Some x → nesting x ≤ d → IsTypeText t d
    type_text f (int w) d x e h le = let p = and_parts (nat_le 1 w) (nat_le w 128) e in (leb-true 1 w p.0, leb-true w 128 p.1)
    type_text f ptr d x e h le = tt
    type_text f void d x e h le = tt
    type_text f (array n t) d x e h le =
        let inside = unmapped (array_of n) (expanded f t) x h in
        let p = and_parts (is_good_type m.structs t) (is_within_limits (shape m.structs (array n t))) e in
        let long = short_array m.structs n t p.1 in
        let deep : nesting inside.0 + 1 ≤ d = subst (λ y. nesting y ≤ d) (sym inside.2) le in
        (omega (arith, long), within d (nesting inside.0) (IsTypeText t) deep (λ k q. type_text f t k inside.0 p.0 inside.1 q))
    type_text f (struct packed ts) d x e h le =
        let inside = unmapped (struct_of None packed) (all_expanded f ts) x h in
        let p = and_parts (are_good_types m.structs ts) (is_within_limits (shape m.structs (struct packed ts))) e in
        let deep : deepest inside.0 + 1 ≤ d = subst (λ y. nesting y ≤ d) (sym inside.2) le in
        within d (deepest inside.0) (AreTypeTexts ts) deep (λ k q. types_text f ts k inside.0 p.0 inside.1 q)
    type_text f (named name) d x e h le = struct_among m.structs name structs_named (and_parts (list_any (λ (s : Bytes × TreeBody). bytes_eq s.0 name) m.structs) (is_within_limits (shape m.structs (named name))) e).0

    types_text : (f : Bytes → Option Shape) (ts : Trees) (d : ℕ) (xs : Shapes) → are_good_types m.structs ts ≡ true → all_expanded f ts ≡ Some xs → deepest xs ≤ d → AreTypeTexts ts d
    types_text f no_trees d xs e h le = tt
    types_text f (more_trees t ts) d xs e h le =
        let inside = unjoined (expanded f t) (all_expanded f ts) xs h in
        let p = and_parts (is_good_type m.structs t) (are_good_types m.structs ts) e in
        let deep : max (nesting inside.0) (deepest inside.1) ≤ d = subst (λ ys. deepest ys ≤ d) (sym inside.4) le in
        (type_text f t d inside.0 p.0 inside.2 (omega (arith, deep)), types_text f ts d inside.1 p.1 inside.3 (omega (arith, deep)))

  -- a well-formed type
  pub good_type_text : (t : Tree) → is_good_type m.structs t ≡ true → IsTypeText t 64
  good_type_text (int w) e = let p = and_parts (nat_le 1 w) (nat_le w 128) e in (leb-true 1 w p.0, leb-true w 128 p.1)
  good_type_text ptr e = tt
  good_type_text void e = tt
  good_type_text (array n t) e =
      let s = shape_fits m.structs (array n t) (and_parts (is_good_type m.structs t) (is_within_limits (shape m.structs (array n t))) e).1 in
      type_text (room_shape m.structs 64) (array n t) 64 s.0 e s.1 s.2
  good_type_text (struct packed ts) e =
      let s = shape_fits m.structs (struct packed ts) (and_parts (are_good_types m.structs ts) (is_within_limits (shape m.structs (struct packed ts))) e).1 in
      type_text (room_shape m.structs 64) (struct packed ts) 64 s.0 e s.1 s.2
  good_type_text (named name) e = struct_among m.structs name structs_named (and_parts (list_any (λ (s : Bytes × TreeBody). bytes_eq s.0 name) m.structs) (is_within_limits (shape m.structs (named name))) e).0

  pub type_list_text : (ts : List Tree) → list_all (is_good_type m.structs) ts ≡ true → AreTypeListTexts 64 ts
  type_list_text [] e = tt
  type_list_text (t ∷ ts) e = (good_type_text t (first_of_all (is_good_type m.structs) t ts e), type_list_text ts (others_of_all (is_good_type m.structs) t ts e))

  -- ---- structs

  fields_text : (name : Bytes) (b : TreeBody) → body_of m.structs name ≡ b → is_good_body m.structs b ≡ true → is_good_type m.structs (named name) ≡ true → IsBodyOfStruct 64 b
  fields_text name opaque_body q e t = tt
  fields_text name (fields packed ts) q e t =
      let fit = (and_parts (list_any (λ (s : Bytes × TreeBody). bytes_eq s.0 name) m.structs) (is_within_limits (shape m.structs (named name))) t).1 in
      let s = shape_fits m.structs (named name) fit in
      let opened : body_shape (room_shape m.structs 63) None (fields packed ts) ≡ Some s.0 =
      ap (body_shape (room_shape m.structs 63) None) (sym q) ∙ sym (name_shape-suc (λ _. None) (body_of m.structs) 63 name) ∙ s.1 in
      let inside = unmapped (struct_of None packed) (all_expanded (room_shape m.structs 63) ts) s.0 opened in
      let deep : deepest inside.0 + 1 ≤ 64 = subst (λ y. nesting y ≤ 64) (sym inside.2) s.2 in
      within 64 (deepest inside.0) (AreTypeTexts ts) deep (λ k r. types_text (room_shape m.structs 63) ts k inside.0 e inside.1 r)

  -- each struct is what its name stands for
  abbrev AreAt : (Bytes → TreeBody) → Structs → Type 0
  AreAt look [] = Unit {0}
  AreAt look (s ∷ ss) = (look s.0 ≡ s.1) × AreAt look ss

  at_behind : (x : Bytes × TreeBody) (all ss : Structs) → list_any (bytes_eq x.0) (map (λ s. s.0) ss) ≡ false → AreAt (body_of all) ss → AreAt (body_of (x ∷ all)) ss
  at_behind x all [] e h = tt
  at_behind x all (s ∷ ss) e h =
      let p = or_parts (bytes_eq x.0 s.0) (list_any (bytes_eq x.0) (map (λ s. s.0) ss)) e in
      (ap (λ b. body_at b) p.0 ∙ h.0, at_behind x all ss p.1 h.1)
    where
      body_at : Bool → TreeBody
      body_at b = slice_index_or (map (λ s. s.1) (x ∷ all)) (cond b 0 (suc (index_of (map (λ s. s.0) all) s.0))) opaque_body

  are_at : (ss : Structs) → is_distinct bytes_eq (map (λ s. s.0) ss) ≡ true → AreAt (body_of ss) ss
  are_at [] e = tt
  are_at (s ∷ ss) e =
      let p = and_parts (not (list_any (bytes_eq s.0) (map (λ s. s.0) ss))) (is_distinct bytes_eq (map (λ s. s.0) ss)) e in
      (ap (λ b. first_at b) ((bytes_eq-Decides s.0 s.0).1 refl), at_behind s ss ss (not-true (list_any (bytes_eq s.0) (map (λ s. s.0) ss)) p.0) (are_at ss p.1))
    where
      first_at : Bool → TreeBody
      first_at b = slice_index_or (map (λ s. s.1) (s ∷ ss)) (cond b 0 (suc (index_of (map (λ s. s.0) ss) s.0))) opaque_body

  structs_text : (ss : Structs) → list_all is_name (map (λ s. s.0) ss) ≡ true → AreAt (body_of m.structs) ss → list_all (λ s. is_good_body m.structs s.1 && is_good_type m.structs (named s.0)) ss ≡ true → AreStructTexts 64 ss
  structs_text [] n a e = tt
  structs_text (s ∷ ss) n a e =
      let p = and_parts (is_good_body m.structs s.1 && is_good_type m.structs (named s.0)) (list_all (λ s. is_good_body m.structs s.1 && is_good_type m.structs (named s.0)) ss) e in
      let q = and_parts (is_good_body m.structs s.1) (is_good_type m.structs (named s.0)) p.0 in
      (name_text s.0 (first_of_all is_name s.0 (map (λ s. s.0) ss) n), fields_text s.0 s.1 a.0 q.0 q.1, structs_text ss (others_of_all is_name s.0 (map (λ s. s.0) ss) n) a.1 p.1)

  pub all_structs_text : is_distinct bytes_eq (struct_names m) ≡ true → are_good_structs m.structs ≡ true → AreStructTexts 64 m.structs
  all_structs_text apart e = structs_text m.structs structs_named (are_at m.structs apart) e

  -- ---- constants

  number_text : (w n : ℕ) → w ≤ 128 → n < 2 ^ w → (n < 10 ^ 64) × (2 ^ w - n < 10 ^ 64)
  number_text w n le lt =
      let most : 2 ^ w ≤ 2 ^ 128 = pow_mono le in
      (omega (arith, most, lt), omega (arith, most))

  integer_text : (ty : Tree) (n : ℕ) → is_good_type m.structs ty ≡ true → is_in_range ty (Integer n) ≡ true → IsNumberText ty n
  integer_text (int w) n g e = number_text w n (leb-true w 128 (and_parts (nat_le 1 w) (nat_le w 128) g).1) (ltb-true n (2 ^ w) e)
  integer_text ptr n g e = number_text 128 n (omega arith) (ltb-true n (2 ^ 128) e)
  integer_text void n g e = number_text 128 n (omega arith) (ltb-true n (2 ^ 128) e)
  integer_text (array k t) n g e = number_text 128 n (omega arith) (ltb-true n (2 ^ 128) e)
  integer_text (struct packed ts) n g e = number_text 128 n (omega arith) (ltb-true n (2 ^ 128) e)
  integer_text (named name) n g e = number_text 128 n (omega arith) (ltb-true n (2 ^ 128) e)

  mutual
    constant_text : (ty : Tree) (c : Constant) (d : ℕ) → AreGoodParts m ty c → depth c ≤ d → IsConstantText 64 ty c d
    constant_text ty (Integer n) d e le = let w = whole m ty (Integer n) e in integer_text ty n w.ty w.range
    constant_text ty (Truth b) d e le = tt
    constant_text ty Null d e le = tt
    constant_text ty Undef d e le = tt
    constant_text ty Poison d e le = tt
    constant_text ty ZeroInitializer d e le = tt
    constant_text ty (Address name) d e le = name_among (global_names m) name globals_named (whole m ty (Address name) e).named
    constant_text ty (ByteString bytes) d e le = bytes_of bytes (bytes_in_range ty bytes (whole m ty (ByteString bytes) e).range)
    constant_text ty (Aggregate kind cs) d e le = within d (greatest_depth cs) (AreConstantTexts 64 cs) le (λ k q. constants_text cs k (others_of_all (is_good_part m) (ty, Aggregate kind cs) (constants_of cs) e) q)
    constant_text ty (ElementAddress set s cs) d e le =
        let w = whole m ty (ElementAddress set s cs) e in
        let p = and_parts (are_flags_of op.GetElementPtr set) (has_constants cs) w.phrase in
        (flag_set op.GetElementPtr set p.0, good_type_text s (first_of_all (is_good_type m.structs) s [] w.types), p.1, within d (greatest_depth cs) (AreConstantTexts 64 cs) le (λ k q. constants_text cs k (others_of_all (is_good_part m) (ty, ElementAddress set s cs) (constants_of cs) e) q))
    constant_text ty (Cast o from c to) d e le =
        let w = whole m ty (Cast o from c to) e in
        let inner = others_of_all (is_good_part m) (ty, Cast o from c to) (constants_in from c) e in
        (w.phrase, good_type_text from (whole m from c inner).ty, good_type_text to (first_of_all (is_good_type m.structs) to [] w.types), within d (depth c) (IsConstantText 64 from c) le (λ k q. constant_text from c k inner q))
    constant_text ty (Binary o set a b u c) d e le =
        let w = whole m ty (Binary o set a b u c) e in
        let p = and_parts (is_constant_binary o) (are_flags_of o set) w.phrase in
        let inner = others_of_all (is_good_part m) (ty, Binary o set a b u c) (constants_in a b ++ constants_in u c) e in
        let left = all_front (is_good_part m) (constants_in a b) (constants_in u c) inner in
        let right = all_rest (is_good_part m) (constants_in a b) (constants_in u c) inner in
        (p.0, flag_set o set p.1, good_type_text a (whole m a b left).ty, good_type_text u (whole m u c right).ty, within d (max (depth b) (depth c)) (λ k. IsConstantText 64 a b k × IsConstantText 64 u c k) le (λ k q. (constant_text a b k left (omega (arith, q)), constant_text u c k right (omega (arith, q)))))

    constants_text : (cs : Constants) (d : ℕ) → AllGoodParts m cs → greatest_depth cs ≤ d → AreConstantTexts 64 cs d
    constants_text no_constants d e le = tt
    constants_text (more_constants t c cs) d e le =
        let first = all_front (is_good_part m) (constants_in t c) (constants_of cs) e in
        (good_type_text t (whole m t c first).ty, constant_text t c d first (omega (arith, le)), constants_text cs d (all_rest (is_good_part m) (constants_in t c) (constants_of cs) e) (omega (arith, le)))

  -- a well-formed constant
  pub good_constant_text : (ty : Tree) (c : Constant) → is_good_constant m (ty, c) ≡ true → IsConstantText 64 ty c 64
  good_constant_text ty c e =
      let p = and_parts (nat_le (depth c) 64) (list_all (is_good_part m) (constants_in ty c)) e in
      constant_text ty c 64 p.1 (leb-true (depth c) 64 p.0)
