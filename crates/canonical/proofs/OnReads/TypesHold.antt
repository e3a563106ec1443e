-- What the types and constants of canonical text ask for holds.
use Rattle.std.specs.Prelude.{◌≡◌, refl, ℕ, zero, suc, ◌^◌, ◌*◌, ◌-◌, ◌≤◌, ◌<◌, ◌==◌, nat_lt, nat_le, Bool, true, false, not, cond, ◌&&◌, ◌||◌, is_none, bytes_eq, List, [], ◌∷◌, ◌++◌}
use Rattle.std.specs.List.{list_any}
use Rattle.std.proofs.Common.{ap, sym, subst, ◌∙◌, arith}
use Rattle.std.proofs.Math.Nat.{pow-suc}
use Rattle.std.proofs.lemmas.Bool.{le-ltb, lt-ltb, le-leb, ltb-true, ltb-false, leb-true, and_parts, or_from}
use Rattle.std.proofs.lemmas.Slice.Eq.{bytes_eq-Decides}
use Rattle.type_table.specs.Shape.{shape}
use Rattle.type_table.specs.Tree.{Tree, int, ptr, void, array, struct, named, Trees, no_trees, more_trees, TreeBody, opaque_body, fields, Structs}
use Rattle.ir_phrases.specs.Constants.Tree.{IntegerConstant, types, TypeTrees, more_types}
use Rattle.module_arena.specs.Module.{Bytes, Constant, Integer, Truth, Null, Undef, Poison, ZeroInitializer, Address, ByteString, Aggregate, ElementAddress, Cast, Binary, Constants, no_constants, more_constants, Module}
use Rattle.module_arena.specs.Constants.{constants_in, constants_of}
use Rattle.module_arena.specs.WellFormed.{is_within_limits, is_good_type, are_good_types, is_good_body, are_good_structs, is_good_part, is_in_range, global_names}
use Rattle.canonical.specs.Items.Unplaced.{nowhere}
use Rattle.canonical.specs.Items.Parts.{natural, signed, name_tree, type_tree, type_trees, type_list, truth_tree, integer_tree, constant_tree, constant_trees}
use Rattle.canonical.specs.Items.Items.{body_tree}
use Rattle.canonical.proofs.OnModules.Back.{type_back}
use Rattle.name_rules.specs.declared.fault.ResolveFault.TheVariants as faults
use Rattle.name_rules.specs.Written.{type_in}
use Rattle.name_rules.specs.Measured.{tree_measured, names_of, struct_measures, contains_itself}
use Rattle.name_rules.specs.Demand.{ask, fits, is_deep, is_large}
use Rattle.name_rules.specs.TypeDemands.{Known, has_name, struct_measured, measured, is_past, has_past, have_past, type_demands, types_demands, body_types, struct_type_demands, constant_demands, constants_demands}
use Rattle.canonical.proofs.OnReads.Asked.{Held, held_none, held_more, held_both}
use Rattle.canonical.proofs.OnReads.Sizes.{each_shaped, looked, type_small, short_array}
use Rattle.canonical.proofs.OnReads.Good.{first_of_all, all_front, all_rest, others_of_all, whole, AreGoodParts, AllGoodParts}

named_there : (structs : Structs) (name : Bytes) → list_any (λ (s : Bytes × TreeBody). bytes_eq s.0 name) structs ≡ true → has_name (names_of structs) name ≡ true
named_there [] name e = e
named_there (s ∷ structs) name e = by (bytes_eq s.0 name) e (named_there structs name)
  where
    by : (b : Bool) → (b || list_any (λ (s : Bytes × TreeBody). bytes_eq s.0 name) structs) ≡ true → (list_any (λ (s : Bytes × TreeBody). bytes_eq s.0 name) structs ≡ true → has_name (names_of structs) name ≡ true) → (b || has_name (names_of structs) name) ≡ true
    by true q again = refl
    by false q again = again q

turned : (a b : Bytes) → bytes_eq a b ≡ true → bytes_eq b a ≡ true
turned a b e = (bytes_eq-Decides b a).1 (sym ((bytes_eq-Decides a b).0 e))

pub entry_there : (names : List Bytes) (name : Bytes) → list_any (bytes_eq name) names ≡ true → has_name names name ≡ true
entry_there [] name e = e
entry_there (n ∷ names) name e = by (bytes_eq name n) refl e (entry_there names name)
  where
    or_true : (b : Bool) → (b || true) ≡ true
    or_true true = refl
    or_true false = refl

    by : (b : Bool) → bytes_eq name n ≡ b → (b || list_any (bytes_eq name) names) ≡ true → (list_any (bytes_eq name) names ≡ true → has_name names name ≡ true) → (bytes_eq n name || has_name names name) ≡ true
    by true same q again = ap (λ b. b || has_name names name) (turned name n same)
    by false same q again = ap (λ b. bytes_eq n name || b) (again q) ∙ or_true (bytes_eq n name)

past_none : (past inside : Bool) → past ≡ false → (not past || inside) ≡ true
past_none past inside e = ap (λ b. not b || inside) e

module _ (m : Module) (good : are_good_structs m.structs ≡ true) where
  abbrev S : Structs
  S = m.structs

  -- what the canonical text of the module defines
  abbrev pub known : Known
  known = record { structs = S; measures = struct_measures S; globals = global_names m }

  small : (t : Tree) → is_within_limits (shape S t) ≡ true → (is_deep (measured known (type_tree t)) ≡ false) × (is_large (measured known (type_tree t)) ≡ false)
  small t w =
      let s = type_small S (each_shaped S S good) t w in
      (ap (λ u. is_deep (tree_measured (struct_measured known) u)) (type_back t) ∙ s.0, ap (λ u. is_large (tree_measured (struct_measured known) u)) (type_back t) ∙ s.1)

  pub nests_hold : (t : Tree) → is_within_limits (shape S t) ≡ true → not (is_deep (measured known (type_tree t))) ≡ true
  nests_hold t w = ap not (small t w).0

  mutual
    pub type_holds : (t : Tree) → is_good_type S t ≡ true → Held (type_demands known (type_tree t))
    type_holds (int width) e = held_none
    type_holds ptr e = held_none
    type_holds void e = held_none
    type_holds (array n t) e =
        let p = and_parts (is_good_type S t) (is_within_limits (shape S (array n t))) e in
        let past = or_from (nat_lt (2 ^ 40) n) (is_large (measured known (type_tree (array n t)))) (le-ltb (2 ^ 40) n (short_array S n t p.1)) (small (array n t) p.1).1 in
        held_more (nests_hold (array n t) p.1)
        (held_more (past_none (is_past known (type_tree (array n t))) (has_past known (type_tree t)) past)
        (held_more refl (type_holds t p.0)))
    type_holds (struct packed ts) e =
        let p = and_parts (are_good_types S ts) (is_within_limits (shape S (struct packed ts))) e in
        held_more (nests_hold (struct packed ts) p.1)
        (held_more (past_none (is_past known (type_tree (struct packed ts))) (have_past known (type_trees ts)) (small (struct packed ts) p.1).1)
        (types_hold ts p.0))
    type_holds (named name) e =
        let p = and_parts (list_any (λ (s : Bytes × TreeBody). bytes_eq s.0 name) S) (is_within_limits (shape S (named name))) e in
        held_more (named_there S name p.0)
        (held_more (nests_hold (named name) p.1)
        (held_more (past_none (is_large (struct_measured known name)) false (small (named name) p.1).1) held_none))

    pub types_hold : (ts : Trees) → are_good_types S ts ≡ true → Held (types_demands known (type_trees ts))
    types_hold no_trees e = held_none
    types_hold (more_trees t ts) e =
        let p = and_parts (is_good_type S t) (are_good_types S ts) e in
        held_both (type_holds t p.0) (types_hold ts p.1)

  list_is : (ts : Trees) → types (type_list ts) ≡ type_trees ts
  list_is no_trees = refl
  list_is (more_trees t ts) = λ i. more_types_of t (list_is ts i)
    where
      more_types_of : Tree → TypeTrees → TypeTrees
      more_types_of t us = more_types (type_tree t) us

  body_holds : (b : TreeBody) → is_good_body S b ≡ true → Held (types_demands known (body_types known (body_tree b)))
  body_holds opaque_body e = held_none
  body_holds (fields false ts) e = subst (λ us. Held (types_demands known us)) (sym (list_is ts)) (types_hold ts e)
  body_holds (fields true ts) e = subst (λ us. Held (types_demands known us)) (sym (list_is ts)) (types_hold ts e)

  pub struct_holds : (name : Bytes) (b : TreeBody) → is_good_body S b ≡ true → is_good_type S (named name) ≡ true → Held (struct_type_demands known (name_tree name) (body_tree b))
  struct_holds name b e f =
      let p = and_parts (list_any (λ (s : Bytes × TreeBody). bytes_eq s.0 name) S) (is_within_limits (shape S (named name))) f in
      let ended : not (is_none (struct_measured known name) && contains_itself S name) ≡ true =
      ap (λ o. not (is_none o && contains_itself S name)) (looked S (each_shaped S S good) name) in
      held_more (nests_hold (named name) p.1)
      (held_more ended
      (held_more (past_none (is_large (struct_measured known name)) (have_past known (body_types known (body_tree b))) (small (named name) p.1).1)
      (body_holds b e)))

  -- ---- constants

  signed_fits : (width n : ℕ) → 1 ≤ width → n < 2 ^ width → fits width (signed width n) ≡ true
  signed_fits width n one lt = by (nat_lt n (2 ^ (width - 1))) refl
    where
      one_less : (w : ℕ) → w ≡ suc w - 1
      one_less w = omega arith

      half : (w : ℕ) → 1 ≤ w → 2 ^ w ≡ 2 ^ (w - 1) * 2
      half zero le = absurd (omega (arith, le))
      half (suc w) le = pow-suc 2 w ∙ ap (λ k. 2 ^ k * 2) (one_less w)

      by : (b : Bool) → nat_lt n (2 ^ (width - 1)) ≡ b → fits width (cond b (natural n) (record { negative = true; magnitude = 2 ^ width - n; place = nowhere })) ≡ true
      by true e = lt-ltb n (2 ^ width) lt
      by false e =
          let le = ltb-false n (2 ^ (width - 1)) e in
          let two = half width one in
          le-leb (2 ^ width - n) (2 ^ (width - 1)) (omega (arith, le, two))

  truth_holds : (ty : Tree) (b : Bool) → Held (constant_demands known ty (truth_tree b))
  truth_holds ty true = held_none
  truth_holds ty false = held_none

  width_holds : (width n : ℕ) (b : Bool) → 1 ≤ width → n < 2 ^ width → Held (constant_demands known (int width) (cond b (truth_tree (n == 1)) (IntegerConstant (signed width n))))
  width_holds width n true one lt = truth_holds (int width) (n == 1)
  width_holds width n false one lt = held_more (signed_fits width n one lt) held_none

  wide_holds : (n : ℕ) → nat_lt n (2 ^ 128) ≡ true → Held (ask (fits 128 (signed 128 n)) (faults.ConstantRange (signed 128 n).place) ∷ [])
  wide_holds n e = held_more (signed_fits 128 n (omega arith) (ltb-true n (2 ^ 128) e)) held_none

  integer_holds : (ty : Tree) (n : ℕ) → is_good_type S ty ≡ true → is_in_range ty (Integer n) ≡ true → Held (constant_demands known ty (integer_tree ty n))
  integer_holds (int width) n g e = width_holds width n (width == 1) (leb-true 1 width (and_parts (nat_le 1 width) (nat_le width 128) g).0) (ltb-true n (2 ^ width) e)
  integer_holds ptr n g e = wide_holds n e
  integer_holds void n g e = wide_holds n e
  integer_holds (array k t) n g e = wide_holds n e
  integer_holds (struct packed ts) n g e = wide_holds n e
  integer_holds (named name) n g e = wide_holds n e

  mutual
    pub constant_holds : (t : Tree) (c : Constant) → AreGoodParts m t c → Held (constant_demands known t (constant_tree t c))
    constant_holds t (Integer n) e = let w = whole m t (Integer n) e in integer_holds t n w.ty w.range
    constant_holds t (Truth b) e = truth_holds t b
    constant_holds t Null e = held_none
    constant_holds t Undef e = held_none
    constant_holds t Poison e = held_none
    constant_holds t ZeroInitializer e = held_none
    constant_holds t (Address name) e = held_more (entry_there (global_names m) name (whole m t (Address name) e).named) held_none
    constant_holds t (ByteString bytes) e = held_none
    constant_holds t (Aggregate kind cs) e = constants_hold cs (others_of_all (is_good_part m) (t, Aggregate kind cs) (constants_of cs) e)
    constant_holds t (ElementAddress set s cs) e =
        held_both
        (type_holds s (first_of_all (is_good_type S) s [] (whole m t (ElementAddress set s cs) e).types)) (constants_hold cs (others_of_all (is_good_part m) (t, ElementAddress set s cs) (constants_of cs) e))
    constant_holds t (Cast o from c to) e =
        let inner = others_of_all (is_good_part m) (t, Cast o from c to) (constants_in from c) e in
        held_both (type_holds from (whole m from c inner).ty)
        (held_both
        (subst (λ u. Held (constant_demands known u (constant_tree from c))) (sym (type_back from)) (constant_holds from c inner))
        (type_holds to (first_of_all (is_good_type S) to [] (whole m t (Cast o from c to) e).types)))
    constant_holds t (Binary o set a b u c) e =
        let inner = others_of_all (is_good_part m) (t, Binary o set a b u c) (constants_in a b ++ constants_in u c) e in
        let left = all_front (is_good_part m) (constants_in a b) (constants_in u c) inner in
        let right = all_rest (is_good_part m) (constants_in a b) (constants_in u c) inner in
        held_both (type_holds a (whole m a b left).ty)
        (held_both (subst (λ v. Held (constant_demands known v (constant_tree a b))) (sym (type_back a)) (constant_holds a b left))
        (held_both (type_holds u (whole m u c right).ty)
        (subst (λ v. Held (constant_demands known v (constant_tree u c))) (sym (type_back u)) (constant_holds u c right))))

    pub constants_hold : (cs : Constants) → AllGoodParts m cs → Held (constants_demands known (constant_trees cs))
    constants_hold no_constants e = held_none
    constants_hold (more_constants t c cs) e =
        let first = all_front (is_good_part m) (constants_in t c) (constants_of cs) e in
        held_both (type_holds t (whole m t c first).ty)
        (held_both (subst (λ u. Held (constant_demands known u (constant_tree t c))) (sym (type_back t)) (constant_holds t c first))
        (constants_hold cs (all_rest (is_good_part m) (constants_in t c) (constants_of cs) e)))

  -- at the type that is written before it
  pub constant_at_holds : (t : Tree) (c : Constant) → AreGoodParts m t c → Held (constant_demands known (type_in (type_tree t)) (constant_tree t c))
  constant_at_holds t c e = subst (λ u. Held (constant_demands known u (constant_tree t c))) (sym (type_back t)) (constant_holds t c e)
