-- Where the leaves of lists in brackets lie, and of values that are filled alike.
use Rattle.std.proofs.Common.{◌≡◌, ℕ, zero, suc, ◌+◌, ◌-◌, ◌*◌, ◌≤◌, List, [], ◌∷◌, ◌++◌, length, map, zip, Bool, true, false, ◌&&◌, nat_lt, Option, Some, None, is_some, refl, sym, ap, ◌∙◌, subst, true≢false, eqb-true, suc-ne-zero, arith, unwrap_or}
use Rattle.std.specs.List.{AllZip}
use Rattle.std.proofs.lemmas.Bool.{and_parts}
use Rattle.std.proofs.lemmas.List.{length-map}
use Rattle.ir_eval.specs.declared.value.Scalar.{Scalar}
use Rattle.ir_eval.specs.declared.value.Scalar.TheVariants as scalar
use Rattle.ir_memory.specs.declared.leaf.Leaf.{Leaf}
use Rattle.ir_memory.specs.declared.leaf.Leaf.TheVariants as leaf
use Rattle.type_table.specs.Layout.{align, end_after, has_layout, have_layouts, field_start, size}
use Rattle.type_table.specs.Shape.{Shape, int_leaf, ptr_leaf, void_leaf, opaque_leaf, array_of, struct_of, Shapes, no_shapes, more_shapes, expanded, all_expanded, name_shape, shape}
use Rattle.type_table.specs.Tree.{Tree, int, array, struct, Trees, no_trees, more_trees, body_of}
use Rattle.type_table.proofs.Rooms.{unjoined, unmapped}
use Rattle.module_arena.specs.Constants.{expected, parts_fit, each, these, fits}
use Rattle.module_arena.specs.Module.{Brackets, Constant, Undef, Poison, ZeroInitializer, ByteString, Constants, no_constants, more_constants}
use Rattle.module_arena.specs.Module.Brackets.{Square, Braces, Packed}
use Rattle.module_arena.specs.Same.{same_type}
use Rattle.module_arena.specs.TypeTests.{opened}
use Rattle.module_arena.proofs.SameValues.{type_is}
use Rattle.run_rules.specs.Constant.{Names, shape_of, constant_value, constant_values}
use Rattle.run_rules.specs.Leaves.{Slot, repeated, slots, slots_at, field_slots}
use Rattle.run_rules.specs.Plan.{Contents}
use Rattle.run_actions.proofs.OnSlots.Slotted.{struct_holds}
use Rattle.typed_runs.proofs.OnLook.Lists.{HaveTypes}
use Rattle.typed_runs.proofs.OnLook.Opened.{opened_shape}
use Rattle.typed_runs.specs.Kinds.{IsOf, kinds_of}
use Rattle.typed_runs.proofs.Leaves.{same_lengths}
use Rattle.run_initial.specs.Initial.Constants.{bytes_at, parts_at, shapes_with, value_at}
use Rattle.run_initial.specs.declared.constants.filled.Fill.{Fill}
use Rattle.run_initial.specs.declared.constants.filled.Fill.TheVariants as fill
use Rattle.run_initial.specs.Constants.Filled.{leaf_in}
use Rattle.run_initial.specs.Constants.Sound.{leaf_tree}
use Rattle.run_initial.specs.Initial.Fresh.{filled, is_packed}

-- the shape of a leaf
abbrev pub leaf_shape : Leaf → Shape
leaf_shape (leaf.Int w) = int_leaf w
leaf_shape leaf.Ptr = ptr_leaf

-- ---- wherever a value lies its leaves are of the same kinds

abbrev kinds_in : List Slot → List Leaf
kinds_in ss = map (λ (s : Slot). s.leaf) ss

kinds_append : (ss us : List Slot) → kinds_in (ss ++ us) ≡ kinds_in ss ++ kinds_in us
kinds_append [] us = refl
kinds_append (s ∷ ss) us = ap (λ (ks : List Leaf). s.leaf ∷ ks) (kinds_append ss us)

two : (a b c d : List Leaf) → a ≡ b → c ≡ d → a ++ c ≡ b ++ d
two a b c d p q = λ i. p i ++ q i

repeated_same : (n : ℕ) (element : ℕ → List Slot) (at bt step : ℕ) → ((at bt : ℕ) → kinds_in (element at) ≡ kinds_in (element bt)) → kinds_in (repeated n element at step) ≡ kinds_in (repeated n element bt step)
unfolding repeated
repeated_same zero element at bt step h = refl
repeated_same (suc n) element at bt step h =
    kinds_append (element at) (repeated n element (at + step) step)
    ∙ two (kinds_in (element at)) (kinds_in (element bt)) (kinds_in (repeated n element (at + step) step)) (kinds_in (repeated n element (bt + step) step)) (h at bt) (repeated_same n element (at + step) (bt + step) step h)
    ∙ sym (kinds_append (element bt) (repeated n element (bt + step) step))

mutual
  same_kinds : (s : Shape) (at bt : ℕ) → kinds_in (slots_at s at) ≡ kinds_in (slots_at s bt)
  same_kinds (int_leaf w) at bt = refl
  same_kinds ptr_leaf at bt = refl
  same_kinds void_leaf at bt = refl
  same_kinds (opaque_leaf label) at bt = refl
  same_kinds (array_of n s) at bt = repeated_same n (slots_at s) at bt (size s) (same_kinds s)
  same_kinds (struct_of label packed ss) at bt = same_field_kinds ss packed at bt 0

  same_field_kinds : (ss : Shapes) (packed : Bool) (at bt end : ℕ) → kinds_in (field_slots ss packed at end) ≡ kinds_in (field_slots ss packed bt end)
  same_field_kinds no_shapes packed at bt end = refl
  same_field_kinds (more_shapes s ss) packed at bt end =
      kinds_append (slots_at s (at + field_start packed end (align s))) (field_slots ss packed at (field_start packed end (align s) + size s))
      ∙ two (kinds_in (slots_at s (at + field_start packed end (align s)))) (kinds_in (slots_at s (bt + field_start packed end (align s)))) (kinds_in (field_slots ss packed at (field_start packed end (align s) + size s))) (kinds_in (field_slots ss packed bt (field_start packed end (align s) + size s)))
      (same_kinds s (at + field_start packed end (align s)) (bt + field_start packed end (align s))) (same_field_kinds ss packed at bt (field_start packed end (align s) + size s))
      ∙ sym (kinds_append (slots_at s (bt + field_start packed end (align s))) (field_slots ss packed bt (field_start packed end (align s) + size s)))

same_length : (s : Shape) (at bt : ℕ) → length (slots_at s at) ≡ length (slots_at s bt)
same_length s at bt = sym (length-map (slots_at s at) (λ (x : Slot). x.leaf)) ∙ ap length (same_kinds s at bt) ∙ length-map (slots_at s bt) (λ (x : Slot). x.leaf)

-- ---- values that are filled alike

abbrev with_kinds : Fill → List Leaf → List Scalar
with_kinds f ks = map (leaf_in f) ks

zipped : (f : Fill) (ss : List Slot) → zip ss (with_kinds f (kinds_in ss)) ≡ filled f ss
zipped f [] = refl
zipped f (s ∷ ss) = ap (λ (l : Contents). (s, leaf_in f s.leaf) ∷ l) (zipped f ss)

kinds_filled : (f : Fill) (ss : List Slot) → map (λ (s : Slot). leaf_in f s.leaf) ss ≡ with_kinds f (kinds_in ss)
kinds_filled f [] = refl
kinds_filled f (s ∷ ss) = ap (λ (l : List Scalar). leaf_in f s.leaf ∷ l) (kinds_filled f ss)

filled_is : (f : Fill) (s : Shape) (at : ℕ) → zip (slots_at s at) (map (λ (x : Slot). leaf_in f x.leaf) (slots s)) ≡ filled f (slots_at s at)
filled_is f s at =
    ap (zip (slots_at s at)) (kinds_filled f (slots s)) ∙ ap (λ (ks : List Leaf). zip (slots_at s at) (with_kinds f ks)) (same_kinds s 0 at) ∙ zipped f (slots_at s at)

-- the shape of a type of one leaf
pub leaf_shaped : (names : Names) (t : Tree) (k : Leaf) → t ≡ leaf_tree k → shape_of names t ≡ leaf_shape k
leaf_shaped names t k is = ap (shape_of names) is ∙ one k
  where
    one : (k : Leaf) → shape_of names (leaf_tree k) ≡ leaf_shape k
    one (leaf.Int w) = refl
    one leaf.Ptr = refl

module _ (names : Names) (t : Tree) (at : ℕ) where
  pub undef_is : filled fill.Zero (slots_at (shape_of names t) at) ≡ value_at names t Undef at
  undef_is = sym (filled_is fill.Zero (shape_of names t) at)

  pub zero_is : filled fill.Zero (slots_at (shape_of names t) at) ≡ value_at names t ZeroInitializer at
  zero_is = sym (filled_is fill.Zero (shape_of names t) at)

  pub poison_is : filled fill.Poison (slots_at (shape_of names t) at) ≡ value_at names t Poison at
  poison_is = sym (filled_is fill.Poison (shape_of names t) at)

  -- the leaf of a constant at a type of one leaf
  pub single_is : (c : Constant) (k : Leaf) (v : Scalar) → shape_of names t ≡ leaf_shape k → v ∷ [] ≡ constant_value names t c → (record { offset = at; leaf = k }, v) ∷ [] ≡ value_at names t c at
  single_is c k v is held = one k ∙ ap (λ (s : Shape). zip (slots_at s at) (v ∷ [])) (sym is) ∙ ap (zip (slots_at (shape_of names t) at)) held
    where
      one : (k : Leaf) → (record { offset = at; leaf = k }, v) ∷ [] ≡ zip (slots_at (leaf_shape k) at) (v ∷ [])
      one (leaf.Int w) = refl
      one leaf.Ptr = refl

-- ---- bytes

bytes_zipped : (bytes : List ℕ) (at : ℕ) → zip (repeated (length bytes) (slots_at (int_leaf 8)) at 1) (map scalar.Int bytes) ≡ bytes_at at bytes
unfolding repeated
bytes_zipped [] at = refl
bytes_zipped (b ∷ bytes) at = ap (λ (l : Contents). (record { offset = at; leaf = leaf.Int 8 }, scalar.Int b) ∷ l) (bytes_zipped bytes (at + 1))

pub bytes_size : (names : Names) (t : Tree) (count : ℕ) → t ≡ array count (int 8) → size (shape_of names t) ≡ count
bytes_size names t count is = ap (λ (u : Tree). size (shape_of names u)) is ∙ (let one : count * 1 ≡ count = omega arith in one)

pub bytes_is : (names : Names) (t : Tree) (bytes : List ℕ) (at : ℕ) → t ≡ array (length bytes) (int 8) → bytes_at at bytes ≡ value_at names t (ByteString bytes) at
bytes_is names t bytes at is = sym (bytes_zipped bytes at) ∙ ap (λ (u : Tree). value_at names u (ByteString bytes) at) (sym is)

-- ---- parts one behind the other

zip_both : (ss us : List Slot) (vs ws : List Scalar) → length vs ≡ length ss → zip (ss ++ us) (vs ++ ws) ≡ zip ss vs ++ zip us ws
zip_both [] us [] ws e = refl
zip_both [] us (v ∷ vs) ws e = absurd (omega (arith, e))
zip_both (s ∷ ss) us [] ws e = absurd (omega (arith, e))
zip_both (s ∷ ss) us (v ∷ vs) ws e = ap (λ (l : Contents). (s, v) ∷ l) (zip_both ss us vs ws (omega (arith, e)))

module _ (names : Names) (count : ℕ) where
  value_length : (t : Tree) (c : Constant) (at : ℕ) → AllZip (IsOf count) (kinds_of (shape_of names t)) (constant_value names t c) → length (constant_value names t c) ≡ length (slots_at (shape_of names t) at)
  value_length t c at h =
      same_lengths count (kinds_of (shape_of names t)) (constant_value names t c) h
      ∙ length-map (slots (shape_of names t)) (λ (x : Slot). x.leaf)
      ∙ same_length (shape_of names t) 0 at

  -- are the leaves of all at the slots of all
  pub parts_are : (packed : Bool) (at end : ℕ) (cs : Constants) → HaveTypes names count cs → parts_at names packed at end cs ≡ zip (field_slots (shapes_with names cs) packed at end) (constant_values names cs)
  parts_are packed at end no_constants h = refl
  parts_are packed at end (more_constants t c cs) h =
      let s = shape_of names t in
      let start = field_start packed end (align s) in
      ap (λ (l : Contents). value_at names t c (at + start) ++ l) (parts_are packed at (start + size s) cs h.1)
      ∙ sym (zip_both (slots_at s (at + start)) (field_slots (shapes_with names cs) packed at (start + size s)) (constant_value names t c) (constant_values names cs) (value_length t c (at + start) h.0))

-- ---- the parts of a list in brackets

-- so many of one shape
abbrev row : ℕ → Shape → Shapes
row zero s = no_shapes
row (suc n) s = more_shapes s (row n s)

row_slots : (n : ℕ) (s : Shape) (at end : ℕ) → field_slots (row n s) true at end ≡ repeated n (slots_at s) (at + end) (size s)
unfolding repeated
row_slots zero s at end = refl
row_slots (suc n) s at end =
    let further : at + (end + size s) ≡ at + end + size s = omega arith in
    ap (λ (l : List Slot). slots_at s (at + end) ++ l) (row_slots n s at (end + size s) ∙ ap (λ (k : ℕ). repeated n (slots_at s) k (size s)) further)

row_end : (n : ℕ) (s : Shape) (end : ℕ) → end_after true end (row n s) ≡ end + n * size s
row_end zero s end = omega arith
row_end (suc n) s end = row_end n s (end + size s) ∙ (let whole : end + size s + n * size s ≡ end + suc n * size s = omega arith in whole)

row_laid : (n : ℕ) (s : Shape) → has_layout s ≡ true → have_layouts (row n s) ≡ true
row_laid zero s h = refl
row_laid (suc n) s h = ap (λ (b : Bool). b && have_layouts (row n s)) h ∙ row_laid n s h

-- where the parts of a value lie
pub record IsMadeOf (s : Shape) (parts : Shapes) : Type 0 where
  pub slots : (at : ℕ) → field_slots parts (is_packed s) at 0 ≡ slots_at s at
  pub ends : end_after (is_packed s) 0 parts ≤ size s
  pub laid : has_layout s ≡ true → have_layouts parts ≡ true

row_made : (n : ℕ) (s : Shape) → IsMadeOf (array_of n s) (row n s)
row_made n s = record {
  slots = λ at. row_slots n s at 0 ∙ (let same : at + 0 ≡ at = omega arith in ap (λ (k : ℕ). repeated n (slots_at s) k (size s)) same);
  ends = let e = row_end n s 0 in omega (arith, e);
  laid = row_laid n s;
}

fields_made : (packed : Bool) (ss : Shapes) → IsMadeOf (struct_of None packed ss) ss
fields_made packed ss = record { slots = λ at. refl; ends = struct_holds None packed ss; laid = λ h. h }

module _ (names : Names) where
  each_shapes : (n : ℕ) (u : Tree) (cs : Constants) → parts_fit names.structs (each n u) cs ≡ true → shapes_with names cs ≡ row n (shape_of names u)
  each_shapes zero u no_constants h = refl
  each_shapes (suc n) u no_constants h = absurd (suc-ne-zero n (eqb-true (suc n) 0 h))
  each_shapes zero u (more_constants v c cs) h = absurd (true≢false (sym h))
  each_shapes (suc n) u (more_constants v c cs) h =
      let some = and_parts (nat_lt 0 (suc n)) (same_type u v && (fits names.structs v c && parts_fit names.structs (each (suc n - 1) u) cs)) h in
      let p = and_parts (same_type u v) (fits names.structs v c && parts_fit names.structs (each (suc n - 1) u) cs) some.1 in
      let q = and_parts (fits names.structs v c) (parts_fit names.structs (each (suc n - 1) u) cs) p.1 in
      let less : suc n - 1 ≡ n = omega arith in
      let rest = each_shapes n u cs (subst (λ m. parts_fit names.structs (each m u) cs ≡ true) less q.1) in
      let same = type_is u v p.0 in
      (λ j. more_shapes (shape_of names (sym same j)) (rest j))

  these_shapes : (ts : Trees) (xs : Shapes) (cs : Constants) → all_expanded (name_shape (λ _. None) (body_of names.structs) 64) ts ≡ Some xs → parts_fit names.structs (these ts) cs ≡ true → shapes_with names cs ≡ xs
  these_shapes no_trees xs no_constants e h = let y : Some no_shapes ≡ Some xs = e in ap (λ (o : Option Shapes). unwrap_or o no_shapes) y
  these_shapes no_trees xs (more_constants v c cs) e h = absurd (true≢false (sym h))
  these_shapes (more_trees t ts) xs no_constants e h = absurd (true≢false (sym h))
  these_shapes (more_trees t ts) xs (more_constants v c cs) e h =
      let p = and_parts (same_type t v) (fits names.structs v c && parts_fit names.structs (these ts) cs) h in
      let q = and_parts (fits names.structs v c) (parts_fit names.structs (these ts) cs) p.1 in
      let inside = unjoined (expanded (name_shape (λ _. None) (body_of names.structs) 64) t) (all_expanded (name_shape (λ _. None) (body_of names.structs) 64) ts) xs e in
      let first : shape_of names t ≡ inside.0 = ap (λ (o : Option Shape). unwrap_or o void_leaf) inside.2 in
      let here : shape_of names v ≡ inside.0 = ap (shape_of names) (sym (type_is t v p.0)) ∙ first in
      let rest = these_shapes ts inside.1 cs inside.3 q.1 in
      (λ j. more_shapes (here j) (rest j)) ∙ inside.4

  at_type : (b : Brackets) (o : Tree) (s : Shape) (cs : Constants) → shape names.structs o ≡ Some s → parts_fit names.structs (expected b o) cs ≡ true → IsMadeOf s (shapes_with names cs)
  at_type Square (array n u) s cs e h =
      let inside = unmapped (array_of n) (expanded (name_shape (λ _. None) (body_of names.structs) 64) u) s e in
      let same : shape_of names u ≡ inside.0 = ap (λ (o : Option Shape). unwrap_or o void_leaf) inside.1 in
      subst (λ x. IsMadeOf x (shapes_with names cs)) (ap (array_of n) same ∙ inside.2) (subst (IsMadeOf (array_of n (shape_of names u))) (sym (each_shapes n u cs h)) (row_made n (shape_of names u)))
  at_type Braces (struct false ts) s cs e h =
      let inside = unmapped (struct_of None false) (all_expanded (name_shape (λ _. None) (body_of names.structs) 64) ts) s e in
      subst (λ x. IsMadeOf x (shapes_with names cs)) inside.2 (subst (IsMadeOf (struct_of None false inside.0)) (sym (these_shapes ts inside.0 cs inside.1 h)) (fields_made false inside.0))
  at_type Packed (struct true ts) s cs e h =
      let inside = unmapped (struct_of None true) (all_expanded (name_shape (λ _. None) (body_of names.structs) 64) ts) s e in
      subst (λ x. IsMadeOf x (shapes_with names cs)) inside.2 (subst (IsMadeOf (struct_of None true inside.0)) (sym (these_shapes ts inside.0 cs inside.1 h)) (fields_made true inside.0))
  at_type _ _ s no_constants e h = absurd (true≢false (sym h))
  at_type _ _ s (more_constants v c cs) e h = absurd (true≢false (sym h))

  -- a list has its parts where those of its type lie
  pub list_made : (t : Tree) (b : Brackets) (cs : Constants) → is_some (shape names.structs t) ≡ true → parts_fit names.structs (expected b (opened names.structs t)) cs ≡ true → IsMadeOf (shape_of names t) (shapes_with names cs)
  list_made t b cs has h = go (shape names.structs t) refl has
    where
      go : (o : Option Shape) → shape names.structs t ≡ o → is_some o ≡ true → IsMadeOf (unwrap_or o void_leaf) (shapes_with names cs)
      go None e q = absurd (true≢false (sym q))
      go (Some s) e q = at_type b (opened names.structs t) s cs (opened_shape names.structs t s e) h
