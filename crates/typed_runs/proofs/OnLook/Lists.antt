-- Lists in brackets have leaves of their types, where the constants in them have.
use Rattle.std.proofs.Common.{◌≡◌, ℕ, zero, suc, ◌+◌, ◌-◌, List, [], ◌∷◌, ◌++◌, map, refl, sym, ap, ◌∙◌, subst, arith, Bool, true, false, ◌&&◌, nat_lt, Option, Some, None, true≢false, unwrap_or, is_some, eqb-true, suc-ne-zero}
use Rattle.std.specs.List.{AllZip}
use Rattle.std.proofs.lemmas.Bool.{and_parts}
use Rattle.ir_eval.specs.declared.value.Scalar.{Scalar}
use Rattle.ir_memory.specs.declared.leaf.Leaf.{Leaf}
use Rattle.type_table.specs.Layout.{size, align, field_start}
use Rattle.type_table.specs.Shape.{Shape, int_leaf, ptr_leaf, void_leaf, opaque_leaf, array_of, struct_of, Shapes, no_shapes, more_shapes, expanded, all_expanded, name_shape, shape}
use Rattle.type_table.specs.Tree.{Tree, array, struct, Trees, no_trees, more_trees, body_of}
use Rattle.type_table.proofs.Rooms.{unjoined, unmapped}
use Rattle.module_arena.specs.Module.Brackets.{Square, Braces, Packed}
use Rattle.module_arena.specs.TypeTests.{opened}
use Rattle.typed_runs.proofs.OnLook.Opened.{opened_shape}
use Rattle.module_arena.specs.Constants.{expected, parts_fit, each, these, fits}
use Rattle.module_arena.specs.Module.{Brackets, Constants, no_constants, more_constants}
use Rattle.module_arena.specs.Same.{same_type}
use Rattle.module_arena.proofs.SameValues.{type_is}
use Rattle.run_rules.specs.Constant.{Names, shape_of, constant_value, constant_values}
use Rattle.run_rules.specs.Leaves.{Slot, repeated, slots_at, field_slots}
use Rattle.typed_runs.specs.Kinds.{IsOf, kinds_of}
use Rattle.typed_runs.proofs.Leaves.{zip_append}

-- the kinds of slots
abbrev kinds_in : List Slot → List Leaf
kinds_in ss = map (λ (s : Slot). s.leaf) ss

kinds_append : (ss us : List Slot) → kinds_in (ss ++ us) ≡ kinds_in ss ++ kinds_in us
kinds_append [] us = refl
kinds_append (s ∷ ss) us = ap (λ (ks : List Leaf). s.leaf ∷ ks) (kinds_append ss us)

two : (a b c d : List Leaf) → a ≡ b → c ≡ d → a ++ c ≡ b ++ d
two a b c d p q = λ i. p i ++ q i

repeated_same : (n : ℕ) (element : ℕ → List Slot) (at bt step : ℕ) → ((at bt : ℕ) → kinds_in (element at) ≡ kinds_in (element bt)) → kinds_in (repeated n element at step) ≡ kinds_in (repeated n element bt step)
unfolding repeated
repeated_same zero element at bt step h = refl
repeated_same (suc n) element at bt step h =
    kinds_append (element at) (repeated n element (at + step) step)
    ∙ two (kinds_in (element at)) (kinds_in (element bt)) (kinds_in (repeated n element (at + step) step)) (kinds_in (repeated n element (bt + step) step)) (h at bt) (repeated_same n element (at + step) (bt + step) step h)
    ∙ sym (kinds_append (element bt) (repeated n element (bt + step) step))

-- wherever a value lies its leaves are of the same kinds
mutual
  same_kinds : (s : Shape) (at bt : ℕ) → kinds_in (slots_at s at) ≡ kinds_in (slots_at s bt)
  same_kinds (int_leaf w) at bt = refl
  same_kinds ptr_leaf at bt = refl
  same_kinds void_leaf at bt = refl
  same_kinds (opaque_leaf label) at bt = refl
  same_kinds (array_of n s) at bt = repeated_same n (slots_at s) at bt (size s) (same_kinds s)
  same_kinds (struct_of label packed ss) at bt = same_field_kinds ss packed at bt 0

  same_field_kinds : (ss : Shapes) (packed : Bool) (at bt end : ℕ) → kinds_in (field_slots ss packed at end) ≡ kinds_in (field_slots ss packed bt end)
  same_field_kinds no_shapes packed at bt end = refl
  same_field_kinds (more_shapes s ss) packed at bt end =
      kinds_append (slots_at s (at + field_start packed end (align s))) (field_slots ss packed at (field_start packed end (align s) + size s))
      ∙ two (kinds_in (slots_at s (at + field_start packed end (align s)))) (kinds_in (slots_at s (bt + field_start packed end (align s)))) (kinds_in (field_slots ss packed at (field_start packed end (align s) + size s))) (kinds_in (field_slots ss packed bt (field_start packed end (align s) + size s)))
      (same_kinds s (at + field_start packed end (align s)) (bt + field_start packed end (align s))) (same_field_kinds ss packed at bt (field_start packed end (align s) + size s))
      ∙ sym (kinds_append (slots_at s (bt + field_start packed end (align s))) (field_slots ss packed bt (field_start packed end (align s) + size s)))

module _ (names : Names) (count : ℕ) where
  -- each constant of a list has leaves of the type that is written before it
  abbrev pub HaveTypes : Constants → Type 0
  HaveTypes no_constants = AllZip (IsOf count) [] []
  HaveTypes (more_constants t c cs) = AllZip (IsOf count) (kinds_of (shape_of names t)) (constant_value names t c) × HaveTypes cs

  one_more_part : (s : Shape) (at : ℕ) (ks : List Slot) (vs ws : List Scalar) → AllZip (IsOf count) (kinds_of s) vs → AllZip (IsOf count) (kinds_in ks) ws → AllZip (IsOf count) (kinds_in (slots_at s at ++ ks)) (vs ++ ws)
  one_more_part s at ks vs ws h k =
      subst (λ js. AllZip (IsOf count) js (vs ++ ws)) (sym (kinds_append (slots_at s at) ks))
      (zip_append count (kinds_in (slots_at s at)) (kinds_in ks) vs ws (subst (λ js. AllZip (IsOf count) js vs) (same_kinds s 0 at) h) k)

  -- the elements of an array
  pub each_typed : (n : ℕ) (u : Tree) (cs : Constants) (at step : ℕ) → parts_fit names.structs (each n u) cs ≡ true → HaveTypes cs → AllZip (IsOf count) (kinds_in (repeated n (slots_at (shape_of names u)) at step)) (constant_values names cs)
  unfolding repeated
  each_typed zero u no_constants at step h k = tt
  each_typed (suc n) u no_constants at step h k = absurd (suc-ne-zero n (eqb-true (suc n) 0 h))
  each_typed zero u (more_constants v c cs) at step h k = absurd (true≢false (sym h))
  each_typed (suc n) u (more_constants v c cs) at step h k =
      let some = and_parts (nat_lt 0 (suc n)) (same_type u v && (fits names.structs v c && parts_fit names.structs (each (suc n - 1) u) cs)) h in
      let p = and_parts (same_type u v) (fits names.structs v c && parts_fit names.structs (each (suc n - 1) u) cs) some.1 in
      let q = and_parts (fits names.structs v c) (parts_fit names.structs (each (suc n - 1) u) cs) p.1 in
      let less : suc n - 1 ≡ n = omega arith in
      one_more_part (shape_of names u) at (repeated n (slots_at (shape_of names u)) (at + step) step) (constant_value names v c) (constant_values names cs)
      (subst (λ t. AllZip (IsOf count) (kinds_of (shape_of names t)) (constant_value names v c)) (sym (type_is u v p.0)) k.0)
      (each_typed n u cs (at + step) step (subst (λ m. parts_fit names.structs (each m u) cs ≡ true) less q.1) k.1)

  -- the fields of a struct
  pub these_typed : (ts : Trees) (xs : Shapes) (cs : Constants) (packed : Bool) (at end : ℕ) → all_expanded (name_shape (λ _. None) (body_of names.structs) 64) ts ≡ Some xs → parts_fit names.structs (these ts) cs ≡ true → HaveTypes cs
      → AllZip (IsOf count) (kinds_in (field_slots xs packed at end)) (constant_values names cs)
  these_typed no_trees no_shapes no_constants packed at end e h k = tt
  these_typed no_trees (more_shapes x xs) no_constants packed at end e h k = cc
  these_typed no_trees xs (more_constants v c cs) packed at end e h k = absurd (true≢false (sym h))
  these_typed (more_trees t ts) xs no_constants packed at end e h k = absurd (true≢false (sym h))
  these_typed (more_trees t ts) no_shapes (more_constants v c cs) packed at end e h k =
      let inside = unjoined (expanded (name_shape (λ _. None) (body_of names.structs) 64) t) (all_expanded (name_shape (λ _. None) (body_of names.structs) 64) ts) no_shapes e in
      let bad = inside.4 in cc
  these_typed (more_trees t ts) (more_shapes x xs) (more_constants v c cs) packed at end e h k =
      let p = and_parts (same_type t v) (fits names.structs v c && parts_fit names.structs (these ts) cs) h in
      let q = and_parts (fits names.structs v c) (parts_fit names.structs (these ts) cs) p.1 in
      let inside = unjoined (expanded (name_shape (λ _. None) (body_of names.structs) 64) t) (all_expanded (name_shape (λ _. None) (body_of names.structs) 64) ts) (more_shapes x xs) e in
      let first : inside.0 ≡ x = ap first_of inside.4 in
      let others : inside.1 ≡ xs = ap rest_of inside.4 in
      let shaped : shape_of names t ≡ x = ap (λ (o : Option Shape). unwrap_or o void_leaf) inside.2 ∙ first in
      one_more_part x (at + field_start packed end (align x)) (field_slots xs packed at (field_start packed end (align x) + size x)) (constant_value names v c) (constant_values names cs)
      (subst (λ s. AllZip (IsOf count) (kinds_of s) (constant_value names v c)) shaped (subst (λ t. AllZip (IsOf count) (kinds_of (shape_of names t)) (constant_value names v c)) (sym (type_is t v p.0)) k.0))
      (these_typed ts xs cs packed at (field_start packed end (align x) + size x) (inside.3 ∙ ap (λ (ss : Shapes). Some ss) others) q.1 k.1)
    where
      first_of : Shapes → Shape
      first_of no_shapes = void_leaf
      first_of (more_shapes s ss) = s

      rest_of : Shapes → Shapes
      rest_of no_shapes = no_shapes
      rest_of (more_shapes s ss) = ss

  -- a list at a type
  at_type : (b : Brackets) (o : Tree) (s : Shape) (cs : Constants) → shape names.structs o ≡ Some s → parts_fit names.structs (expected b o) cs ≡ true → HaveTypes cs → AllZip (IsOf count) (kinds_of s) (constant_values names cs)
  at_type Square (array n u) s cs e h k =
      let inside = unmapped (array_of n) (expanded (name_shape (λ _. None) (body_of names.structs) 64) u) s e in
      let same : shape_of names u ≡ inside.0 = ap (λ (o : Option Shape). unwrap_or o void_leaf) inside.1 in
      subst (λ x. AllZip (IsOf count) (kinds_of x) (constant_values names cs)) (ap (array_of n) same ∙ inside.2) (each_typed n u cs 0 (size (shape_of names u)) h k)
  at_type Braces (struct false ts) s cs e h k =
      let inside = unmapped (struct_of None false) (all_expanded (name_shape (λ _. None) (body_of names.structs) 64) ts) s e in
      subst (λ x. AllZip (IsOf count) (kinds_of x) (constant_values names cs)) inside.2 (these_typed ts inside.0 cs false 0 0 inside.1 h k)
  at_type Packed (struct true ts) s cs e h k =
      let inside = unmapped (struct_of None true) (all_expanded (name_shape (λ _. None) (body_of names.structs) 64) ts) s e in
      subst (λ x. AllZip (IsOf count) (kinds_of x) (constant_values names cs)) inside.2 (these_typed ts inside.0 cs true 0 0 inside.1 h k)
  at_type _ _ s no_constants e h k = absurd (true≢false (sym h))
  at_type _ _ s (more_constants v c cs) e h k = absurd (true≢false (sym h))

  pub list_typed : (t : Tree) (b : Brackets) (cs : Constants) → is_some (shape names.structs t) ≡ true → parts_fit names.structs (expected b (opened names.structs t)) cs ≡ true → HaveTypes cs → AllZip (IsOf count) (kinds_of (shape_of names t)) (constant_values names cs)
  list_typed t b cs has h k = go (shape names.structs t) refl has
    where
      go : (o : Option Shape) → shape names.structs t ≡ o → is_some o ≡ true → AllZip (IsOf count) (kinds_of (unwrap_or o void_leaf)) (constant_values names cs)
      go None e q = absurd (true≢false (sym q))
      go (Some s) e q = at_type b (opened names.structs t) s cs (opened_shape names.structs t s e) h k
