-- The leaves of a part stand one after another among those of the whole.
use Rattle.std.proofs.Common.{◌≡◌, ℕ, zero, suc, ◌+◌, ◌*◌, ◌<◌, List, [], ◌∷◌, ◌++◌, length, map, refl, sym, ap, ◌∙◌, subst, arith, Bool, true, false, Option, Some, None, is_some, unwrap_or, append_assoc, true≢false, ltb-true, nat_lt}
use Rattle.std.specs.Prelude.{⊤, option_and_then, if◌then◌else◌}
use Rattle.std.proofs.lemmas.List.{length-append}
use Rattle.std.proofs.lemmas.Option.{same_Some}
use Rattle.run_rules.proofs.OnPlaces.Options.{none_some}
use Rattle.ir_memory.specs.declared.leaf.Leaf.{Leaf}
use Rattle.type_table.specs.Layout.{size, align, field_start, leaves}
use Rattle.type_table.specs.Shape.{Shape, int_leaf, ptr_leaf, void_leaf, opaque_leaf, array_of, struct_of, Shapes, no_shapes, more_shapes, expanded, all_expanded, name_shape, shape}
use Rattle.type_table.specs.Tree.{Tree, int, ptr, void, array, struct, named, Trees, no_trees, more_trees, Structs, body_of}
use Rattle.type_table.proofs.Rooms.{unmapped, unjoined}
use Rattle.module_arena.specs.TypeTests.{opened, field_type, part_type, part_at}
use Rattle.run_rules.specs.Leaves.{Slot, repeated, slots_at, field_slots, element, field, part, leaves_before, leaves_before_field, leaves_before_part}
use Rattle.typed_runs.specs.Kinds.{kinds_of}
use Rattle.typed_runs.proofs.OnLook.Opened.{opened_shape}
use Rattle.typed_runs.proofs.OnLook.Widths.{kinds_length}

-- the kinds of slots
abbrev kinds_in : List Slot → List Leaf
kinds_in ss = map (λ (s : Slot). s.leaf) ss

kinds_append : (ss us : List Slot) → kinds_in (ss ++ us) ≡ kinds_in ss ++ kinds_in us
kinds_append [] us = refl
kinds_append (s ∷ ss) us = ap (λ (ks : List Leaf). s.leaf ∷ ks) (kinds_append ss us)

two : (a b c d : List Leaf) → a ≡ b → c ≡ d → a ++ c ≡ b ++ d
two a b c d p q = λ i. p i ++ q i

repeated_same : (n : ℕ) (element : ℕ → List Slot) (at bt step : ℕ) → ((at bt : ℕ) → kinds_in (element at) ≡ kinds_in (element bt)) → kinds_in (repeated n element at step) ≡ kinds_in (repeated n element bt step)
unfolding repeated
repeated_same zero element at bt step h = refl
repeated_same (suc n) element at bt step h =
    kinds_append (element at) (repeated n element (at + step) step)
    ∙ two (kinds_in (element at)) (kinds_in (element bt)) (kinds_in (repeated n element (at + step) step)) (kinds_in (repeated n element (bt + step) step)) (h at bt) (repeated_same n element (at + step) (bt + step) step h)
    ∙ sym (kinds_append (element bt) (repeated n element (bt + step) step))

-- wherever a value lies its leaves are of the same kinds
mutual
  pub same_kinds : (s : Shape) (at bt : ℕ) → kinds_in (slots_at s at) ≡ kinds_in (slots_at s bt)
  same_kinds (int_leaf w) at bt = refl
  same_kinds ptr_leaf at bt = refl
  same_kinds void_leaf at bt = refl
  same_kinds (opaque_leaf label) at bt = refl
  same_kinds (array_of n s) at bt = repeated_same n (slots_at s) at bt (size s) (same_kinds s)
  same_kinds (struct_of label packed ss) at bt = same_field_kinds ss packed at bt 0

  same_field_kinds : (ss : Shapes) (packed : Bool) (at bt end : ℕ) → kinds_in (field_slots ss packed at end) ≡ kinds_in (field_slots ss packed bt end)
  same_field_kinds no_shapes packed at bt end = refl
  same_field_kinds (more_shapes s ss) packed at bt end =
      let first = at + field_start packed end (align s) in
      let second = bt + field_start packed end (align s) in
      let after = field_start packed end (align s) + size s in
      kinds_append (slots_at s first) (field_slots ss packed at after)
      ∙ two (kinds_in (slots_at s first)) (kinds_in (slots_at s second)) (kinds_in (field_slots ss packed at after)) (kinds_in (field_slots ss packed bt after)) (same_kinds s first second) (same_field_kinds ss packed at bt after)
      ∙ sym (kinds_append (slots_at s second) (field_slots ss packed bt after))

-- some leaves stand among others, behind so many
pub record StandsIn (whole inner : List Leaf) (behind : ℕ) : Type 0 where
  pub front : List Leaf
  pub back : List Leaf
  pub made : whole ≡ front ++ (inner ++ back)
  pub long : length front ≡ behind

-- behind one more
further : (first whole inner : List Leaf) (n m k : ℕ) → length first ≡ n → n + m ≡ k → StandsIn whole inner m → StandsIn (first ++ whole) inner k
further first whole inner n m k e more h = record {
  front = first ++ h.front;
  back = h.back;
  made = ap (λ (ks : List Leaf). first ++ ks) h.made ∙ sym (append_assoc first h.front (inner ++ h.back));
  long = length-append first h.front ∙ (let one = e in let rest = h.long in omega (arith, one, rest, more));
}

-- the first of some
foremost : (first others inner : List Leaf) → first ≡ inner → StandsIn (first ++ others) inner 0
foremost first others inner e = record { front = []; back = others; made = ap (λ (ks : List Leaf). ks ++ others) e; long = refl }

-- within what stands within
deeper : (whole middle inner : List Leaf) (n m k : ℕ) → n + m ≡ k → StandsIn whole middle n → StandsIn middle inner m → StandsIn whole inner k
deeper whole middle inner n m k sum h g = record {
  front = h.front ++ g.front;
  back = g.back ++ h.back;
  made = h.made
      ∙ ap (λ (ks : List Leaf). h.front ++ ks) (ap (λ (ks : List Leaf). ks ++ h.back) g.made ∙ append_assoc g.front (inner ++ g.back) h.back ∙ ap (λ (ks : List Leaf). g.front ++ ks) (append_assoc inner g.back h.back))
      ∙ sym (append_assoc h.front g.front (inner ++ (g.back ++ h.back)));
  long = length-append h.front g.front ∙ (let one = h.long in let rest = g.long in omega (arith, one, rest, sum));
}

-- ---- elements and fields

-- a struct has that field
abbrev HasField : Shapes → ℕ → Type 0
HasField no_shapes k = ⊥
HasField (more_shapes s ss) zero = ⊤
HasField (more_shapes s ss) (suc k) = HasField ss k

-- an array has that element, or a struct that field
abbrev HasElement : Shape → ℕ → Type 0
HasElement (int_leaf w) k = ⊥
HasElement ptr_leaf k = ⊥
HasElement void_leaf k = ⊥
HasElement (opaque_leaf label) k = ⊥
HasElement (array_of n s) k = k < n
HasElement (struct_of label packed ss) k = HasField ss k

element_stands : (n : ℕ) (s : Shape) (at step k : ℕ) → k < n → StandsIn (kinds_in (repeated n (slots_at s) at step)) (kinds_of s) (k * leaves s)
unfolding repeated
element_stands zero s at step k lt = absurd (omega (arith, lt))
element_stands (suc n) s at step zero lt =
    let none : 0 ≡ zero * leaves s = omega arith in
    subst (λ ks. StandsIn ks (kinds_of s) (zero * leaves s)) (sym (kinds_append (slots_at s at) (repeated n (slots_at s) (at + step) step)))
    (subst (StandsIn (kinds_in (slots_at s at) ++ kinds_in (repeated n (slots_at s) (at + step) step)) (kinds_of s)) none (foremost (kinds_in (slots_at s at)) (kinds_in (repeated n (slots_at s) (at + step) step)) (kinds_of s) (same_kinds s at 0)))
element_stands (suc n) s at step (suc k) lt =
    let sum : leaves s + k * leaves s ≡ suc k * leaves s = omega arith in
    subst (λ ks. StandsIn ks (kinds_of s) (suc k * leaves s)) (sym (kinds_append (slots_at s at) (repeated n (slots_at s) (at + step) step)))
    (further (kinds_in (slots_at s at)) (kinds_in (repeated n (slots_at s) (at + step) step)) (kinds_of s) (leaves s) (k * leaves s) (suc k * leaves s) (ap length (same_kinds s at 0) ∙ kinds_length s) sum
    (element_stands n s (at + step) step k (omega (arith, lt))))

field_stands : (ss : Shapes) (packed : Bool) (at end k : ℕ) → HasField ss k → StandsIn (kinds_in (field_slots ss packed at end)) (kinds_of (field ss k)) (leaves_before_field ss k)
field_stands no_shapes packed at end k h = absurd h
field_stands (more_shapes s ss) packed at end zero h =
    let first = slots_at s (at + field_start packed end (align s)) in
    let others = field_slots ss packed at (field_start packed end (align s) + size s) in
    subst (λ ks. StandsIn ks (kinds_of s) 0) (sym (kinds_append first others)) (foremost (kinds_in first) (kinds_in others) (kinds_of s) (same_kinds s (at + field_start packed end (align s)) 0))
field_stands (more_shapes s ss) packed at end (suc k) h =
    let first = slots_at s (at + field_start packed end (align s)) in
    let others = field_slots ss packed at (field_start packed end (align s) + size s) in
    subst (λ ks. StandsIn ks (kinds_of (field ss k)) (leaves s + leaves_before_field ss k)) (sym (kinds_append first others))
    (further (kinds_in first) (kinds_in others) (kinds_of (field ss k)) (leaves s) (leaves_before_field ss k) (leaves s + leaves_before_field ss k) (ap length (same_kinds s (at + field_start packed end (align s)) 0) ∙ kinds_length s) refl
    (field_stands ss packed at (field_start packed end (align s) + size s) k h))

one_stands : (s : Shape) (k : ℕ) → HasElement s k → StandsIn (kinds_of s) (kinds_of (element s k)) (leaves_before s k)
one_stands (int_leaf w) k h = absurd h
one_stands ptr_leaf k h = absurd h
one_stands void_leaf k h = absurd h
one_stands (opaque_leaf label) k h = absurd h
one_stands (array_of n s) k h = element_stands n s 0 (size s) k h
one_stands (struct_of label packed ss) k h = field_stands ss packed 0 0 k h

-- ---- parts of a type

module _ (structs : Structs) where
  abbrev rooms : List ℕ → Option Shape
  rooms = name_shape (λ _. None) (body_of structs) 64

  -- an element or field of a type is one of its shape, and has its shape there
  record IsElement (s : Shape) (k : ℕ) (u : Tree) : Type 0 where
    has : HasElement s k
    shaped : shape structs u ≡ Some (element s k)

  field_is : (ts : Trees) (xs : Shapes) (k : ℕ) (u : Tree) → all_expanded rooms ts ≡ Some xs → field_type ts k ≡ Some u → HasField xs k × (shape structs u ≡ Some (field xs k))
  field_is no_trees xs k u e h = none_some u h
  field_is (more_trees t ts) no_shapes k u e h =
      let inside = unjoined (expanded rooms t) (all_expanded rooms ts) no_shapes e in let bad = inside.4 in cc
  field_is (more_trees t ts) (more_shapes x xs) zero u e h =
      let inside = unjoined (expanded rooms t) (all_expanded rooms ts) (more_shapes x xs) e in
      let whole = inside.4 in
      let first : inside.0 ≡ x = cc in
      (tt, ap (shape structs) (sym (same_Some t u h)) ∙ inside.2 ∙ ap (λ (s : Shape). Some s) first)
  field_is (more_trees t ts) (more_shapes x xs) (suc k) u e h =
      let inside = unjoined (expanded rooms t) (all_expanded rooms ts) (more_shapes x xs) e in
      let whole = inside.4 in
      let others : inside.1 ≡ xs = cc in
      field_is ts xs k u (inside.3 ∙ ap (λ (s : Shapes). Some s) others) h

  element_is : (o : Tree) (s : Shape) (k : ℕ) (u : Tree) → shape structs o ≡ Some s → part_type o k ≡ Some u → IsElement s k u
  element_is (int w) s k u e h = none_some u h
  element_is ptr s k u e h = none_some u h
  element_is void s k u e h = none_some u h
  element_is (named name) s k u e h = none_some u h
  element_is (array n t) s k u e h = go (nat_lt k n) refl h
    where
      go : (b : Bool) → nat_lt k n ≡ b → (if b then Some t else None) ≡ Some u → IsElement s k u
      go false i q = none_some u q
      go true i q =
          let inside = unmapped (array_of n) (expanded rooms t) s e in
          subst (λ x. IsElement x k u) inside.2 (record { has = ltb-true k n i; shaped = ap (shape structs) (sym (same_Some t u q)) ∙ inside.1 })
  element_is (struct packed ts) s k u e h =
      let inside = unmapped (struct_of None packed) (all_expanded rooms ts) s e in
      let r = field_is ts inside.0 k u inside.1 h in
      subst (λ x. IsElement x k u) inside.2 (record { has = r.0; shaped = r.1 })

  -- the leaves of a part
  part_stands : (indices : List ℕ) (t u : Tree) (s : Shape) → shape structs t ≡ Some s → part_at structs t indices ≡ Some u → StandsIn (kinds_of s) (kinds_of (part s indices)) (leaves_before_part s indices)
  part_stands [] t u s e h = record { front = []; back = []; made = sym (append_nil (kinds_of s)); long = refl }
    where
      append_nil : (ks : List Leaf) → ks ++ [] ≡ ks
      append_nil [] = refl
      append_nil (k ∷ ks) = ap (λ (l : List Leaf). k ∷ l) (append_nil ks)
  part_stands (k ∷ ks) t u s e h = go (part_type (opened structs t) k) refl h (λ v x q p. part_stands ks v u x q p)
    where
      go : (o : Option Tree) → part_type (opened structs t) k ≡ o → option_and_then (λ part. part_at structs part ks) o ≡ Some u
          → ((v : Tree) (x : Shape) → shape structs v ≡ Some x → part_at structs v ks ≡ Some u → StandsIn (kinds_of x) (kinds_of (part x ks)) (leaves_before_part x ks))
          → StandsIn (kinds_of s) (kinds_of (part (element s k) ks)) (leaves_before s k + leaves_before_part (element s k) ks)
      go None q p more = none_some u p
      go (Some v) q p more =
          let r = element_is (opened structs t) s k v (opened_shape structs t s e) q in
          deeper (kinds_of s) (kinds_of (element s k)) (kinds_of (part (element s k) ks)) (leaves_before s k) (leaves_before_part (element s k) ks) (leaves_before s k + leaves_before_part (element s k) ks) refl
          (one_stands s k r.has) (more v (element s k) r.shaped p)

  pub kinds_within : (indices : List ℕ) (t u : Tree) → is_some (shape structs t) ≡ true → part_at structs t indices ≡ Some u
      → StandsIn (kinds_of (unwrap_or (shape structs t) void_leaf)) (kinds_of (part (unwrap_or (shape structs t) void_leaf) indices)) (leaves_before_part (unwrap_or (shape structs t) void_leaf) indices)
  kinds_within indices t u has h = go (shape structs t) refl has
    where
      go : (o : Option Shape) → shape structs t ≡ o → is_some o ≡ true → StandsIn (kinds_of (unwrap_or o void_leaf)) (kinds_of (part (unwrap_or o void_leaf) indices)) (leaves_before_part (unwrap_or o void_leaf) indices)
      go None e k = absurd (true≢false (sym k))
      go (Some s) e k = part_stands indices t u s e h
