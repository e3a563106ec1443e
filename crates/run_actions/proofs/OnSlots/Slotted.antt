-- The slots of elements and fields one after another, and values without leaves.
use Rattle.std.proofs.Common.{◌≡◌, Result, Ok, Err, OnOk, ℕ, zero, suc, ◌+◌, ◌-◌, ◌*◌, ◌<◌, ◌≤◌, Bool, false, List, [], ◌++◌, length, drop, get_or, append_assoc, append-nil, ap, refl, sym, ◌∙◌, arith, ◌⊎◌, inl, inr}
use Rattle.std.specs.Prelude.{if◌then◌else◌}
use Rattle.std.proofs.lemmas.List.{at_drop_more, at_drop_all}
use Rattle.run_rules.specs.Leaves.{Slot, field_slots, repeated, slots_at}
use Rattle.type_table.specs.Layout.{align, all_leaves, end_after, greatest_align, leaves, field_start, size}
use Rattle.type_table.specs.Shape.{Label, Shape, int_leaf, ptr_leaf, void_leaf, opaque_leaf, array_of, struct_of, Shapes, no_shapes, more_shapes}
use Rattle.type_table.specs.Types.{Types}
use Rattle.type_table.proofs.Caps.{field_start-le}
use Rattle.run_names.specs.Shapes.Shapes.{shape_in, shapes_in}

-- ---- values without leaves have no slots

times_none : (n m : ℕ) → n * m ≡ 0 → (n ≡ 0) ⊎ (m ≡ 0)
times_none zero m e = inl refl
times_none (suc n) zero e = inr refl
times_none (suc n) (suc m) e = absurd (omega (arith, e))

none_repeated : (n : ℕ) (element : ℕ → List Slot) (at step : ℕ) → ((bt : ℕ) → element bt ≡ []) → repeated n element at step ≡ []
unfolding repeated
none_repeated zero element at step h = refl
none_repeated (suc n) element at step h = λ i. h at i ++ none_repeated n element (at + step) step h i

pub repeated_zero : (n : ℕ) (element : ℕ → List Slot) (at step : ℕ) → n ≡ 0 → repeated n element at step ≡ []
unfolding repeated
repeated_zero zero element at step e = refl
repeated_zero (suc n) element at step e = absurd (omega (arith, e))

mutual
  pub no_slots : (s : Shape) (at : ℕ) → leaves s ≡ 0 → slots_at s at ≡ []
  no_slots (int_leaf w) at e = absurd (omega (arith, e))
  no_slots ptr_leaf at e = absurd (omega (arith, e))
  no_slots void_leaf at e = refl
  no_slots (opaque_leaf label) at e = refl
  no_slots (array_of n s) at e = go (times_none n (leaves s) e) (λ bt h. no_slots s bt h)
    where
      go : (n ≡ 0) ⊎ (leaves s ≡ 0) → ((bt : ℕ) → leaves s ≡ 0 → slots_at s bt ≡ []) → repeated n (slots_at s) at (size s) ≡ []
      go (inl z) more = repeated_zero n (slots_at s) at (size s) z
      go (inr z) more = none_repeated n (slots_at s) at (size s) (λ bt. more bt z)
  no_slots (struct_of label packed ss) at e = no_field_slots ss packed at 0 e

  no_field_slots : (ss : Shapes) (packed : Bool) (at end : ℕ) → all_leaves ss ≡ 0 → field_slots ss packed at end ≡ []
  no_field_slots no_shapes packed at end e = refl
  no_field_slots (more_shapes s ss) packed at end e = λ i.
      no_slots s (at + field_start packed end (align s)) (omega (arith, e)) i ++ no_field_slots ss packed at (field_start packed end (align s) + size s) (omega (arith, e)) i

-- ---- elements

pub repeated_next : (k n : ℕ) (element : ℕ → List Slot) (at step : ℕ) → k ≡ suc n → repeated k element at step ≡ element at ++ repeated n element (at + step) step
unfolding repeated
repeated_next zero n element at step e = absurd (omega (arith, e))
repeated_next (suc k) n element at step e = let same : k ≡ n = omega (arith, e) in ap (λ (m : ℕ). element at ++ repeated m element (at + step) step) same

-- one element more
pub elements_more : (n place at step : ℕ) (element : ℕ → List Slot) (now next whole : List Slot) → place < n → now ++ repeated (n - place) element (at + place * step) step ≡ whole
    → next ≡ now ++ element (at + place * step) → next ++ repeated (n - (place + 1)) element (at + (place + 1) * step) step ≡ whole
elements_more n place at step element now next whole lt before added =
    let left : n - place ≡ suc (n - (place + 1)) = omega (arith, lt) in
    let further : at + (place + 1) * step ≡ at + place * step + step = omega arith in
    ap (λ (l : List Slot). l ++ repeated (n - (place + 1)) element (at + (place + 1) * step) step) added
    ∙ append_assoc now (element (at + place * step)) (repeated (n - (place + 1)) element (at + (place + 1) * step) step)
    ∙ ap (λ (m : ℕ). now ++ (element (at + place * step) ++ repeated (n - (place + 1)) element m step)) further
    ∙ ap (λ (l : List Slot). now ++ l) (sym (repeated_next (n - place) (n - (place + 1)) element (at + place * step) step left))
    ∙ before

-- none is left
pub elements_end : (n place at step : ℕ) (element : ℕ → List Slot) (now whole : List Slot) → n ≤ place → now ++ repeated (n - place) element at step ≡ whole → now ≡ whole
elements_end n place at step element now whole le before =
    let none : n - place ≡ 0 = omega (arith, le) in
    sym (append-nil now) ∙ ap (λ (l : List Slot). now ++ l) (sym (repeated_zero (n - place) element at step none)) ∙ before

-- an element ends within the array
pub element_ends : (n place at step most : ℕ) → place < n → at + n * step ≤ most → at + place * step + step ≤ most
element_ends n place at step most lt fits = go (n - suc place) (omega (arith, lt))
  where
    go : (k : ℕ) → n ≡ suc place + k → at + place * step + step ≤ most
    go k e =
        let whole : n * step ≡ (suc place + k) * step = ap (λ (m : ℕ). m * step) e in
        let parts : (suc place + k) * step ≡ place * step + step + k * step = omega arith in
        omega (arith, whole, parts, fits)

-- ---- fields

-- no field ends before the ones in front of it
pub end_grows : (packed : Bool) (ss : Shapes) (end : ℕ) → end ≤ end_after packed end ss
end_grows packed no_shapes end = omega arith
end_grows packed (more_shapes s ss) end =
    let first = field_start-le packed end (align s) in
    let rest = end_grows packed ss (field_start packed end (align s) + size s) in
    omega (arith, first, rest)

-- the fields from one on
pub fields_from : (t : Types) (ids : List ℕ) (k ty : ℕ) → k < length ids → ty ≡ get_or ids k ty → shapes_in t (drop k ids) ≡ more_shapes (shape_in t ty) (shapes_in t (drop (k + 1) ids))
fields_from t ids k ty lt is =
    at_drop_more (shapes_in t) ids k ty lt ∙ ap (λ (id : ℕ). more_shapes (shape_in t id) (shapes_in t (drop (k + 1) ids))) (sym is)

pub no_fields_from : (t : Types) (ids : List ℕ) (k : ℕ) → length ids ≤ k → shapes_in t (drop k ids) ≡ no_shapes
no_fields_from t ids k le = at_drop_all (shapes_in t) ids k le

-- one field more
pub fields_more : (s : Shape) (ss : Shapes) (packed : Bool) (at end start : ℕ) (now next whole : List Slot) → start ≡ field_start packed end (align s) → now ++ field_slots (more_shapes s ss) packed at end ≡ whole
    → next ≡ now ++ slots_at s (at + start) → next ++ field_slots ss packed at (start + size s) ≡ whole
fields_more s ss packed at end start now next whole is before added =
    ap (λ (l : List Slot). l ++ field_slots ss packed at (start + size s)) added
    ∙ append_assoc now (slots_at s (at + start)) (field_slots ss packed at (start + size s))
    ∙ ap (λ (m : ℕ). now ++ (slots_at s (at + m) ++ field_slots ss packed at (m + size s))) is
    ∙ before

pub fields_end : (packed : Bool) (at end : ℕ) (ss : Shapes) (now whole : List Slot) → ss ≡ no_shapes → now ++ field_slots ss packed at end ≡ whole → now ≡ whole
fields_end packed at end ss now whole none before = sym (append-nil now) ∙ ap (λ (us : Shapes). now ++ field_slots us packed at end) (sym none) ∙ before

-- a field ends where the struct ends, or before
pub field_ends : (packed : Bool) (s : Shape) (ss us : Shapes) (end whole : ℕ) → end_after packed end us ≡ whole → us ≡ more_shapes s ss → field_start packed end (align s) + size s ≤ whole
field_ends packed s ss us end whole e f =
    let grows = end_grows packed ss (field_start packed end (align s) + size s) in
    let same : end_after packed (field_start packed end (align s) + size s) ss ≡ whole = ap (end_after packed end) (sym f) ∙ e in
    omega (arith, grows, same)

-- a struct is as long as its fields at least
pub struct_holds : (label : Label) (packed : Bool) (ss : Shapes) → end_after packed 0 ss ≤ size (struct_of label packed ss)
struct_holds label packed ss = field_start-le false (end_after packed 0 ss) (if packed then 1 else greatest_align ss)

-- ---- slots that a call appended

-- the same slots in other words
pub reworded : {E : Type 0} (r : Result (Unit {0}) E) (old new xs ys : List Slot) → OnOk r (new ≡ old ++ xs) → xs ≡ ys → OnOk r (new ≡ old ++ ys)
reworded (Ok u) old new xs ys e same = e ∙ ap (λ (l : List Slot). old ++ l) same
reworded (Err e) old new xs ys h same = tt

-- no slots
pub none_pushed : (old xs : List Slot) → xs ≡ [] → old ≡ old ++ xs
none_pushed old xs e = sym (append-nil old) ∙ ap (λ (l : List Slot). old ++ l) (sym e)
