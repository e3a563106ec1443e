-- Values of which each leaf is filled alike.
use Rattle.std.proofs.Common.{◌≡◌, ℕ, zero, suc, ◌+◌, ◌-◌, ◌<◌, ◌≤◌, Bool, List, [], ◌∷◌, ◌++◌, length, drop, map, append_assoc, append-nil, refl, sym, ap, ◌∙◌, arith}
use Rattle.std.proofs.lemmas.List.{at_drop_all, length-append}
use Rattle.ir_eval.specs.declared.value.Scalar.{Scalar}
use Rattle.type_table.specs.Layout.{align, field_start, size}
use Rattle.type_table.specs.Shape.{Shape, int_leaf, ptr_leaf, void_leaf, opaque_leaf, array_of, struct_of, Shapes, no_shapes, more_shapes}
use Rattle.type_table.specs.Types.{Types}
use Rattle.run_rules.specs.Leaves.{Slot, field_slots, repeated, slots, slots_at}
use Rattle.run_names.specs.Shapes.Shapes.{shapes_in}
use Rattle.run_initial.specs.declared.constants.filled.Fill.{Fill}
use Rattle.run_initial.specs.Constants.Filled.{all_filled, copies, filled, leaf_in}

-- ---- the leaves, wherever they lie

map-++ : (f : Slot → Scalar) (xs ys : List Slot) → map f (xs ++ ys) ≡ map f xs ++ map f ys
map-++ f [] ys = refl
map-++ f (x ∷ xs) ys = ap (λ (l : List Scalar). f x ∷ l) (map-++ f xs ys)

map_repeated : (f : Slot → Scalar) (n : ℕ) (element : ℕ → List Slot) (at step : ℕ) (xs : List Scalar) → ((bt : ℕ) → map f (element bt) ≡ xs) → map f (repeated n element at step) ≡ copies n xs
unfolding repeated copies
map_repeated f zero element at step xs h = refl
map_repeated f (suc n) element at step xs h = map-++ f (element at) (repeated n element (at + step) step) ∙ (λ i. h at i ++ map_repeated f n element (at + step) step xs h i)

module _ (fill : Fill) where
  abbrev one : Slot → Scalar
  one slot = leaf_in fill slot.leaf

  mutual
    filled_at : (s : Shape) (at : ℕ) → map one (slots_at s at) ≡ filled fill s
    filled_at (int_leaf w) at = refl
    filled_at ptr_leaf at = refl
    filled_at void_leaf at = refl
    filled_at (opaque_leaf label) at = refl
    filled_at (array_of n s) at = map_repeated one n (slots_at s) at (size s) (filled fill s) (λ bt. filled_at s bt)
    filled_at (struct_of label packed ss) at = all_filled_at ss packed at 0

    all_filled_at : (ss : Shapes) (packed : Bool) (at end : ℕ) → map one (field_slots ss packed at end) ≡ all_filled fill ss
    all_filled_at no_shapes packed at end = refl
    all_filled_at (more_shapes s ss) packed at end =
        map-++ one (slots_at s (at + field_start packed end (align s))) (field_slots ss packed at (field_start packed end (align s) + size s))
        ∙ (λ i. filled_at s (at + field_start packed end (align s)) i ++ all_filled_at ss packed at (field_start packed end (align s) + size s) i)

  pub filled_is : (s : Shape) → map one (slots s) ≡ filled fill s
  filled_is s = filled_at s 0

-- ---- copies

copies_next : (k n : ℕ) (xs : List Scalar) → k ≡ suc n → copies k xs ≡ xs ++ copies n xs
unfolding copies
copies_next zero n xs e = absurd (omega (arith, e))
copies_next (suc k) n xs e = let same : k ≡ n = omega (arith, e) in ap (λ (m : ℕ). xs ++ copies m xs) same

copies_zero : (k : ℕ) (xs : List Scalar) → k ≡ 0 → copies k xs ≡ []
unfolding copies
copies_zero zero xs e = refl
copies_zero (suc k) xs e = absurd (omega (arith, e))

copies_none : (n : ℕ) (xs : List Scalar) → xs ≡ [] → copies n xs ≡ []
unfolding copies
copies_none zero xs e = refl
copies_none (suc n) xs e = λ i. e i ++ copies_none n xs e i

pub copies_start : (n : ℕ) (xs now : List Scalar) → now ++ copies (n - 0) xs ≡ now ++ copies n xs
copies_start n xs now = let same : n - 0 ≡ n = omega arith in ap (λ (m : ℕ). now ++ copies m xs) same

-- one copy more
pub copies_more : (n place : ℕ) (xs now next whole : List Scalar) → place < n → now ++ copies (n - place) xs ≡ whole → next ≡ now ++ xs → next ++ copies (n - (place + 1)) xs ≡ whole
copies_more n place xs now next whole lt before added =
    let left : n - place ≡ suc (n - (place + 1)) = omega (arith, lt) in
    ap (λ (l : List Scalar). l ++ copies (n - (place + 1)) xs) added
    ∙ append_assoc now xs (copies (n - (place + 1)) xs)
    ∙ ap (λ (l : List Scalar). now ++ l) (sym (copies_next (n - place) (n - (place + 1)) xs left))
    ∙ before

-- none is left
pub copies_end : (n place : ℕ) (xs now whole : List Scalar) → n ≤ place → now ++ copies (n - place) xs ≡ whole → now ≡ whole
copies_end n place xs now whole le before =
    let none : n - place ≡ 0 = omega (arith, le) in
    sym (append-nil now) ∙ ap (λ (l : List Scalar). now ++ l) (sym (copies_zero (n - place) xs none)) ∙ before

none_of : (xs : List Scalar) → length xs ≡ 0 → xs ≡ []
none_of [] e = refl
none_of (x ∷ xs) e = absurd (omega (arith, e))

-- of a value without leaves
pub copies_of_none : (n place : ℕ) (xs now next whole : List Scalar) → now ++ copies (n - place) xs ≡ whole → next ≡ now ++ xs → length next ≡ length now → next ≡ whole
copies_of_none n place xs now next whole before added same =
    let both = length-append now xs in
    let long = ap length added in
    let none = none_of xs (omega (arith, both, long, same)) in
    added ∙ ap (λ (l : List Scalar). now ++ l) (none ∙ sym (copies_none (n - place) xs none)) ∙ before

-- ---- fields

pub fields_more : (fill : Fill) (s : Shape) (ss us : Shapes) (now next whole : List Scalar) → us ≡ more_shapes s ss → now ++ all_filled fill us ≡ whole → next ≡ now ++ filled fill s → next ++ all_filled fill ss ≡ whole
fields_more fill s ss us now next whole is before added =
    ap (λ (l : List Scalar). l ++ all_filled fill ss) added
    ∙ append_assoc now (filled fill s) (all_filled fill ss)
    ∙ ap (λ (vs : Shapes). now ++ all_filled fill vs) (sym is)
    ∙ before

pub fields_end : (fill : Fill) (t : Types) (ids : List ℕ) (k : ℕ) (now whole : List Scalar) → length ids ≤ k → now ++ all_filled fill (shapes_in t (drop k ids)) ≡ whole → now ≡ whole
fields_end fill t ids k now whole le before =
    sym (append-nil now) ∙ ap (λ (l : List Scalar). now ++ l) (sym (at_drop_all (λ (l : List ℕ). all_filled fill (shapes_in t l)) ids k le)) ∙ before
