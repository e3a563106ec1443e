-- Where a field begins, from the measures of the fields.
use Rattle.std.proofs.Common.{◌≡◌, ℕ, zero, suc, ◌+◌, ◌-◌, ◌^◌, ◌≤◌, ◌<◌, max, Bool, true, false, ◌&&◌, cond, List, [], ◌∷◌, Option, Some, None, map, length, get_or, drop, ap, refl, sym, ◌∙◌, arith, All}
use Rattle.std.specs.Option.{option_and_then}
use Rattle.std.specs.Int.{next_multiple_of}
use Rattle.std.proofs.lemmas.List.{drop_more}
use Rattle.std.proofs.lemmas.List.Elements.{All-head, All-tail}
use Rattle.std.proofs.lemmas.Bool.{and_parts}
use Rattle.type_table.specs.declared.layout.Layout.{Layout}
use Rattle.type_table.specs.declared.measure.Measure.{Measure}
use Rattle.type_table.specs.declared.outline.TypeOutline.{TypeOutline}
use Rattle.type_table.specs.declared.outline.TypeOutline.TheVariants as heads
use Rattle.type_table.specs.Kept.{IsKept}
use Rattle.type_table.specs.Layout.{has_layout, have_layouts, layout, offset, field_offset, field_start, size, align, leaves, end_after, greatest_align}
use Rattle.type_table.specs.Measures.{capped, empty_struct, with_field, measures_at, opaque_measure}
use Rattle.type_table.specs.Outline.{next_offset, offset_from, head_of, parts_of}
use Rattle.type_table.specs.Shape.{Shape, int_leaf, ptr_leaf, void_leaf, opaque_leaf, array_of, struct_of, Shapes, no_shapes, more_shapes, nesting, parts}
use Rattle.type_table.specs.Types.{Types, shape}
use Rattle.type_table.proofs.Caps.{field_start-le}
use Rattle.type_table.proofs.Laid.{type_shaped, type_measure_is, small_laid}
use Rattle.type_table.proofs.Outlined.{outlined, parts_known, shape_head, shape_parts, listed}
use Rattle.type_table.proofs.ShapeMeasures.{shape_measures, sofar, alignment, field_further, kept_layout, if_laid, align-positive}

-- the loop over the fields
pub offset_from-past : (packed : Bool) (acc : Measure) (ms : List Measure) (k : ℕ) → length ms ≤ k → offset_from packed acc ms k ≡ None
offset_from-past packed acc [] k le = refl
offset_from-past packed acc (m ∷ ms) zero le = absurd (omega arith)
offset_from-past packed acc (m ∷ ms) (suc k) le = offset_from-past packed (with_field packed acc m) ms k (omega arith)

pub offset_from-more : (packed : Bool) (acc : Measure) (types : List Measure) (ids : List ℕ) (i field : ℕ) → i < length ids → i < field
    → offset_from packed acc (measures_at types (drop i ids)) (field - i)
    ≡ offset_from packed (with_field packed acc (get_or types (get_or ids i 0) opaque_measure)) (measures_at types (drop (i + 1) ids)) (field - (i + 1))
offset_from-more packed acc types ids i field lt below =
    let left : field - i ≡ suc (field - (i + 1)) = omega arith in
    ap (λ l. offset_from packed acc (measures_at types l) (field - i)) (drop_more ids i 0 lt)
    ∙ ap (offset_from packed acc (get_or types (get_or ids i 0) opaque_measure ∷ measures_at types (drop (i + 1) ids))) left

pub offset_from-here : (packed : Bool) (acc : Measure) (types : List Measure) (ids : List ℕ) (field : ℕ) → field < length ids
    → offset_from packed acc (measures_at types (drop field ids)) (field - field) ≡ next_offset packed acc.layout (get_or types (get_or ids field 0) opaque_measure).layout
offset_from-here packed acc types ids field lt =
    let left : field - field ≡ 0 = omega arith in
    ap (λ l. offset_from packed acc (measures_at types l) (field - field)) (drop_more ids field 0 lt)
    ∙ ap (offset_from packed acc (get_or types (get_or ids field 0) opaque_measure ∷ measures_at types (drop (field + 1) ids))) left

-- what is laid out ends no earlier than any part of it
pub end_after-le : (packed : Bool) (at : ℕ) (ss : Shapes) → at ≤ end_after packed at ss
end_after-le packed at no_shapes = omega arith
end_after-le packed at (more_shapes s ss) =
    let start = field_start-le packed at (align s) in
    let rest = end_after-le packed (field_start packed at (align s) + size s) ss in
    omega (arith, start, rest)

next_is : (packed : Bool) (e z m a l k : ℕ) (b c : Bool) → b ≡ true → c ≡ true → e ≤ 2 ^ 40 → 1 ≤ a → next_offset packed (if_laid b e m l) (if_laid c z a k) ≡ Some (field_start packed e a)
next_is packed e z m a l k false c p q le positive = cc
next_is packed e z m a l k true false p q le positive = cc
next_is packed e z m a l k true true p q le positive =
    let exact : capped (capped e) ≡ e = omega arith in
    let one : max 1 a ≡ a = omega arith in
    λ j. Some (field_start packed (exact j) (one j))

-- where each field begins, by the measures so far and by the shapes
offsets_agree : (packed : Bool) (d p e m l : ℕ) (b : Bool) (ss : Shapes) (k : ℕ) → b ≡ true → have_layouts ss ≡ true → end_after packed e ss ≤ 2 ^ 40
    → offset_from packed (sofar d p e m l b) (shape_measures ss) k ≡ field_offset packed e ss k
offsets_agree packed d p e m l b no_shapes k laid all le = refl
offsets_agree packed d p e m l b (more_shapes s ss) zero laid all le =
    let each = and_parts (has_layout s) (have_layouts ss) all in
    let start = field_start-le packed e (align s) in
    let rest = end_after-le packed (field_start packed e (align s) + size s) ss in
    ap (λ o. next_offset packed (if_laid b e m l) o) (kept_layout s)
    ∙ next_is packed e (size s) m (align s) l (leaves s) b (has_layout s) laid each.0 (omega (arith, start, rest, le)) (align-positive s)
offsets_agree packed d p e m l b (more_shapes s ss) (suc k) laid all le =
    let each = and_parts (has_layout s) (have_layouts ss) all in
    ap (λ acc. offset_from packed acc (shape_measures ss) k) (field_further packed d p e m l b s)
    ∙ offsets_agree packed (max d (nesting s)) (p + parts s) (field_start packed e (align s) + size s) (alignment packed m (align s)) (l + leaves s) (b && has_layout s) ss k
    (λ j. laid j && each.0 j) each.1 le

-- what has no layout, and what is no struct, has no offsets
offset_unlaid : (x : Shape) (field : ℕ) → has_layout x ≡ false → offset x field ≡ None
offset_unlaid (int_leaf w) field e = refl
offset_unlaid ptr_leaf field e = refl
offset_unlaid void_leaf field e = refl
offset_unlaid (opaque_leaf label) field e = refl
offset_unlaid (array_of n s) field e = refl
offset_unlaid (struct_of label packed ss) field e = ap (λ b. cond b (field_offset packed 0 ss field) None) e

no_layout : (x : Shape) → layout x ≡ None → has_layout x ≡ false
no_layout x e = by (has_layout x) e
  where
    by : (b : Bool) → cond {A = Option Layout} b (Some (record { size = size x; align = align x; leaves = leaves x })) None ≡ None → b ≡ false
    by true q = cc
    by false q = refl

pub offset_none : (o : Option Shape) (field : ℕ) → option_and_then layout o ≡ None → option_and_then (λ s. offset s field) o ≡ None
offset_none None field e = refl
offset_none (Some x) field e = offset_unlaid x field (no_layout x e)

other_head : (x : Shape) (field : ℕ) (h : TypeOutline) → shape_head x ≡ h → ((packed : Bool) → h ≡ heads.Struct packed → ⊥) → offset x field ≡ None
other_head (int_leaf w) field h e apart = refl
other_head ptr_leaf field h e apart = refl
other_head void_leaf field h e apart = refl
other_head (opaque_leaf label) field h e apart = refl
other_head (array_of n s) field h e apart = refl
other_head (struct_of label packed ss) field h e apart = absurd (apart packed (sym e))

module _ (t : Types) (ks kt : List Measure) (is : IsKept t ks kt) (ty : ℕ) (lt : ty < length t.types) where
  listed_measures : (ss : Shapes) (ps : List ℕ) → listed ss ≡ map (shape t) ps → All (λ p. p < length t.types) ps → shape_measures ss ≡ measures_at kt ps
  listed_measures no_shapes [] e known = refl
  listed_measures no_shapes (p ∷ ps) e known = cc
  listed_measures (more_shapes s ss) [] e known = cc
  listed_measures (more_shapes s ss) (p ∷ ps) e known =
      let P : ℕ → Type 0 = λ k. k < length t.types in
      let here : shape t p ≡ Some s = cc in
      let rest : listed ss ≡ map (shape t) ps = cc in
      λ j. type_measure_is t ks kt is p (All-head P p ps known) s here j ∷ listed_measures ss ps rest (All-tail P p ps known) j

  pub offset_other : (field : ℕ) → ((packed : Bool) → head_of t ty ≡ heads.Struct packed → ⊥) → option_and_then (λ s. offset s field) (shape t ty) ≡ None
  offset_other field apart =
      let shaped = type_shaped t ks kt is ty lt in
      let out = outlined t is.measured.good ty lt shaped.0 shaped.1 in
      ap (option_and_then (λ s. offset s field)) shaped.1 ∙ other_head shaped.0 field (head_of t ty) out.1 apart

  laid_if : (x : Shape) → (layout x ≡ None → ⊥) → has_layout x ≡ true
  laid_if x some = by (has_layout x) some
    where
      by : (b : Bool) → (cond {A = Option Layout} b (Some (record { size = size x; align = align x; leaves = leaves x })) None ≡ None → ⊥) → b ≡ true
      by true h = refl
      by false h = absurd (h refl)

  pub offset_struct : (packed : Bool) (field : ℕ) → head_of t ty ≡ heads.Struct packed → (option_and_then layout (shape t ty) ≡ None → ⊥)
      → offset_from packed empty_struct (measures_at kt (parts_of t ty)) field ≡ option_and_then (λ s. offset s field) (shape t ty)
  offset_struct packed field head laid =
      let shaped = type_shaped t ks kt is ty lt in
      let out = outlined t is.measured.good ty lt shaped.0 shaped.1 in
      let there = laid_if shaped.0 (λ e. laid (ap (option_and_then layout) shaped.1 ∙ e)) in
      by shaped.0 (out.1 ∙ head) out.2 there (small_laid t ks kt is ty lt shaped.0 shaped.1 there)
      ∙ sym (ap (option_and_then (λ s. offset s field)) shaped.1)
    where
      by : (x : Shape) → shape_head x ≡ heads.Struct packed → shape_parts x ≡ map (shape t) (parts_of t ty) → has_layout x ≡ true → size x ≤ 2 ^ 40
          → offset_from packed empty_struct (measures_at kt (parts_of t ty)) field ≡ offset x field
      by (int_leaf w) h ps there small = cc
      by ptr_leaf h ps there small = cc
      by void_leaf h ps there small = cc
      by (opaque_leaf label) h ps there small = cc
      by (array_of n s) h ps there small = cc
      by (struct_of label q ss) h ps there small =
          let same : q ≡ packed = cc in
          let up : (x y : ℕ) → x ≤ next_multiple_of x y = λ x y. omega arith in
          let fits : end_after q 0 ss ≤ 2 ^ 40 = omega (arith, small, up (end_after q 0 ss) (cond q 1 (greatest_align ss))) in
          ap (λ ms. offset_from packed empty_struct ms field) (sym (listed_measures ss (parts_of t ty) ps (parts_known t is.measured.good ty lt)))
          ∙ ap (λ b. offset_from b empty_struct (shape_measures ss) field) (sym same)
          ∙ offsets_agree q 0 0 0 1 0 true ss field refl there fits
          ∙ sym (ap (λ b. cond b (field_offset q 0 ss field) None) there)
