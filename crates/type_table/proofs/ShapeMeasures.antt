-- What is kept of a shape follows from what is kept of its parts.
use Rattle.std.proofs.Common.{◌≡◌, ℕ, ◌+◌, ◌*◌, ◌≤◌, max, Bool, true, false, ◌&&◌, cond, List, [], ◌∷◌, Option, Some, None, ap, refl, sym, ◌∙◌, arith, leb}
use Rattle.std.specs.List.{fold}
use Rattle.std.specs.Option.{option_map}
use Rattle.std.specs.Int.{next_multiple_of}
use Rattle.type_table.specs.declared.layout.Layout.{Layout}
use Rattle.type_table.specs.declared.measure.Measure.{Measure}
use Rattle.type_table.specs.Layout.{has_layout, have_layouts, layout, size, align, leaves, all_leaves, greatest_align, end_after, field_start, int_align}
use Rattle.type_table.specs.Shape.{Label, Shape, int_leaf, ptr_leaf, void_leaf, opaque_leaf, array_of, struct_of, Shapes, no_shapes, more_shapes, nesting, deepest, parts, all_parts}
use Rattle.type_table.specs.Measures.{measure, capped, capped_nesting, capped_parts, capped_layout, array_measure, with_field, with_field_layout, rounded, closed, struct_measure}
use Rattle.type_table.proofs.Caps.{capped-field_start, capped-rounded, capped-times, capped-add, capped-capped, capped_nesting-suc}

abbrev pub shape_measures : Shapes → List Measure
shape_measures no_shapes = []
shape_measures (more_shapes s ss) = measure s ∷ shape_measures ss

-- a layout that is there by a test
abbrev pub if_laid : Bool → ℕ → ℕ → ℕ → Option Layout
if_laid true s a l = Some (record { size = capped s; align = a; leaves = capped l })
if_laid false s a l = None

pub kept_layout : (s : Shape) → option_map capped_layout (layout s) ≡ if_laid (has_layout s) (size s) (align s) (leaves s)
kept_layout s = by (has_layout s)
  where
    by : (b : Bool) → option_map capped_layout (cond b (Some (record { size = size s; align = align s; leaves = leaves s })) None) ≡ if_laid b (size s) (align s) (leaves s)
    by true = refl
    by false = refl

abbrev pub kept : ℕ → ℕ → Option Layout → Measure
kept n p l = record { nesting = n; parts = p; layout = l }

pub measure-array : (n : ℕ) (s : Shape) → measure (array_of n s) ≡ array_measure n (measure s)
measure-array n s = λ j. kept (nest j) (count j) (laid j)
  where
    nest : capped_nesting (nesting s + 1) ≡ capped_nesting (capped_nesting (nesting s) + 1)
    nest = sym (capped_nesting-suc (nesting s))

    count : capped_parts (1 + parts s) ≡ capped_parts (capped_parts (parts s) + 1)
    count = omega arith

    by : (b : Bool) → if_laid b (n * size s) (align s) (n * leaves s) ≡ option_map (λ (l : Layout). record { size = capped (n * l.size); align = l.align; leaves = capped (n * l.leaves) }) (if_laid b (size s) (align s) (leaves s))
    by true = λ j. Some (record { size = sym (capped-times n (size s)) j; align = align s; leaves = sym (capped-times n (leaves s)) j })
    by false = refl

    laid : option_map capped_layout (layout (array_of n s)) ≡ option_map (λ (l : Layout). record { size = capped (n * l.size); align = l.align; leaves = capped (n * l.leaves) }) (option_map capped_layout (layout s))
    laid = kept_layout (array_of n s) ∙ by (has_layout s) ∙ ap (option_map (λ (l : Layout). record { size = capped (n * l.size); align = l.align; leaves = capped (n * l.leaves) })) (sym (kept_layout s))

positive_either : (b : Bool) (m n : ℕ) → 1 ≤ m → 1 ≤ n → 1 ≤ cond b m n
positive_either true m n p q = p
positive_either false m n p q = q

int_align-positive : (w : ℕ) → 1 ≤ int_align w
int_align-positive w =
    let one : (k : ℕ) → 1 ≤ k + 1 = λ k. omega arith in
    positive_either (leb w 8) 1 _ (one 0) (positive_either (leb w 16) 2 _ (one 1) (positive_either (leb w 32) 4 _ (one 3) (positive_either (leb w 64) 8 16 (one 7) (one 15))))

mutual
  -- an alignment is at least 1
  pub align-positive : (s : Shape) → 1 ≤ align s
  align-positive (int_leaf w) = int_align-positive w
  align-positive ptr_leaf = omega arith
  align-positive void_leaf = omega arith
  align-positive (opaque_leaf l) = omega arith
  align-positive (array_of n s) = align-positive s
  align-positive (struct_of l packed ss) = positive_either packed 1 (greatest_align ss) (omega arith) (greatest_align-positive ss)

  greatest_align-positive : (ss : Shapes) → 1 ≤ greatest_align ss
  greatest_align-positive no_shapes = omega arith
  greatest_align-positive (more_shapes s ss) = let r = greatest_align-positive ss in omega (arith, r)

max-one : (x : ℕ) → 1 ≤ x → max 1 x ≡ x
max-one x p = omega arith

-- the measure of a struct so far: how deep its deepest field nests, the parts and leaves of its fields, where they end,
-- the greatest alignment, and whether all have layouts
abbrev pub sofar : ℕ → ℕ → ℕ → ℕ → ℕ → Bool → Measure
sofar deep count end_at most laid b = kept (capped_nesting (deep + 1)) (capped_parts (1 + count)) (if_laid b end_at most laid)

abbrev pub alignment : Bool → ℕ → ℕ → ℕ
alignment packed most a = cond packed most (max most a)

laid_further : (packed : Bool) (e z m a l k : ℕ) (b c : Bool) → 1 ≤ a
    → with_field_layout packed (if_laid b e m l) (if_laid c z a k) ≡ if_laid (b && c) (field_start packed e a + z) (alignment packed m a) (l + k)
laid_further packed e z m a l k false c p = refl
laid_further packed e z m a l k true false p = refl
laid_further packed e z m a l k true true p = λ j. Some (record {
  size = (ap (λ x. capped (field_start packed x (max 1 a) + capped z)) (capped-capped e) ∙ ap (λ x. capped (field_start packed (capped e) x + capped z)) (max-one a p) ∙ capped-field_start packed e a z) j;
  align = alignment packed m a;
  leaves = capped-add l k j;
})

pub field_further : (packed : Bool) (d p e m l : ℕ) (b : Bool) (s : Shape)
    → with_field packed (sofar d p e m l b) (measure s)
    ≡ sofar (max d (nesting s)) (p + parts s) (field_start packed e (align s) + size s) (alignment packed m (align s)) (l + leaves s) (b && has_layout s)
field_further packed d p e m l b s = λ j. kept (nest j) (count j) (laid j)
  where
    nest : max (capped_nesting (d + 1)) (capped_nesting (capped_nesting (nesting s) + 1)) ≡ capped_nesting (max d (nesting s) + 1)
    nest = omega arith

    count : capped_parts (capped_parts (1 + p) + capped_parts (parts s)) ≡ capped_parts (1 + (p + parts s))
    count = omega arith

    laid : with_field_layout packed (if_laid b e m l) (option_map capped_layout (layout s)) ≡ if_laid (b && has_layout s) (field_start packed e (align s) + size s) (alignment packed m (align s)) (l + leaves s)
    laid = ap (with_field_layout packed (if_laid b e m l)) (kept_layout s) ∙ laid_further packed e (size s) m (align s) l (leaves s) b (has_layout s) (align-positive s)

max_assoc : (a b c : ℕ) → max (max a b) c ≡ max a (max b c)
max_assoc a b c = omega arith

pub and_assoc : (a b c : Bool) → ((a && b) && c) ≡ (a && (b && c))
and_assoc true b c = refl
and_assoc false b c = refl

pub and_true : (b : Bool) → b ≡ (b && true)
and_true true = refl
and_true false = refl

alignments : (packed : Bool) (m a g : ℕ) → cond packed (alignment packed m a) (max (alignment packed m a) g) ≡ cond packed m (max m (max a g))
alignments true m a g = refl
alignments false m a g = max_assoc m a g

alignment-positive : (packed : Bool) (m a : ℕ) → 1 ≤ m → 1 ≤ alignment packed m a
alignment-positive true m a p = p
alignment-positive false m a p = omega arith

no_alignment : (packed : Bool) (m : ℕ) → 1 ≤ m → m ≡ cond packed m (max m 1)
no_alignment true m p = refl
no_alignment false m p = omega arith

fields_further : (packed : Bool) (d p e m l : ℕ) (b : Bool) (ss : Shapes) → 1 ≤ m
    → fold (with_field packed) (sofar d p e m l b) (shape_measures ss)
    ≡ sofar (max d (deepest ss)) (p + all_parts ss) (end_after packed e ss) (cond packed m (max m (greatest_align ss))) (l + all_leaves ss) (b && have_layouts ss)
fields_further packed d p e m l b no_shapes h =
    let deep : d ≡ max d 0 = omega arith in
    let count : p ≡ p + 0 = omega arith in
    let laid : l ≡ l + 0 = omega arith in
    λ j. sofar (deep j) (count j) e (no_alignment packed m h j) (laid j) (and_true b j)
fields_further packed d p e m l b (more_shapes s ss) h =
    let count : p + parts s + all_parts ss ≡ p + (parts s + all_parts ss) = omega arith in
    let laid : l + leaves s + all_leaves ss ≡ l + (leaves s + all_leaves ss) = omega arith in
    ap (λ x. fold (with_field packed) x (shape_measures ss)) (field_further packed d p e m l b s)
    ∙ fields_further packed (max d (nesting s)) (p + parts s) (field_start packed e (align s) + size s) (alignment packed m (align s)) (l + leaves s) (b && has_layout s) ss (alignment-positive packed m (align s) h)
    ∙ (λ j. sofar (max_assoc d (nesting s) (deepest ss) j) (count j) (end_after packed (field_start packed e (align s) + size s) ss) (alignments packed m (align s) (greatest_align ss) j) (laid j)
    (and_assoc b (has_layout s) (have_layouts ss) j))

rounded_once : (packed : Bool) (e g l : ℕ) (b : Bool) → 1 ≤ g
    → option_map rounded (if_laid b e (cond packed 1 (max 1 g)) l) ≡ if_laid b (next_multiple_of e (cond packed 1 g)) (cond packed 1 g) l
rounded_once packed e g l false p = refl
rounded_once packed e g l true p = λ j. Some (record { size = rounds j; align = same packed j; leaves = capped l })
  where
    same : (q : Bool) → cond q 1 (max 1 g) ≡ cond q 1 g
    same true = refl
    same false = max-one g p

    positive : (q : Bool) → 1 ≤ cond q 1 g
    positive true = omega arith
    positive false = p

    rounds : capped (next_multiple_of (capped (capped e)) (max 1 (cond packed 1 (max 1 g)))) ≡ capped (next_multiple_of e (cond packed 1 g))
    rounds =
        ap (λ x. capped (next_multiple_of x (max 1 (cond packed 1 (max 1 g))))) (capped-capped e)
        ∙ capped-rounded e (max 1 (cond packed 1 (max 1 g)))
        ∙ ap (λ x. capped (next_multiple_of e x)) (ap (max 1) (same packed) ∙ max-one (cond packed 1 g) (positive packed))

pub measure-struct : (label : Label) (packed : Bool) (ss : Shapes) → measure (struct_of label packed ss) ≡ struct_measure packed (shape_measures ss)
measure-struct label packed ss =
    (λ j. kept (nest j) (count j) (laid j))
    ∙ ap closed (sym (fields_further packed 0 0 0 1 0 true ss (omega arith)))
  where
    nest : capped_nesting (deepest ss + 1) ≡ capped_nesting (max 0 (deepest ss) + 1)
    nest = omega arith

    count : capped_parts (1 + all_parts ss) ≡ capped_parts (1 + (0 + all_parts ss))
    count = omega arith

    no_leaves : all_leaves ss ≡ 0 + all_leaves ss
    no_leaves = omega arith

    laid : option_map capped_layout (layout (struct_of label packed ss)) ≡ option_map rounded (if_laid (have_layouts ss) (end_after packed 0 ss) (cond packed 1 (max 1 (greatest_align ss))) (0 + all_leaves ss))
    laid =
        kept_layout (struct_of label packed ss)
        ∙ ap (if_laid (have_layouts ss) (size (struct_of label packed ss)) (align (struct_of label packed ss))) no_leaves
        ∙ sym (rounded_once packed (end_after packed 0 ss) (greatest_align ss) (0 + all_leaves ss) (have_layouts ss) (greatest_align-positive ss))
