-- The leaves of fields, and of parts before one.
use Rattle.std.proofs.Common.{◌≡◌, ℕ, zero, suc, ◌+◌, ◌-◌, ◌*◌, ◌^◌, ◌<◌, ◌≤◌, Bool, true, ◌&&◌, List, [], ◌∷◌, Option, Some, None, length, take, ap, refl, ◌∙◌, arith}
use Rattle.std.specs.Prelude.{slice_get, unwrap_or, if◌then◌else◌}
use Rattle.std.proofs.lemmas.Bool.{and_parts}
use Rattle.run_rules.specs.Leaves as leaves
use Rattle.type_table.specs.Layout as layouts
use Rattle.type_table.specs.Shape.{Shape, int_leaf, ptr_leaf, void_leaf, opaque_leaf, array_of, struct_of, Shapes, no_shapes, more_shapes, parts, all_parts}
use Rattle.type_table.specs.Types.{Types}
use Rattle.run_names.specs.Shapes.Shapes.{HasElement, field_count, offset_in, shape_in, shapes_in}

-- one field more
leaves_suc : (t : Types) (ids : List ℕ) (k id : ℕ) → slice_get ids k ≡ Some id → layouts.all_leaves (shapes_in t (take (suc k) ids)) ≡ layouts.all_leaves (shapes_in t (take k ids)) + layouts.leaves (shape_in t id)
leaves_suc t [] k id e = cc
leaves_suc t (x ∷ ids) zero id e =
    let y : x ≡ id = cc in
    let one : layouts.leaves (shape_in t x) + 0 ≡ 0 + layouts.leaves (shape_in t x) = omega arith in
    one ∙ ap (λ (n : ℕ). 0 + layouts.leaves (shape_in t n)) y
leaves_suc t (x ∷ ids) (suc k) id e =
    let rest = leaves_suc t ids k id e in
    ap (λ (n : ℕ). layouts.leaves (shape_in t x) + n) rest ∙ omega arith

pub leaves_next : (t : Types) (ids : List ℕ) (k id : ℕ) → slice_get ids k ≡ Some id → layouts.all_leaves (shapes_in t (take (k + 1) ids)) ≡ layouts.all_leaves (shapes_in t (take k ids)) + layouts.leaves (shape_in t id)
leaves_next t ids k id e =
    let one : k + 1 ≡ suc k = omega arith in
    ap (λ (n : ℕ). layouts.all_leaves (shapes_in t (take n ids))) one ∙ leaves_suc t ids k id e

-- so many fields have no more leaves than all
pub leaves_within : (t : Types) (ids : List ℕ) (k : ℕ) → layouts.all_leaves (shapes_in t (take k ids)) ≤ layouts.all_leaves (shapes_in t ids)
leaves_within t [] zero = omega arith
leaves_within t [] (suc k) = omega arith
leaves_within t (x ∷ ids) zero = omega arith
leaves_within t (x ∷ ids) (suc k) = let rest = leaves_within t ids k in omega (arith, rest)

-- the leaves before a field are those of the fields before it
pub before_is : (t : Types) (ids : List ℕ) (k : ℕ) → leaves.leaves_before_field (shapes_in t ids) k ≡ layouts.all_leaves (shapes_in t (take k ids))
before_is t [] zero = refl
before_is t [] (suc k) = refl
before_is t (x ∷ ids) zero = refl
before_is t (x ∷ ids) (suc k) = ap (λ (n : ℕ). layouts.leaves (shape_in t x) + n) (before_is t ids k)

pub count_is : (t : Types) (ids : List ℕ) → field_count (shapes_in t ids) ≡ length ids
count_is t [] = refl
count_is t (x ∷ ids) = ap suc (count_is t ids)

-- the leaves before an element are no more than those of the array
pub elements_before : (n i m : ℕ) → i < n → i * m + m ≤ n * m
elements_before n i m lt = go (n - suc i) (omega (arith, lt))
  where
    go : (k : ℕ) → n ≡ suc i + k → i * m + m ≤ n * m
    go k e =
        let whole : n * m ≡ (suc i + k) * m = ap (λ (j : ℕ). j * m) e in
        let parts : (suc i + k) * m ≡ i * m + m + k * m = omega arith in
        omega (arith, whole, parts)

-- ---- offsets

-- each shape has a node
parts_some : (s : Shape) → 1 ≤ parts s
parts_some (int_leaf w) = omega arith
parts_some ptr_leaf = omega arith
parts_some void_leaf = omega arith
parts_some (opaque_leaf label) = omega arith
parts_some (array_of n s) = omega arith
parts_some (struct_of label packed ss) = omega arith

-- so there are no more fields than nodes
count_within : (ss : Shapes) → field_count ss ≤ all_parts ss
count_within no_shapes = omega arith
count_within (more_shapes s ss) = let first = parts_some s in let rest = count_within ss in omega (arith, first, rest)

-- behind the last field there is none
past_all : (packed : Bool) (at : ℕ) (ss : Shapes) (k : ℕ) → field_count ss ≤ k → layouts.field_offset packed at ss k ≡ None
past_all packed at no_shapes k le = refl
past_all packed at (more_shapes s ss) zero le = absurd (omega arith)
past_all packed at (more_shapes s ss) (suc k) le = past_all packed (layouts.field_start packed at (layouts.align s) + layouts.size s) ss k (omega arith)

-- a type has no field with so great an index
pub none_so_far : (s : Shape) (k : ℕ) → parts s ≤ 2 ^ 20 → 2 ^ 32 ≤ k → unwrap_or (offset_in s k) 0 ≡ 0
none_so_far (int_leaf w) k few le = refl
none_so_far ptr_leaf k few le = refl
none_so_far void_leaf k few le = refl
none_so_far (opaque_leaf label) k few le = refl
none_so_far (array_of n s) k few le = refl
none_so_far (struct_of label packed ss) k few le =
    let most = count_within ss in
    let far : field_count ss ≤ k = omega (arith, most, few, le) in
    ap (λ (o : Option ℕ). unwrap_or o 0) (past_all packed 0 ss k far)

-- what lies in memory has its fields where they are placed
pub offset_is : (s : Shape) (k : ℕ) → layouts.has_layout s ≡ true → layouts.offset s k ≡ offset_in s k
offset_is (int_leaf w) k laid = refl
offset_is ptr_leaf k laid = refl
offset_is void_leaf k laid = refl
offset_is (opaque_leaf label) k laid = refl
offset_is (array_of n s) k laid = refl
offset_is (struct_of label packed ss) k laid = ap (λ (b : Bool). if b then layouts.field_offset packed 0 ss k else None) laid

-- ---- parts that lie in memory

-- the fields in front of one
pub front_laid : (t : Types) (ids : List ℕ) (k : ℕ) → layouts.have_layouts (shapes_in t ids) ≡ true → layouts.have_layouts (shapes_in t (take k ids)) ≡ true
front_laid t [] zero h = refl
front_laid t [] (suc k) h = refl
front_laid t (x ∷ ids) zero h = refl
front_laid t (x ∷ ids) (suc k) h =
    let p = and_parts (layouts.has_layout (shape_in t x)) (layouts.have_layouts (shapes_in t ids)) h in
    ap (λ (b : Bool). b && layouts.have_layouts (shapes_in t (take k ids))) p.0 ∙ front_laid t ids k p.1

-- a field and what stands before it
field_within : (ss : Shapes) (k : ℕ) → leaves.leaves_before_field ss k + layouts.leaves (leaves.field ss k) ≤ layouts.all_leaves ss
field_within no_shapes k = omega arith
field_within (more_shapes s ss) zero = omega arith
field_within (more_shapes s ss) (suc k) = let rest = field_within ss k in omega (arith, rest)

-- an element or field and what stands before it
pub part_within : (s : Shape) (k : ℕ) → HasElement s k → leaves.leaves_before s k + layouts.leaves (leaves.element s k) ≤ layouts.leaves s
part_within (int_leaf w) k has = absurd has
part_within ptr_leaf k has = absurd has
part_within void_leaf k has = absurd has
part_within (opaque_leaf label) k has = absurd has
part_within (array_of n s) k has = elements_before n k (layouts.leaves s) has
part_within (struct_of label packed ss) k has = field_within ss k

field_laid : (ss : Shapes) (k : ℕ) → k < field_count ss → layouts.have_layouts ss ≡ true → layouts.has_layout (leaves.field ss k) ≡ true
field_laid no_shapes k lt h = absurd (omega arith)
field_laid (more_shapes s ss) zero lt h = (and_parts (layouts.has_layout s) (layouts.have_layouts ss) h).0
field_laid (more_shapes s ss) (suc k) lt h = field_laid ss k (omega arith) (and_parts (layouts.has_layout s) (layouts.have_layouts ss) h).1

pub part_laid : (s : Shape) (k : ℕ) → HasElement s k → layouts.has_layout s ≡ true → layouts.has_layout (leaves.element s k) ≡ true
part_laid (int_leaf w) k has h = absurd has
part_laid ptr_leaf k has h = absurd has
part_laid void_leaf k has h = absurd has
part_laid (opaque_leaf label) k has h = absurd has
part_laid (array_of n s) k has h = h
part_laid (struct_of label packed ss) k has h = field_laid ss k has h
