-- How large variables are, and how they are aligned.
use Rattle.std.proofs.Common.{◌≡◌, ℕ, ◌+◌, ◌-◌, ◌%◌, ◌^◌, ◌<◌, ◌≤◌, map, length, Bool, true, false, ◌&&◌, nat_eq, nat_le, nat_lt, cond, Option, Some, None, is_some, refl, sym, ap, ◌∙◌, subst, arith, ◌++◌, length-append}
use Rattle.std.specs.Prelude.{slice_get, unwrap_or, option_and_then, if◌then◌else◌}
use Rattle.std.specs.Int.{next_multiple_of}
use Rattle.std.specs.Option.{option_map, option_map_or}
use Rattle.std.proofs.lemmas.Bool.{and_parts, eqb-true, leb-true, ltb-false}
use Rattle.std.proofs.lemmas.List.{get_or-map, get_or_append_left, length-map}
use Rattle.std.proofs.lemmas.Option.{same_Some}
use Rattle.type_table.specs.declared.layout.Layout.{Layout}
use Rattle.type_table.specs.Layout.{layout, has_layout, size, align, greatest_align, int_align, leaves}
use Rattle.type_table.specs.Limits.{IsWithin, IsWithinLimits, all_shapes}
use Rattle.type_table.specs.Shape.{Shape, Shapes, int_leaf, ptr_leaf, void_leaf, opaque_leaf, array_of, struct_of, no_shapes, more_shapes}
use Rattle.type_table.specs.Shape as shapes
use Rattle.type_table.specs.Tree.{Structs, named, void}
use Rattle.type_table.specs.Types.{Types, names, trees, structs, tree, shape}
use Rattle.type_table.proofs.Added.{length-trees}
use Rattle.type_table.proofs.ShapeMeasures.{align-positive}
use Rattle.module_arena.specs.declared.entry.Variable.{Variable}
use Rattle.module_arena.specs.EntryRules as rules
use Rattle.module_arena.specs.Known.{Counts, first_excess}
use Rattle.module_arena.specs.Lists.{Lists}
use Rattle.module_arena.specs.TypeTests.{type_layout}
use Rattle.module_arena.specs.Valid.{IsValid}
use Rattle.module_arena.specs.View.{module_of, constant_at, constants_of}
use Rattle.module_arena.proofs.Parts.{valid_variable}
use Rattle.linkage_rules.proofs.ValidParts.{layout_size}
use Rattle.run_names.specs.declared.spot.Spot.{Spot}
use Rattle.run_names.specs.Spots.{defines, is_defined, size_of, align_of, spot_of, spot_at}
use Rattle.run_names.proofs.Listed.{all_at, some_passes}
use Rattle.run_names.proofs.Arena.{variable_seen, variable_there, structs_are}

none_excess : {A : Type 0} (b : Bool) (x : A) (o : Option A) → (if b then Some x else o) ≡ None → b ≡ false
none_excess true x o h = cc
none_excess false x o h = refl

-- an arena has at most so many variables
pub few_variables : (n : Counts) → first_excess n ≡ None → n.variables ≤ 262144
few_variables n h = ltb-false 262144 n.variables (none_excess (nat_lt 262144 n.variables) _ _ h)

-- ---- alignments

small_either : (b : Bool) (m n : ℕ) → m ≤ 16 → n ≤ 16 → cond b m n ≤ 16
small_either true m n p q = p
small_either false m n p q = q

int_align_small : (w : ℕ) → int_align w ≤ 16
int_align_small w =
    let up_to : (k j : ℕ) → k + j ≡ 16 → k ≤ 16 = λ k j e. omega (arith, e) in
    small_either (nat_le w 8) 1 _ (up_to 1 15 refl) (small_either (nat_le w 16) 2 _ (up_to 2 14 refl) (small_either (nat_le w 32) 4 _ (up_to 4 12 refl) (small_either (nat_le w 64) 8 16 (up_to 8 8 refl) (up_to 16 0 refl))))

mutual
  align_small : (s : Shape) → align s ≤ 16
  align_small (int_leaf w) = int_align_small w
  align_small ptr_leaf = omega arith
  align_small void_leaf = omega arith
  align_small (opaque_leaf l) = omega arith
  align_small (array_of n s) = align_small s
  align_small (struct_of l packed ss) = small_either packed 1 (greatest_align ss) (omega arith) (greatest_small ss)

  greatest_small : (ss : Shapes) → greatest_align ss ≤ 16
  greatest_small no_shapes = omega arith
  greatest_small (more_shapes s ss) = let p = align_small s in let q = greatest_small ss in omega (arith, p, q)

stated_bounded : (n : ℕ) → rules.is_alignment n ≡ true → (1 ≤ n) × (n ≤ 65536)
stated_bounded n h =
    let r = some_passes (nat_eq n) rules.alignments h in
    let is : n ≡ r.one = eqb-true n r.one r.passes in
    let p = and_parts (nat_le 1 r.one) (nat_le r.one 65536) (all_at (λ x. nat_le 1 x && nat_le x 65536) rules.alignments r.place r.one refl r.at) in
    let low = leb-true 1 r.one p.0 in
    let high = leb-true r.one 65536 p.1 in
    (omega (arith, is, low), omega (arith, is, high))

aligned : (o : Option ℕ) (s : Option Shape) → rules.alignment_suits o ≡ true → (1 ≤ unwrap_or o (option_map_or align s 1)) × (unwrap_or o (option_map_or align s 1) ≤ 65536)
aligned (Some n) s h = stated_bounded n h
aligned None None h = (omega arith, omega arith)
aligned None (Some s) h = let low = align-positive s in let high = align_small s in (omega (arith, low), omega (arith, high))

-- ---- sizes

shape_fits : (t : Types) → IsWithin t → (ty : ℕ) → ty < length t.types → IsWithinLimits (shape t ty)
shape_fits t within ty lt =
    let S = shapes.shape (structs t) in
    let all = trees t ++ map named (names t) in
    let count : length (trees t) ≡ length t.types = length-trees t in
    let inside : ty < length (trees t) = omega (arith, lt, count) in
    let longer : length all ≡ length (trees t) + length (map named (names t)) = length-append (trees t) (map named (names t)) in
    let there : ty < length all = omega (arith, inside, longer) in
    let mapped : length (all_shapes t) ≡ length all = length-map all S in
    subst IsWithinLimits (get_or-map S all ty void None there ∙ ap S (get_or_append_left (trees t) (map named (names t)) void ty inside)) (within.fits ty None (omega (arith, there, mapped)))

laid_small : (o : Option Shape) (l : Layout) → IsWithinLimits o → option_and_then layout o ≡ Some l → l.size ≤ 2 ^ 40
laid_small None l h e = absurd h
laid_small (Some s) l h e = go (has_layout s) refl e
  where
    go : (b : Bool) → has_layout s ≡ b → cond b (Some (record { size = size s; align = align s; leaves = leaves s })) None ≡ Some l → l.size ≤ 2 ^ 40
    go true q k = subst (λ (x : Layout). x.size ≤ 2 ^ 40) (same_Some (record { size = size s; align = align s; leaves = leaves s }) l k) (h.size_fits q)
    go false q k = cc

layout_align : (o : Option Shape) (l : Layout) → option_and_then layout o ≡ Some l → l.align ≡ option_map_or align o 1
layout_align None l h = cc
layout_align (Some s) l h = go (has_layout s) h
  where
    go : (b : Bool) → cond b (Some (record { size = size s; align = align s; leaves = leaves s })) None ≡ Some l → l.align ≡ align s
    go true e = ap (λ (x : Layout). x.align) (sym (same_Some (record { size = size s; align = align s; leaves = leaves s }) l e))
    go false e = cc

-- ---- of an arena

module _ (a : Lists) (n : ℕ) (v : Variable) (at : slice_get a.variables n ≡ Some v) where
  -- a defined variable lies in memory
  pub lies_in_memory : IsValid (module_of a) → defines a n ≡ true → is_some (option_and_then layout (shape a.table v.ty)) ≡ true
  lies_in_memory valid defined = by v.initialiser refl (and_parts (is_some v.initialiser) _ (sym (ap (λ o. option_map_or is_defined o false) at) ∙ defined)).0
    where
      suits : rules.variable_type_suits (module_of a).structs (tree a.table v.ty) (option_map (constant_at (constants_of a)) v.initialiser) ≡ true
      suits = (valid_variable (module_of a) n (variable_seen a v) valid (variable_there a n v at)).1.1.1.1.0

      by : (o : Option ℕ) → v.initialiser ≡ o → is_some o ≡ true → is_some (option_and_then layout (shape a.table v.ty)) ≡ true
      by None e d = cc
      by (Some c) e d =
          subst (λ (ss : Structs). is_some (type_layout ss (tree a.table v.ty)) ≡ true) (structs_are a)
          (and_parts _ _ (subst (λ (i : Option ℕ). rules.variable_type_suits (module_of a).structs (tree a.table v.ty) (option_map (constant_at (constants_of a)) i) ≡ true) e suits)).0

  pub alignment_bounded : IsValid (module_of a) → (1 ≤ align_of a v) × (align_of a v ≤ 65536)
  alignment_bounded valid = aligned v.alignment (shape a.table v.ty) (valid_variable (module_of a) n (variable_seen a v) valid (variable_there a n v at)).1.1.1.1.1.0

  module _ (l : Layout) (laid : option_and_then layout (shape a.table v.ty) ≡ Some l) where
    pub size_small : IsWithin a.table → v.ty < length a.table.types → l.size ≤ 2 ^ 40
    size_small within lt = laid_small (shape a.table v.ty) l (shape_fits a.table within v.ty lt) laid

    pub its_alignment : unwrap_or v.alignment l.align ≡ align_of a v
    its_alignment = ap (unwrap_or v.alignment) (layout_align (shape a.table v.ty) l laid)

    -- what is told of a variable that is put there
    pub spot_told : (next align_told start from_told : ℕ) → align_told ≡ unwrap_or v.alignment l.align → start ≡ next_multiple_of next from_told → from_told ≡ align_told
        → ◌≡◌ {A = Spot} (record { variable = n; start = start; size = l.size; align = align_told; constant = v.constant }) (spot_at a n next)
    spot_told next align_told start from_told stated is same_align =
        let sizes = layout_size (shape a.table v.ty) l laid in
        let aligns = stated ∙ its_alignment in
        let starts = is ∙ ap (next_multiple_of next) (same_align ∙ aligns) in
        told sizes aligns starts ∙ sym (ap (λ o. option_map_or (spot_of a n next) o (record { variable = n; start = next; size = 0; align = 1; constant = false })) at)
      where
        told : l.size ≡ size_of a v → align_told ≡ align_of a v → start ≡ next_multiple_of next (align_of a v) → ◌≡◌ {A = Spot} (record { variable = n; start = start; size = l.size; align = align_told; constant = v.constant }) (spot_of a n next v)
        told p q r = λ j. record { variable = n; start = r j; size = p j; align = q j; constant = v.constant }

-- a number rounded up is less than an alignment further
pub rounded_within : (next alignment start : ℕ) → start ≡ next_multiple_of next alignment → 1 ≤ alignment → alignment ≤ 65536 → start ≤ next + 65536
rounded_within next alignment start is low high =
    let below : (alignment - next % alignment) % alignment < alignment = omega (arith, low) in
    omega (arith, is, below, high)
