-- The shapes of the types of a table, by their forms and their parts.
use Rattle.std.proofs.Common.{◌≡◌, ℕ, zero, suc, ◌<◌, Bool, true, false, List, [], ◌∷◌, ◌++◌, Option, Some, None, map, length, get_or, is_some, ap, refl, sym, ◌∙◌, subst, arith, All, unwrap_or, true≢false}
use Rattle.std.specs.Prelude.{slice_get, option_and_then, IfSome, if◌then◌else◌}
use Rattle.std.specs.Option.{option_map, option_map_or}
use Rattle.std.proofs.lemmas.Bool.{and_parts}
use Rattle.std.proofs.lemmas.List.{get_or_append_left, get_or-map, get_or_default, length-append, length-map}
use Rattle.std.proofs.lemmas.Option.{get_or_from_slice_get, slice_get_within}
use Rattle.module_arena.specs.TypeTests.{lies_in_memory}
use Rattle.run_rules.specs.Leaves as leaves
use Rattle.type_table.specs.declared.ir_type.IrType.{IrType}
use Rattle.type_table.specs.declared.ir_type.IrType.TheVariants.{Int, Ptr, Void, Array, Struct, Named}
use Rattle.type_table.specs.declared.ir_type.StructBody.{StructBody}
use Rattle.type_table.specs.declared.ir_type.StructBody.TheVariants.{Opaque, Plain, Packed}
use Rattle.type_table.specs.declared.layout.Layout.{Layout}
use Rattle.type_table.specs.Layout as layouts
use Rattle.type_table.specs.Limits.{IsWithin, IsWithinLimits, Fits}
use Rattle.type_table.specs.Outline.{body_head, body_parts, type_head, type_parts, parts_of, type_nesting}
use Rattle.type_table.specs.Shape.{Label, Shape, void_leaf, opaque_leaf, array_of, struct_of, Shapes, no_shapes, more_shapes, expanded, all_expanded, name_shape}
use Rattle.type_table.specs.Shape as shapes
use Rattle.type_table.specs.Tree.{named, void, body_of}
use Rattle.type_table.specs.Types.{Types, IsGood, bodies, names, shape, structs, tree, trees, trees_at, tree_of}
use Rattle.type_table.proofs.Added.{length-trees}
use Rattle.type_table.proofs.Outlined.{listed, outlined, part_nesting, shape_head, shape_parts, tree-is}
use Rattle.type_table.proofs.Rooms.{HasShape, unjoined, unmapped}
use Rattle.run_names.specs.declared.shapes.form.TypeForm.{TypeForm}
use Rattle.run_names.specs.declared.shapes.form.TypeForm.TheVariants as form
use Rattle.run_names.specs.Shapes.Shapes.{HasCount, IsMade, body_form, elements_of, first_shape, laid_out, shape_in, shapes_in}

-- ---- types of a table

module _ (t : Types) (good : IsGood t) (within : IsWithin t) where
  pub fits_at : (ty : ℕ) → ty < length t.types → IsWithinLimits (shape t ty)
  fits_at ty lt =
      let many = length-trees t in
      let front : ty < length (trees t) = omega (arith, many, lt) in
      let both = length-append (trees t) (map named (names t)) in
      let all = length-map (trees t ++ map named (names t)) (shapes.shape (structs t)) in
      let here : ty < length (trees t ++ map named (names t)) = omega (arith, both, front) in
      subst IsWithinLimits
      (get_or-map (shapes.shape (structs t)) (trees t ++ map named (names t)) ty void None here
      ∙ ap (shapes.shape (structs t)) (get_or_append_left (trees t) (map named (names t)) void ty front))
      (within.fits ty None (omega (arith, all, here)))

  pub shape_there : (ty : ℕ) → ty < length t.types → HasShape (shape t ty)
  shape_there ty lt = go (shape t ty) refl (fits_at ty lt)
    where
      go : (o : Option Shape) → shape t ty ≡ o → IsWithinLimits o → HasShape (shape t ty)
      go None e h = absurd h
      go (Some x) e h = (x, e)

  pub shape_fits : (ty : ℕ) → ty < length t.types → Fits (shape_in t ty)
  shape_fits ty lt =
      let there = shape_there ty lt in
      subst (λ (s : Shape). Fits s) (sym (ap (λ (o : Option Shape). unwrap_or o void_leaf) there.1)) (subst IsWithinLimits there.1 (fits_at ty lt))

  -- the form of a type by what stands at it
  abbrev pub form_in : IrType → TypeForm
  form_in (Int w) = form.Int w
  form_in Ptr = form.Pointer
  form_in Void = form.Nothing
  form_in (Array n part) = form.Array n
  form_in (Struct packed parts) = form.Struct packed
  form_in (Named id) = body_form (get_or (bodies t) id None)

  body_count : (b : Option StructBody) (count : ℕ) → HasCount (body_form b) count
  body_count None count = tt
  body_count (Some Opaque) count = tt
  body_count (Some (Plain parts)) count = tt
  body_count (Some (Packed parts)) count = tt

  type_count : (T : IrType) → HasCount (form_in T) (length (type_parts (bodies t) T))
  type_count (Int w) = tt
  type_count Ptr = tt
  type_count Void = tt
  type_count (Array n part) = refl
  type_count (Struct packed parts) = tt
  type_count (Named id) = body_count (get_or (bodies t) id None) (length (body_parts (get_or (bodies t) id None)))

  here : (ty : ℕ) (T : IrType) → slice_get t.types ty ≡ Some T → get_or t.types ty Void ≡ T
  here ty T e = get_or_from_slice_get t.types ty T Void e

  -- where `look` gives the shapes of the names
  abbrev looked : List ℕ → Option Shape
  looked = name_shape (λ _. None) (body_of (structs t)) 64

  expanded_parts : (ids : List ℕ) (ss : Shapes) → all_expanded looked (trees_at (trees t) ids) ≡ Some ss → ss ≡ shapes_in t ids
  expanded_parts [] ss e = let y : no_shapes ≡ ss = cc in sym y
  expanded_parts (p ∷ ps) ss e =
      let inside = unjoined (shape t p) (all_expanded looked (trees_at (trees t) ps)) ss e in
      let first : inside.0 ≡ shape_in t p = sym (ap (λ (o : Option Shape). unwrap_or o void_leaf) inside.2) in
      let rest = expanded_parts ps inside.1 inside.3 in
      sym inside.4 ∙ (λ j. more_shapes (first j) (rest j))

  listed_is : (ss : Shapes) (ps : List ℕ) → listed ss ≡ map (shape t) ps → ss ≡ shapes_in t ps
  listed_is no_shapes [] e = refl
  listed_is no_shapes (p ∷ ps) e = absurd cc
  listed_is (more_shapes s ss) [] e = absurd cc
  listed_is (more_shapes s ss) (p ∷ ps) e =
      let first : Some s ≡ shape t p = cc in
      let rest : listed ss ≡ map (shape t) ps = cc in
      (λ j. more_shapes (ap (λ (o : Option Shape). unwrap_or o void_leaf) first j) (listed_is ss ps rest j))

  named_made : (x : Shape) (b : Option StructBody) (ps : List ℕ) → shape_head x ≡ body_head b → shape_parts x ≡ map (shape t) ps → IsMade (body_form b) (shapes_in t ps) x
  named_made (opaque_leaf label) None ps h p = record { label = label; is = refl }
  named_made (opaque_leaf label) (Some Opaque) ps h p = record { label = label; is = refl }
  named_made (struct_of label packed ss) (Some (Plain parts)) ps h p = let q : packed ≡ false = cc in record { label = label; is = λ j. struct_of label (q j) (listed_is ss ps p j) }
  named_made (struct_of label packed ss) (Some (Packed parts)) ps h p = let q : packed ≡ true = cc in record { label = label; is = λ j. struct_of label (q j) (listed_is ss ps p j) }
  named_made _ None ps h p = absurd cc
  named_made _ (Some Opaque) ps h p = absurd cc
  named_made _ (Some (Plain parts)) ps h p = absurd cc
  named_made _ (Some (Packed parts)) ps h p = absurd cc

  opened : (ty : ℕ) (T : IrType) → slice_get t.types ty ≡ Some T → shape t ty ≡ expanded looked (tree_of (names t) (trees t) T)
  opened ty T e = ap (expanded looked) (tree-is t good ty (slice_get_within t.types ty T e) ∙ ap (tree_of (names t) (trees t)) (here ty T e))

  -- what a type is by what stands at it
  pub form_here : (ty : ℕ) (T : IrType) → slice_get t.types ty ≡ Some T → IsMade (form_in T) (shapes_in t (type_parts (bodies t) T)) (shape_in t ty)
  form_here ty (Int w) e = record { label = None; is = ap (λ (o : Option Shape). unwrap_or o void_leaf) (opened ty (Int w) e) }
  form_here ty Ptr e = record { label = None; is = ap (λ (o : Option Shape). unwrap_or o void_leaf) (opened ty Ptr e) }
  form_here ty Void e = record { label = None; is = ap (λ (o : Option Shape). unwrap_or o void_leaf) (opened ty Void e) }
  form_here ty (Array n part) e =
      let there = shape_there ty (slice_get_within t.types ty (Array n part) e) in
      let inside = unmapped (array_of n) (shape t part) there.0 (sym (opened ty (Array n part) e) ∙ there.1) in
      record {
        label = None;
        is = ap (λ (o : Option Shape). unwrap_or o void_leaf) there.1 ∙ sym inside.2 ∙ ap (λ (o : Option Shape). array_of n (unwrap_or o void_leaf)) (sym inside.1);
      }
  form_here ty (Struct packed parts) e =
      let there = shape_there ty (slice_get_within t.types ty (Struct packed parts) e) in
      let inside = unmapped (struct_of None packed) (all_expanded looked (trees_at (trees t) parts)) there.0 (sym (opened ty (Struct packed parts) e) ∙ there.1) in
      record { label = None; is = ap (λ (o : Option Shape). unwrap_or o void_leaf) there.1 ∙ sym inside.2 ∙ ap (struct_of None packed) (expanded_parts parts inside.0 inside.1) }
  form_here ty (Named id) e =
      let lt = slice_get_within t.types ty (Named id) e in
      let there = shape_there ty lt in
      let out = outlined t good ty lt there.0 there.1 in
      let same = ap (λ (o : Option Shape). unwrap_or o void_leaf) there.1 in
      let got = named_made there.0 (get_or (bodies t) id None) (type_parts (bodies t) (Named id)) (out.1 ∙ ap (type_head (bodies t)) (here ty (Named id) e)) (out.2 ∙ ap (λ (U : IrType). map (shape t) (type_parts (bodies t) U)) (here ty (Named id) e)) in
      record { label = got.label; is = same ∙ got.is }

  pub count_here : (ty : ℕ) (T : IrType) → slice_get t.types ty ≡ Some T → HasCount (form_in T) (length (parts_of t ty))
  count_here ty T e = subst (λ (U : IrType). HasCount (form_in T) (length (type_parts (bodies t) U))) (sym (here ty T e)) (type_count T)

  pub parts_here : (ty : ℕ) (T : IrType) → slice_get t.types ty ≡ Some T → type_parts (bodies t) T ≡ parts_of t ty
  parts_here ty T e = ap (type_parts (bodies t)) (sym (here ty T e))

  -- of a named struct
  pub body_here : (id : ℕ) (b : Option StructBody) → slice_get (bodies t) id ≡ Some b → get_or (bodies t) id None ≡ b
  body_here id b e = get_or_from_slice_get (bodies t) id b None e

  pub nested_parts : (ty : ℕ) → ty < length t.types → All (λ part. type_nesting t part < type_nesting t ty) (parts_of t ty)
  nested_parts ty lt = λ k d l.
      subst (λ (n : ℕ). type_nesting t n < type_nesting t ty) (get_or_default (parts_of t ty) k 0 d l) (part_nesting t good ty lt (shape_there ty lt) k l)

  -- what lies in memory by its shape
  pub is_laid : (ty : ℕ) → ty < length t.types → layouts.has_layout (shape_in t ty) ≡ true → lies_in_memory (structs t) (tree t ty) ≡ true
  is_laid ty lt h =
      let there = shape_there ty lt in
      let same : shape_in t ty ≡ there.0 = ap (λ (o : Option Shape). unwrap_or o void_leaf) there.1 in
      let laid : layouts.has_layout there.0 ≡ true = ap layouts.has_layout (sym same) ∙ h in
      ap (λ (o : Option Shape). is_some (option_and_then layouts.layout o)) there.1
      ∙ ap (λ (b : Bool). is_some (if b then Some (laid_out there.0) else None)) laid

-- ---- layouts and fields

module _ (t : Types) where
  pub laid_is : (ty : ℕ) → lies_in_memory (structs t) (tree t ty) ≡ true → layouts.has_layout (shape_in t ty) ≡ true
  laid_is ty h = go (shape t ty) h
    where
      inner : (b : Bool) (l : Layout) → is_some (if b then Some l else None) ≡ true → b ≡ true
      inner true l k = refl
      inner false l k = absurd (true≢false (sym k))

      go : (o : Option Shape) → is_some (option_and_then layouts.layout o) ≡ true → layouts.has_layout (unwrap_or o void_leaf) ≡ true
      go None k = absurd (true≢false (sym k))
      go (Some s) k = inner (layouts.has_layout s) (laid_out s) k

  pub layout_is : (ty : ℕ) (l : Layout) → option_and_then layouts.layout (shape t ty) ≡ Some l → l ≡ laid_out (shape_in t ty)
  layout_is ty l e = go (shape t ty) e
    where
      inner : (b : Bool) (m : Layout) → (if b then Some m else None) ≡ Some l → l ≡ m
      inner true m k = let y : m ≡ l = cc in sym y
      inner false m k = cc

      go : (o : Option Shape) → option_and_then layouts.layout o ≡ Some l → l ≡ laid_out (unwrap_or o void_leaf)
      go None k = cc
      go (Some s) k = inner (layouts.has_layout s) (laid_out s) k

  -- ---- parts

  pub field_is : (ps : List ℕ) (k : ℕ) → option_map_or (shape_in t) (slice_get ps k) void_leaf ≡ leaves.field (shapes_in t ps) k
  field_is [] k = refl
  field_is (p ∷ ps) zero = refl
  field_is (p ∷ ps) (suc k) = field_is ps k

  pub all_laid : (ps : List ℕ) (k p : ℕ) → layouts.have_layouts (shapes_in t ps) ≡ true → slice_get ps k ≡ Some p → layouts.has_layout (shape_in t p) ≡ true
  all_laid [] k p h e = cc
  all_laid (q ∷ ps) zero p h e =
      let y : q ≡ p = cc in
      ap (λ (n : ℕ). layouts.has_layout (shape_in t n)) (sym y) ∙ (and_parts (layouts.has_layout (shape_in t q)) (layouts.have_layouts (shapes_in t ps)) h).0
  all_laid (q ∷ ps) (suc k) p h e = all_laid ps k p (and_parts (layouts.has_layout (shape_in t q)) (layouts.have_layouts (shapes_in t ps)) h).1 e

  -- the part of an array, and the parts of a struct

  first_is : (ss : Shapes) → leaves.field ss 0 ≡ first_shape ss
  first_is no_shapes = refl
  first_is (more_shapes s ss) = refl

  pub array_part : (ps : List ℕ) (s : Shape) (n i : ℕ) → s ≡ array_of n (first_shape (shapes_in t ps)) → option_map_or (shape_in t) (slice_get ps 0) void_leaf ≡ leaves.element s i
  array_part ps s n i e = field_is ps 0 ∙ first_is (shapes_in t ps) ∙ ap (λ (x : Shape). leaves.element x i) (sym e)

  pub struct_part : (ps : List ℕ) (s : Shape) (label : Label) (packed : Bool) (i : ℕ) → s ≡ struct_of label packed (shapes_in t ps) → option_map_or (shape_in t) (slice_get ps i) void_leaf ≡ leaves.element s i
  struct_part ps s label packed i e = field_is ps i ∙ ap (λ (x : Shape). leaves.element x i) (sym e)

  pub array_elements : (ps : List ℕ) (s : Shape) (n : ℕ) → s ≡ array_of n (first_shape (shapes_in t ps)) → length ps ≡ 1 → option_map (shape_in t) (slice_get ps 0) ≡ elements_of s
  array_elements [] s n e one = absurd (omega (arith, one))
  array_elements (p ∷ ps) s n e one = ap elements_of (sym e)

  -- what is found in a list has what all in it have
  pub found_all : (P : ℕ → Type 0) (ps : List ℕ) (k : ℕ) (o : Option ℕ) → o ≡ slice_get ps k → All P ps → IfSome o P
  found_all P ps k None e h = tt
  found_all P ps k (Some p) e h = subst P (get_or_from_slice_get ps k p p (sym e)) (h k p (slice_get_within ps k p (sym e)))

  -- the only part is the first
  pub only_is : (ps : List ℕ) (p : ℕ) → slice_get ps 0 ≡ Some p → first_shape (shapes_in t ps) ≡ shape_in t p
  only_is [] p e = cc
  only_is (q ∷ ps) p e = let y : q ≡ p = cc in ap (shape_in t) y

  pub array_laid : (ps : List ℕ) (s : Shape) (n p : ℕ) → s ≡ array_of n (first_shape (shapes_in t ps)) → layouts.has_layout s ≡ true → slice_get ps 0 ≡ Some p → layouts.has_layout (shape_in t p) ≡ true
  array_laid [] s n p e h f = cc
  array_laid (q ∷ ps) s n p e h f =
      let y : q ≡ p = cc in
      ap (λ (m : ℕ). layouts.has_layout (shape_in t m)) (sym y) ∙ ap layouts.has_layout (sym e) ∙ h

  pub struct_laid : (ps : List ℕ) (s : Shape) (label : Label) (packed : Bool) (k p : ℕ) → s ≡ struct_of label packed (shapes_in t ps) → layouts.has_layout s ≡ true → slice_get ps k ≡ Some p → layouts.has_layout (shape_in t p) ≡ true
  struct_laid ps s label packed k p e h f = all_laid ps k p (ap layouts.has_layout (sym e) ∙ h) f

-- a part that is found lies in memory where the whole does
pub found_laid : (t : Types) (good : IsGood t) (within : IsWithin t) (ty : ℕ) (ps : List ℕ) (k : ℕ) (o : Option ℕ) → o ≡ slice_get ps k → All (λ part. part < length t.types) ps
    → ((p : ℕ) → layouts.has_layout (shape_in t ty) ≡ true → slice_get ps k ≡ Some p → layouts.has_layout (shape_in t p) ≡ true)
    → lies_in_memory (structs t) (tree t ty) ≡ true → IfSome o (λ part. lies_in_memory (structs t) (tree t part) ≡ true)
found_laid t good within ty ps k None e known more laid = tt
found_laid t good within ty ps k (Some p) e known more laid =
    is_laid t good within p (found_all t (λ part. part < length t.types) ps k (Some p) e known) (more p (laid_is t ty laid) (sym e))
