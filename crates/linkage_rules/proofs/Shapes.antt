-- Shapes are equal where the test says so.
use Rattle.std.proofs.Common.{◌≡◌, Bool, true, false, ◌&&◌, Option, Some, None, refl, ap, ap₂, nat_eq}
use Rattle.std.proofs.lemmas.Cmp.{nat_eq_equiv}
use Rattle.std.proofs.lemmas.Bool.{and_from, and_parts, eqb-true}
use Rattle.type_table.specs.Shape.{Label, Shape, int_leaf, ptr_leaf, void_leaf, opaque_leaf, array_of, struct_of, Shapes, no_shapes, more_shapes}
use Rattle.linkage_rules.specs.SameShape.{agree, same_label, same_shape, same_shapes, alike}
use Rattle.linkage_rules.specs.SymbolLaws.{name_self, name_exact}

pub agree_self : (a : Bool) → agree a a ≡ true
agree_self true = refl
agree_self false = refl

pub agree_exact : (a b : Bool) → agree a b ≡ true → a ≡ b
agree_exact true true h = refl
agree_exact false false h = refl
agree_exact true false h = cc
agree_exact false true h = cc

label_self : (l : Label) → same_label l l ≡ true
label_self None = refl
label_self (Some n) = name_self n

label_exact : (l m : Label) → same_label l m ≡ true → l ≡ m
label_exact None None h = refl
label_exact (Some l) (Some m) h = ap Some (name_exact l m h)
label_exact None (Some m) h = cc
label_exact (Some l) None h = cc

mutual
  pub shape_self : (s : Shape) → same_shape s s ≡ true
  shape_self (int_leaf w) = nat_eq_equiv.refl w
  shape_self ptr_leaf = refl
  shape_self void_leaf = refl
  shape_self (opaque_leaf l) = label_self l
  shape_self (array_of n s) = and_from _ _ (nat_eq_equiv.refl n) (shape_self s)
  shape_self (struct_of l packed ss) = and_from _ _ (label_self l) (and_from _ _ (agree_self packed) (shapes_self ss))

  pub shapes_self : (ss : Shapes) → same_shapes ss ss ≡ true
  shapes_self no_shapes = refl
  shapes_self (more_shapes s ss) = and_from _ _ (shape_self s) (shapes_self ss)

mutual
  pub shape_exact : (s t : Shape) → same_shape s t ≡ true → s ≡ t
  shape_exact (int_leaf v) (int_leaf w) h = ap int_leaf (eqb-true v w h)
  shape_exact ptr_leaf ptr_leaf h = refl
  shape_exact void_leaf void_leaf h = refl
  shape_exact (opaque_leaf l) (opaque_leaf m) h = ap opaque_leaf (label_exact l m h)
  shape_exact (array_of m s) (array_of n t) h =
      let parts = and_parts (nat_eq m n) (same_shape s t) h in
      ap₂ array_of (eqb-true m n parts.0) (shape_exact s t parts.1)
  shape_exact (struct_of l p ss) (struct_of m q ts) h =
      let parts = and_parts (same_label l m) (agree p q && same_shapes ss ts) h in
      let others = and_parts (agree p q) (same_shapes ss ts) parts.1 in
      let labels = label_exact l m parts.0 in
      let packed = agree_exact p q others.0 in
      let inner = shapes_exact ss ts others.1 in
      λ i. struct_of (labels i) (packed i) (inner i)
  shape_exact s t h = cc

  pub shapes_exact : (ss ts : Shapes) → same_shapes ss ts ≡ true → ss ≡ ts
  shapes_exact no_shapes no_shapes h = refl
  shapes_exact (more_shapes s ss) (more_shapes t ts) h =
      let parts = and_parts (same_shape s t) (same_shapes ss ts) h in
      ap₂ more_shapes (shape_exact s t parts.0) (shapes_exact ss ts parts.1)
  shapes_exact no_shapes (more_shapes t ts) h = cc
  shapes_exact (more_shapes s ss) no_shapes h = cc

pub alike_self : (s : Option Shape) → alike s s ≡ true
alike_self None = refl
alike_self (Some s) = shape_self s

pub alike_exact : (s t : Option Shape) → alike s t ≡ true → s ≡ t
alike_exact None None h = refl
alike_exact (Some s) (Some t) h = ap Some (shape_exact s t h)
alike_exact None (Some t) h = cc
alike_exact (Some s) None h = cc
