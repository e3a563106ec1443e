-- One of some constants that stand one behind the other.
use Rattle.std.proofs.Common.{◌≡◌, ℕ, ◌+◌, ◌^◌, ◌<◌, ◌≤◌, All, List, ◌∷◌, length, drop, get_or, Bool, true, ◌&&◌, sym, ap, ◌∙◌, subst, arith}
use Rattle.std.proofs.lemmas.Bool.{and_parts}
use Rattle.std.proofs.lemmas.List.{at_drop_more, at_drop_all}
use Rattle.module_arena.specs.declared.constant.TypedConst.{TypedConst}
use Rattle.module_arena.specs.Lists.{Lists}
use Rattle.module_arena.specs.Module.{Constants, no_constants, more_constants}
use Rattle.module_arena.specs.TypeTests.{lies_in_memory}
use Rattle.type_table.specs.declared.layout.Layout.{Layout}
use Rattle.type_table.specs.Layout.{align, end_after, has_layout, have_layouts, field_start, size}
use Rattle.type_table.specs.Limits.{IsWithin}
use Rattle.type_table.specs.Shape.{Shape}
use Rattle.type_table.specs.Types.{IsGood, Types, structs, tree}
use Rattle.type_table.proofs.ShapeMeasures.{align-positive}
use Rattle.run_initial.proofs.OnConstants.LeafKinds.{shape_is}
use Rattle.run_initial.proofs.OnConstants.Within.{item_has}
use Rattle.run_initial.specs.Constants.Sound.{IsPart, constant_of, constants_with_types, names_of}
use Rattle.run_rules.specs.Constant.{shape_of}
use Rattle.run_names.specs.Shapes.Shapes.{laid_out, shape_in}
use Rattle.run_names.proofs.OnShapes.Outlines.{is_laid}
use Rattle.run_actions.proofs.OnSlots.Slotted.{field_ends}
use Rattle.run_initial.specs.Initial.Constants.{shapes_with}

-- none is left
pub none_left : (a : Lists) (parts : List TypedConst) (k : ℕ) → length parts ≤ k → constants_with_types a (drop k parts) ≡ no_constants
none_left a parts k le = at_drop_all (constants_with_types a) parts k le

module _ (a : Lists) (types : Types) (same : types ≡ a.table) (packed : Bool) (parts : List TypedConst) (k end whole : ℕ) (item : TypedConst) (lt : k < length parts) (is : item ≡ get_or parts k item)
    (laid : have_layouts (shapes_with (names_of a) (constants_with_types a (drop k parts))) ≡ true) (ends : end_after packed end (shapes_with (names_of a) (constants_with_types a (drop k parts))) ≡ whole) where
  abbrev pub others : Constants
  others = constants_with_types a (drop (k + 1) parts)

  abbrev pub here : Shape
  here = shape_of (names_of a) (tree a.table item.ty)

  -- it is the first of those that are left
  pub next : constants_with_types a (drop k parts) ≡ more_constants (tree a.table item.ty) (constant_of a item.value) others
  next = at_drop_more (constants_with_types a) parts k item lt ∙ ap (λ (x : TypedConst). constants_with_types a (x ∷ drop (k + 1) parts)) (sym is)

  both_laid : (has_layout here && have_layouts (shapes_with (names_of a) others)) ≡ true
  both_laid = ap (λ (cs : Constants). have_layouts (shapes_with (names_of a) cs)) (sym next) ∙ laid

  pub others_laid : have_layouts (shapes_with (names_of a) others) ≡ true
  others_laid = (and_parts (has_layout here) (have_layouts (shapes_with (names_of a) others)) both_laid).1

  here_is : shape_in types item.ty ≡ here
  here_is = ap (λ (t : Types). shape_in t item.ty) same ∙ sym (shape_is a item.ty)

  -- it lies in memory
  pub lies : All (IsPart a) parts → IsGood types → IsWithin types → (item.ty < length types.types) × (lies_in_memory (structs types) (tree types item.ty) ≡ true)
  lies all good within =
      let known = subst (λ (t : Types). item.ty < length t.types) (sym same) (item_has (IsPart a) parts k item lt is all).ty in
      (known, is_laid types good within item.ty known (ap has_layout here_is ∙ (and_parts (has_layout here) (have_layouts (shapes_with (names_of a) others)) both_laid).0))

  -- and ends where the whole ends, or before
  pub it_ends : field_start packed end (align here) + size here ≤ whole
  it_ends = field_ends packed here (shapes_with (names_of a) others) (shapes_with (names_of a) (constants_with_types a (drop k parts))) end whole ends (ap (shapes_with (names_of a)) next)

  pub others_end : end_after packed (field_start packed end (align here) + size here) (shapes_with (names_of a) others) ≡ whole
  others_end = ap (λ (cs : Constants). end_after packed end (shapes_with (names_of a) cs)) (sym next) ∙ ends

  module _ (layout : Layout) (told : layout ≡ laid_out (shape_in types item.ty)) where
    pub its_align : layout.align ≡ align here
    its_align = ap (λ (l : Layout). l.align) told ∙ ap align here_is

    pub its_size : layout.size ≡ size here
    its_size = ap (λ (l : Layout). l.size) told ∙ ap size here_is

    pub some_align : 1 ≤ layout.align
    some_align = subst (λ (n : ℕ). 1 ≤ n) (sym its_align) (align-positive here)

    pub room : (offset : ℕ) → offset + whole ≤ 2 ^ 40 → field_start packed end layout.align < 2 ^ 64
    room offset most =
        let ends_there = it_ends in
        let start = ap (field_start packed end) its_align in
        omega (arith, ends_there, start, most)
