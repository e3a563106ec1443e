use Rattle.std.proofs.Common.{◌≡◌, ◌<◌, ℕ, List, Some, length, take, ap, sym, ◌∙◌, subst, arith}
use Rattle.run_rules.specs.Leaves as leaves
use Rattle.type_table.specs.Layout as layouts
use Rattle.type_table.specs.Shape.{Shape, array_of, struct_of}
use Rattle.run_names.specs.declared.shapes.form.TypeForm.TheVariants as form
use Rattle.run_names.specs.Shapes.Shapes.{HasElement, field_count, first_shape, made, shape_in, shapes_in}
use Rattle.run_names.proofs.OnShapes.Counted.{before_is, count_is, elements_before, front_laid, leaves_within, part_within}
use Rattle.run_names.proofs.OnShapes.Outlines.{array_laid, found_all, is_laid, laid_is, only_is}
use Rattle.run_names.proofs.types.part.leaves_before.Goals as goal

pub only_part-requires : goal.only_part-requires
only_part-requires c = ap length c.parts-parts.ensures.parts ∙ c.in-Array.ensures.count

pub leaves_of_elements-requires-clause-known : goal.leaves_of_elements-requires-clause-known
leaves_of_elements-requires-clause-known c =
    let t = c.args.types.now in
    found_all t (λ part. part < length t.types) c.parts-parts.result.now 0 (Some c.only_part.result) (sym c.only_part.ensures) c.parts-parts.ensures.known

pub leaves_of_elements-requires-clause-laid : goal.leaves_of_elements-requires-clause-laid
leaves_of_elements-requires-clause-laid c =
    let t = c.args.types.now in
    let is : shape_in t c.args.ty ≡ array_of c.in-Array._length (first_shape (shapes_in t c.parts-parts.result.now)) = c.in-Array.ensures.shape.is ∙ ap (λ (l : List ℕ). made c.in-Array.ensures.shape.label (form.Array c.in-Array._length) (shapes_in t l)) (sym c.parts-parts.ensures.parts) in
    let known : c.only_part.result < length t.types = found_all t (λ part. part < length t.types) c.parts-parts.result.now 0 (Some c.only_part.result) (sym c.only_part.ensures) c.parts-parts.ensures.known in
    is_laid t c.type_count-count.ensures.good c.type_count-count.ensures.within c.only_part.result known
    (array_laid t c.parts-parts.result.now (shape_in t c.args.ty) c.in-Array._length c.only_part.result is (laid_is t c.args.ty c.requires.laid) c.only_part.ensures)

pub leaves_of_elements-requires-clause-few : goal.leaves_of_elements-requires-clause-few
leaves_of_elements-requires-clause-few c =
    let t = c.args.types.now in
    let is : shape_in t c.args.ty ≡ array_of c.in-Array._length (first_shape (shapes_in t c.parts-parts.result.now)) = c.in-Array.ensures.shape.is ∙ ap (λ (l : List ℕ). made c.in-Array.ensures.shape.label (form.Array c.in-Array._length) (shapes_in t l)) (sym c.parts-parts.ensures.parts) in
    let one = only_is t c.parts-parts.result.now c.only_part.result c.only_part.ensures in
    let whole : shape_in t c.args.ty ≡ array_of c.in-Array._length (shape_in t c.only_part.result) = is ∙ ap (array_of c.in-Array._length) one in
    let has : c.args.index < c.in-Array._length = subst (λ (s : Shape). HasElement s c.args.index) whole c.requires.there in
    let most = elements_before c.in-Array._length c.args.index (layouts.leaves (shape_in t c.only_part.result)) has in
    let all = ap layouts.leaves whole in
    let few = c.requires.few in
    omega (arith, most, all, few)

pub returns-in-Array-clause-value : goal.returns-in-Array-clause-value
returns-in-Array-clause-value c =
    let t = c.args.types.now in
    let is : shape_in t c.args.ty ≡ array_of c.in-Array._length (first_shape (shapes_in t c.parts-parts.result.now)) = c.in-Array.ensures.shape.is ∙ ap (λ (l : List ℕ). made c.in-Array.ensures.shape.label (form.Array c.in-Array._length) (shapes_in t l)) (sym c.parts-parts.ensures.parts) in
    let one = only_is t c.parts-parts.result.now c.only_part.result c.only_part.ensures in
    c.leaves_of_elements.ensures ∙ ap (λ (s : Shape). leaves.leaves_before s c.args.index) (sym (is ∙ ap (array_of c.in-Array._length) one))

pub returns-in-Array-clause-within : goal.returns-in-Array-clause-within
returns-in-Array-clause-within c =
    let t = c.args.types.now in
    let most = part_within (shape_in t c.args.ty) c.args.index c.requires.there in
    let same = returns-in-Array-clause-value c in
    omega (arith, most, same)

pub front-requires : goal.front-requires
front-requires c =
    let t = c.args.types.now in
    let is : shape_in t c.args.ty ≡ struct_of c.in-Struct.ensures.shape.label c.in-Struct._packed (shapes_in t c.parts-parts.result.now) = c.in-Struct.ensures.shape.is ∙ ap (λ (l : List ℕ). made c.in-Struct.ensures.shape.label (form.Struct c.in-Struct._packed) (shapes_in t l)) (sym c.parts-parts.ensures.parts) in
    let has : c.args.index < field_count (shapes_in t c.parts-parts.result.now) = subst (λ (s : Shape). HasElement s c.args.index) is c.requires.there in
    let count = count_is t c.parts-parts.result.now in
    omega (arith, has, count)

pub leaves_of-requires-clause-laid : goal.leaves_of-requires-clause-laid
leaves_of-requires-clause-laid c =
    let t = c.args.types.now in
    let is : shape_in t c.args.ty ≡ struct_of c.in-Struct.ensures.shape.label c.in-Struct._packed (shapes_in t c.parts-parts.result.now) = c.in-Struct.ensures.shape.is ∙ ap (λ (l : List ℕ). made c.in-Struct.ensures.shape.label (form.Struct c.in-Struct._packed) (shapes_in t l)) (sym c.parts-parts.ensures.parts) in
    ap (λ (l : List ℕ). layouts.have_layouts (shapes_in t l)) c.front.ensures
    ∙ front_laid t c.parts-parts.result.now c.args.index (sym (ap layouts.has_layout is) ∙ laid_is t c.args.ty c.requires.laid)

pub leaves_of-requires-clause-few : goal.leaves_of-requires-clause-few
leaves_of-requires-clause-few c =
    let t = c.args.types.now in
    let is : shape_in t c.args.ty ≡ struct_of c.in-Struct.ensures.shape.label c.in-Struct._packed (shapes_in t c.parts-parts.result.now) = c.in-Struct.ensures.shape.is ∙ ap (λ (l : List ℕ). made c.in-Struct.ensures.shape.label (form.Struct c.in-Struct._packed) (shapes_in t l)) (sym c.parts-parts.ensures.parts) in
    let all : layouts.leaves (shape_in t c.args.ty) ≡ layouts.all_leaves (shapes_in t c.parts-parts.result.now) = ap layouts.leaves is in
    let same : layouts.all_leaves (shapes_in t c.front.result.now) ≡ layouts.all_leaves (shapes_in t (take c.args.index c.parts-parts.result.now)) = ap (λ (l : List ℕ). layouts.all_leaves (shapes_in t l)) c.front.ensures in
    let most = leaves_within t c.parts-parts.result.now c.args.index in
    let few = c.requires.few in
    omega (arith, all, same, most, few)

pub returns-in-Struct-clause-value : goal.returns-in-Struct-clause-value
returns-in-Struct-clause-value c =
    let t = c.args.types.now in
    let is : shape_in t c.args.ty ≡ struct_of c.in-Struct.ensures.shape.label c.in-Struct._packed (shapes_in t c.parts-parts.result.now) = c.in-Struct.ensures.shape.is ∙ ap (λ (l : List ℕ). made c.in-Struct.ensures.shape.label (form.Struct c.in-Struct._packed) (shapes_in t l)) (sym c.parts-parts.ensures.parts) in
    c.leaves_of.ensures
    ∙ ap (λ (l : List ℕ). layouts.all_leaves (shapes_in t l)) c.front.ensures
    ∙ sym (before_is t c.parts-parts.result.now c.args.index)
    ∙ ap (λ (s : Shape). leaves.leaves_before s c.args.index) (sym is)

pub returns-in-Struct-clause-within : goal.returns-in-Struct-clause-within
returns-in-Struct-clause-within c =
    let most = part_within (shape_in c.args.types.now c.args.ty) c.args.index c.requires.there in
    let same = returns-in-Struct-clause-value c in
    omega (arith, most, same)
