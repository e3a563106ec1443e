use Rattle.std.proofs.Common.{ℕ, ◌+◌, ◌<◌, All, List, [], ◌∷◌, ◌++◌, length, map, take, Some, None, refl, sym, ap, ◌∙◌, subst, arith}
use Rattle.std.specs.Prelude.{slice_index_or}
use Rattle.std.proofs.lemmas.Option.{get_or_from_slice_get}
use Rattle.type_table.specs.Shape.{int_leaf, ptr_leaf, void_leaf, array_of, struct_of}
use Rattle.type_table.specs.Types.{names}
use Rattle.link_names.specs.Shapes.Shapes.{leaf_of, shapes_at, shapes_of}
use Rattle.link_names.specs.Structs.Shapes.{AreNumbers, IsNumber, fields_shape, struct_shape, type_shape}
use Rattle.link_names.specs.Structs.Walked.{FindsAll}
use Rattle.link_names.proofs.OnStructs.Shaped.{array_depth, below_top, depth, fields_depth, fields_is, opaque_is, struct_shaped, top, type_is, type_knows, type_shaped}
use Rattle.link_names.proofs.OnStructs.Walking.{all_below_more, all_none, array_found, finds_all, finds_more, found_again, found_as, if_found, number_below, numbers_below, struct_found, struct_noted, type_noted, walked_none}
use Rattle.link_names.proofs.structs.walk.ShapeWalk.+walk.Goals as goal

-- ---- some types

pub part_numbers-parts-init : goal.part_numbers-parts-init
part_numbers-parts-init t c = all_none c.args.from.now c.args.self.now (shapes_of c.args.shapes.now) c.new-numbers.result.items c.args.parts.now c.new-numbers.ensures.items c.requires.remembers

pub part_numbers-type_number-requires : goal.part_numbers-type_number-requires
part_numbers-type_number-requires t c =
    let from = c.args.from.now in
    let ps = c.args.parts.now in
    let i = c.parts.part-index in
    let ty = c.part-item.result in
    let deep = below_top from ps i ty c.parts-test.true in
    let same = ap (λ n. depth (type_shape from n)) c.part-item.is in
    let bound = c.requires.known i ty c.parts-test.true in
    let is = c.part-item.is in
    (omega (arith, deep, same, c.decreases), (omega (arith, bound, is), c.parts.invariant.walked.remembers))

pub part_numbers-parts-preserved : goal.part_numbers-parts-preserved
part_numbers-parts-preserved t c =
    let from = c.args.from.now in
    let ps = c.args.parts.now in
    let i = c.parts.part-index in
    let so_far = c.parts.numbers.items in
    let is = c.in_ok-push.ensures.items ∙ ap (λ (n : ℕ). so_far ++ n ∷ []) c.new.ensures in
    subst (λ (ns : List ℕ). FindsAll from (shapes_of c.args.shapes.now) c.type_number.new.self (shapes_of c.type_number.new.shapes) ns (map (type_shape from) (take (i + 1) ps))) (sym is)
    (finds_more from (shapes_of c.args.shapes.now) (shapes_of c.parts.shapes) (shapes_of c.type_number.new.shapes) c.parts.self c.type_number.new.self
    so_far ps i c.part-item.result c.in_ok-number.number c.parts-test.true c.part-item.is c.parts.invariant c.in_ok-number.ensures)

pub part_numbers-returns : goal.part_numbers-returns
part_numbers-returns t c =
    subst (λ (ns : List ℕ). FindsAll c.args.from.now (shapes_of c.args.shapes.now) c.parts.self (shapes_of c.parts.shapes) ns (map (type_shape c.args.from.now) c.args.parts.now)) (sym c.from_vec.ensures)
    (finds_all c.args.from.now (shapes_of c.args.shapes.now) (shapes_of c.parts.shapes) c.parts.self c.parts.numbers.items c.args.parts.now c.parts.part-index c.parts-test.false c.parts.invariant)

-- ---- fields

pub fields_number-part_numbers-requires : goal.fields_number-part_numbers-requires
fields_number-part_numbers-requires t c =
    let from = c.args.from.now in
    let same = ap (top from) c.as_slice.ensures in (
      omega (arith, same, c.decreases),
      (subst (λ (ps : List ℕ). All (λ id. id < length from.types) ps) (sym c.as_slice.ensures) c.requires.known, c.requires.remembers),
    )

pub fields_number-kept_number-requires : goal.fields_number-kept_number-requires
fields_number-kept_number-requires t c =
    numbers_below (shapes_of c.part_numbers.new.shapes) c.in_ok-numbers.numbers (map (type_shape c.args.from.now) c.as_slice.result.now) c.in_ok-numbers.ensures.are

pub fields_number-returns : goal.fields_number-returns
fields_number-returns t c =
    let from = c.args.from.now in
    let mid = shapes_of c.part_numbers.new.shapes in
    let n = c.in_ok-numbers.numbers in
    let found = c.in_ok-numbers.ensures in
    let are = subst (λ (ps : List ℕ). AreNumbers mid n (map (type_shape from) ps)) c.as_slice.ensures found.are in
    if_found from (shapes_of c.args.shapes.now) mid (shapes_of c.kept_number.new.shapes) c.part_numbers.new.self (struct_of c.args.label c.args.packed (shapes_at mid n)) (fields_shape from c.args.label c.args.packed c.args.fields.now)
    c.kept_number.result found.walked c.kept_number.ensures (struct_found from mid c.args.label c.args.packed n c.args.fields.now are)

-- ---- types

pub written_number-returns-in-Int : goal.written_number-returns-in-Int
written_number-returns-in-Int t c =
    let from = c.args.from.now in
    let r = c.requires.remembers in
    let before = shapes_of c.args.shapes.now in
    if_found from before before (shapes_of c.kept_number.new.shapes) c.args.self.now (int_leaf c.in-Int.width) (type_shape from c.args.ty) c.kept_number.result (walked_none from c.args.self.now before r) c.kept_number.ensures
    (type_is from r.good r.within c.args.ty _ (c.get.ensures ∙ ap Some c.in-Int.is))

pub written_number-returns-in-Ptr : goal.written_number-returns-in-Ptr
written_number-returns-in-Ptr t c =
    let from = c.args.from.now in
    let r = c.requires.remembers in
    let before = shapes_of c.args.shapes.now in
    if_found from before before (shapes_of c.kept_number-in-Ptr.new.shapes) c.args.self.now ptr_leaf (type_shape from c.args.ty) c.kept_number-in-Ptr.result (walked_none from c.args.self.now before r) c.kept_number-in-Ptr.ensures
    (type_is from r.good r.within c.args.ty _ (c.get.ensures ∙ ap Some c.in-Ptr.is))

pub written_number-returns-in-Void : goal.written_number-returns-in-Void
written_number-returns-in-Void t c =
    let from = c.args.from.now in
    let r = c.requires.remembers in
    let before = shapes_of c.args.shapes.now in
    if_found from before before (shapes_of c.kept_number-in-Void.new.shapes) c.args.self.now void_leaf (type_shape from c.args.ty) c.kept_number-in-Void.result (walked_none from c.args.self.now before r) c.kept_number-in-Void.ensures
    (type_is from r.good r.within c.args.ty _ (c.get.ensures ∙ ap Some c.in-Void.is))

pub written_number-type_number-requires : goal.written_number-type_number-requires
written_number-type_number-requires t c =
    let from = c.args.from.now in
    let r = c.requires.remembers in
    let at = c.get.ensures ∙ ap Some c.in-Array.is in
    let lower = type_knows from r.good r.within c.args.ty _ at in
    let deep = array_depth from r.good r.within (type_shape from c.args.ty) (type_shape from c.in-Array.element) c.in-Array.length (type_shaped from r.good r.within c.args.ty c.requires.known) (type_is from r.good r.within c.args.ty _ at) in
    (omega (arith, deep, c.decreases), (omega (arith, lower, c.requires.known), r))

pub written_number-kept_number-requires-in-Array : goal.written_number-kept_number-requires-in-Array
written_number-kept_number-requires-in-Array t c =
    let mid = shapes_of c.type_number.new.shapes in
    (refl, subst (λ (n : ℕ). n < length mid) (sym c.new.ensures) (number_below mid c.in_ok-number-in-Array.number (type_shape c.args.from.now c.in-Array.element) c.in_ok-number-in-Array.ensures.is))

pub written_number-returns-in_ok-number-in-Array : goal.written_number-returns-in_ok-number-in-Array
written_number-returns-in_ok-number-in-Array t c =
    let from = c.args.from.now in
    let r = c.requires.remembers in
    let mid = shapes_of c.type_number.new.shapes in
    let n = c.new.result in
    let found = c.in_ok-number-in-Array.ensures in
    let is = subst (λ (k : ℕ). IsNumber mid k (type_shape from c.in-Array.element)) (sym c.new.ensures) found.is in
    if_found from (shapes_of c.args.shapes.now) mid (shapes_of c.kept_number-in-Array.new.shapes) c.type_number.new.self (array_of c.in-Array.length (slice_index_or mid n void_leaf)) (type_shape from c.args.ty)
    c.kept_number-in-Array.result found.walked c.kept_number-in-Array.ensures
    (type_is from r.good r.within c.args.ty _ (c.get.ensures ∙ ap Some c.in-Array.is) ∙ array_found mid c.in-Array.length n (type_shape from c.in-Array.element) is)

pub written_number-fields_number-requires : goal.written_number-fields_number-requires
written_number-fields_number-requires t c =
    let from = c.args.from.now in
    let r = c.requires.remembers in
    let at = c.get.ensures ∙ ap Some c.in-Struct.is in
    let lower = type_knows from r.good r.within c.args.ty _ at in
    let deep = fields_depth from r.good r.within (type_shape from c.args.ty) None c.in-Struct.packed c.in-Struct.fields (type_shaped from r.good r.within c.args.ty c.requires.known) (type_is from r.good r.within c.args.ty _ at) in (
      omega (arith, deep, c.decreases),
      (all_below_more c.in-Struct.fields c.args.ty (length from.types) (omega (arith, c.requires.known)) lower, r),
    )

pub written_number-returns-in-Struct : goal.written_number-returns-in-Struct
written_number-returns-in-Struct t c =
    let from = c.args.from.now in
    let r = c.requires.remembers in
    found_as from (shapes_of c.args.shapes.now) (shapes_of c.fields_number.new.shapes) c.fields_number.new.self (fields_shape from None c.in-Struct.packed c.in-Struct.fields) (type_shape from c.args.ty) c.fields_number.result
    (type_is from r.good r.within c.args.ty _ (c.get.ensures ∙ ap Some c.in-Struct.is)) c.fields_number.ensures

pub written_number-struct_number-requires : goal.written_number-struct_number-requires
written_number-struct_number-requires t c =
    let from = c.args.from.now in
    let r = c.requires.remembers in
    let at = c.get.ensures ∙ ap Some c.in-Named.is in
    let same = ap depth (type_is from r.good r.within c.args.ty _ at) in
    (omega (arith, same, c.decreases), (type_knows from r.good r.within c.args.ty _ at, r))

pub written_number-returns-in-Named : goal.written_number-returns-in-Named
written_number-returns-in-Named t c =
    let from = c.args.from.now in
    let r = c.requires.remembers in
    found_as from (shapes_of c.args.shapes.now) (shapes_of c.struct_number.new.shapes) c.struct_number.new.self (struct_shape from c.in-Named.id) (type_shape from c.args.ty) c.struct_number.result
    (type_is from r.good r.within c.args.ty _ (c.get.ensures ∙ ap Some c.in-Named.is)) c.struct_number.ensures

pub type_number-type_at-requires : goal.type_number-type_at-requires
type_number-type_at-requires t c = let count = c.requires.remembers.type_count in let known = c.requires.known in omega (arith, count, known)

pub type_number-returns-in-Some : goal.type_number-returns-in-Some
type_number-returns-in-Some t c =
    let from = c.args.from.now in
    let r = c.requires.remembers in
    found_again from c.args.self.now (shapes_of c.args.shapes.now) c.in-Some.number (type_shape from c.args.ty) r (r.types c.args.ty c.in-Some.number c.in-Some.ensures)

pub type_number-note_type-requires : goal.type_number-note_type-requires
type_number-note_type-requires t c = let count = c.in_ok-number.ensures.walked.remembers.type_count in let known = c.requires.known in omega (arith, count, known)

pub type_number-returns : goal.type_number-returns
type_number-returns t c =
    type_noted c.args.from.now (shapes_of c.args.shapes.now) (shapes_of c.written_number.new.shapes) c.written_number.new.self c.note_type.new.self c.args.ty c.in_ok-number.number c.in_ok-number.ensures c.note_type.ensures.types c.note_type.ensures.structs

-- ---- structs

pub body_number-returns-in-None : goal.body_number-returns-in-None
body_number-returns-in-None t c =
    let from = c.args.from.now in
    let r = c.requires.remembers in
    let label = c.in_ok-label.label in
    let called = c.in_ok-label.ensures ∙ ap Some (sym (get_or_from_slice_get (names from) c.args.id c.struct_name.result.now [] c.struct_name.ensures)) in
    let before = shapes_of c.args.shapes.now in
    if_found from before before (shapes_of c.kept_number.new.shapes) c.args.self.now (leaf_of label) (struct_shape from c.args.id) c.kept_number.result (walked_none from c.args.self.now before r) c.kept_number.ensures
    (opaque_is from r.good r.within c.args.id c.requires.known label called c.in-None.ensures.none)

pub body_number-fields_number-requires : goal.body_number-fields_number-requires
body_number-fields_number-requires t c =
    let from = c.args.from.now in
    let r = c.requires.remembers in
    let label = c.in_ok-label.label in
    let called = c.in_ok-label.ensures ∙ ap Some (sym (get_or_from_slice_get (names from) c.args.id c.struct_name.result.now [] c.struct_name.ensures)) in
    let is = fields_is from r.good r.within c.args.id c.requires.known label called c.in-Some.packed c.in-Some.fields.now c.in-Some.ensures.some in
    let deep = fields_depth from r.good r.within (struct_shape from c.args.id) label c.in-Some.packed c.in-Some.fields.now (struct_shaped from r.good r.within c.args.id c.requires.known) is in
    (omega (arith, deep, c.decreases), (c.in-Some.ensures.known, r))

pub body_number-returns-in-Some : goal.body_number-returns-in-Some
body_number-returns-in-Some t c =
    let from = c.args.from.now in
    let r = c.requires.remembers in
    let label = c.in_ok-label.label in
    let called = c.in_ok-label.ensures ∙ ap Some (sym (get_or_from_slice_get (names from) c.args.id c.struct_name.result.now [] c.struct_name.ensures)) in
    found_as from (shapes_of c.args.shapes.now) (shapes_of c.fields_number.new.shapes) c.fields_number.new.self (fields_shape from label c.in-Some.packed c.in-Some.fields.now) (struct_shape from c.args.id) c.fields_number.result
    (fields_is from r.good r.within c.args.id c.requires.known label called c.in-Some.packed c.in-Some.fields.now c.in-Some.ensures.some) c.fields_number.ensures

pub struct_number-struct_at-requires : goal.struct_number-struct_at-requires
struct_number-struct_at-requires t c = let count = c.requires.remembers.struct_count in let known = c.requires.known in omega (arith, count, known)

pub struct_number-returns-in-Some : goal.struct_number-returns-in-Some
struct_number-returns-in-Some t c =
    let from = c.args.from.now in
    let r = c.requires.remembers in
    found_again from c.args.self.now (shapes_of c.args.shapes.now) c.in-Some.number (struct_shape from c.args.id) r (r.structs c.args.id c.in-Some.number c.in-Some.ensures)

pub struct_number-note_struct-requires : goal.struct_number-note_struct-requires
struct_number-note_struct-requires t c = let count = c.in_ok-number.ensures.walked.remembers.struct_count in let known = c.requires.known in omega (arith, count, known)

pub struct_number-returns : goal.struct_number-returns
struct_number-returns t c =
    struct_noted c.args.from.now (shapes_of c.args.shapes.now) (shapes_of c.body_number.new.shapes) c.body_number.new.self c.note_struct.new.self c.args.id c.in_ok-number.number c.in_ok-number.ensures c.note_struct.ensures.structs c.note_struct.ensures.types
