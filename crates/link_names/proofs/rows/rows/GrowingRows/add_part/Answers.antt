use Rattle.std.proofs.Common.{◌≡◌, ℕ, ◌+◌, [], ◌∷◌, ◌++◌, List, Some, length, refl, sym, ap, ◌∙◌, subst, slice_get, arith}
use Rattle.linkage_rules.specs.Ids.{modules}
use Rattle.type_table.specs.Types.{Types, names}
use Rattle.link_names.specs.Shapes.Shapes.{shapes_of}
use Rattle.link_names.specs.Structs.Shapes.{struct_shape}
use Rattle.link_names.specs.Structs.Walked.{Finds}
use Rattle.link_names.proofs.OnRows.Adding.{AreAdding, adding_all, adding_more, adding_none}
use Rattle.link_names.proofs.rows.rows.GrowingRows.add_part.Goals as goal

pub structs-init : goal.structs-init
structs-init c =
    let self = c.args.self.now in
    adding_none (modules c.args.parts.now) c.args.part c.types-from.result.now c.in_ok-walk.walk self c.new-numbers.result c.new-numbers.ensures c.requires.rows (c.in_ok-walk.ensures (shapes_of self.shapes))

pub struct_number-requires : goal.struct_number-requires
struct_number-requires c =
    let lt = c.structs-test.true in
    let many = c.struct_count-number-end.ensures in
    let id = c.new-id.ensures in
    record { known = omega (arith, lt, many, id); remembers = c.structs.invariant.remembers }

pub structs-preserved : goal.structs-preserved
structs-preserved c =
    let ps = c.args.parts.now in
    let part = c.args.part in
    let from = c.types-from.result.now in
    let table = c.types-from.ensures in
    let number = c.structs.number in
    let name = c.struct_name.result.now in
    let before = c.structs.self in
    let numbers = c.structs.numbers in
    let mid = c.struct_number.new.shapes in
    let walk = c.struct_number.new.self in
    let shape = c.in_ok-shape.shape in
    let row = c.in_ok-row.row in
    let now = c.row_of.new.self in
    let called = subst (λ (t : Types). slice_get (names t) number ≡ Some name) table (subst (λ (n : ℕ). slice_get (names from) n ≡ Some name) c.new-id.ensures c.struct_name.ensures) in
    let h = subst (λ (t : Types). AreAdding (modules ps) part number t c.structs.walk before numbers) table c.structs.invariant in
    let finds =
    subst (λ (t : Types). Finds t (shapes_of before.shapes) walk (shapes_of mid) shape (struct_shape t number)) table
    (subst (λ (n : ℕ). Finds from (shapes_of before.shapes) walk (shapes_of mid) shape (struct_shape from n)) c.new-id.ensures c.in_ok-shape.ensures) in
    subst (λ (l : List ℕ). AreAdding (modules ps) part (number + 1) from walk now l) (sym c.in_ok-push.ensures.ok)
    (subst (λ (t : Types). AreAdding (modules ps) part (number + 1) t walk now (numbers ++ row ∷ [])) (sym table)
    (adding_more ps part c.arena_of.result.now c.arena_of.ensures.arena number name called c.structs.walk walk before (record before { shapes = mid }) now numbers shape row h finds refl refl refl
    c.row_of.ensures.apart (ap shapes_of c.row_of.ensures.shapes) c.in_ok-row.ensures.found c.in_ok-row.ensures.here c.in_ok-row.ensures.new c.in_ok-row.ensures.old))

pub returns : goal.returns
returns c =
    let ps = c.args.parts.now in
    let a = c.arena_of.result.now in
    let many = c.struct_count-number-end.ensures in
    let end : c.structs.number ≡ length c.types-from.result.now.structs = omega (arith, c.structs-test.false, c.structs.auto.number-end, many) in
    let h = subst (λ (t : Types). AreAdding (modules ps) c.args.part c.structs.number t c.structs.walk c.structs.self c.structs.numbers) c.types-from.ensures c.structs.invariant in
    adding_all ps c.args.part a c.arena_of.ensures.arena c.structs.number c.structs.walk c.structs.self c.structs.numbers (end ∙ ap (λ (t : Types). length t.structs) c.types-from.ensures) h
