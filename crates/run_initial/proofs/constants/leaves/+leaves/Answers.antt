use Rattle.std.proofs.Common.{◌<◌, length, map, refl, sym, ap, ◌∙◌, subst, arith}
use Rattle.ir_eval.specs.declared.value.Scalar.TheVariants as scalar
use Rattle.type_table.specs.Types.{Types, tree}
use Rattle.module_arena.specs.declared.constant.Const.TheVariants as const
use Rattle.module_arena.specs.declared.constant.TypedConst.{TypedConst}
use Rattle.module_arena.specs.View.{module_of}
use Rattle.run_rules.specs.Leaves.{poisons, zeros}
use Rattle.run_names.specs.Shapes.Shapes.{shape_in}
use Rattle.run_initial.specs.declared.constants.filled.Fill.TheVariants as fill
use Rattle.run_initial.specs.Constants.Filled.{filled}
use Rattle.run_initial.specs.Constants.Sound.{IsPart}
use Rattle.run_initial.proofs.OnConstants.Appended.{part_end, part_more, reworded}
use Rattle.run_initial.proofs.OnConstants.Fills.{filled_is}
use Rattle.run_initial.proofs.OnConstants.Held.{sound_as, value_as}
use Rattle.run_initial.proofs.OnConstants.LeafKinds.{shape_is}
use Rattle.run_initial.proofs.OnConstants.Lists.{value_of, values_of}
use Rattle.run_initial.proofs.OnConstants.Sounds.{all_parts, list_sound}
use Rattle.run_initial.proofs.OnConstants.Within.{below_top, item_has, top, top_within}
use Rattle.run_initial.proofs.constants.leaves.+leaves.Goals as goal

-- ---- parts

pub push_parts-push_leaves-requires : goal.push_parts-push_leaves-requires
push_parts-push_leaves-requires t c =
    let part = item_has (IsPart c.args.names.now) c.args.parts.now c.parts.part-index c.part-item.result c.parts-test.true c.part-item.is c.requires in
    let deep = below_top c.args.parts.now c.parts.part-index c.part-item.result c.parts-test.true in
    let same = ap (λ (p : TypedConst). p.value) c.part-item.is in
    (omega (arith, deep, same, c.decreases), (part.ty, (part.value, part.sound)))

pub push_parts-parts-preserved : goal.push_parts-parts-preserved
push_parts-parts-preserved t c =
    let a = c.args.names.now in
    part_more (values_of a) (value_of a) (λ x xs. refl) c.args.parts.now c.parts.part-index c.part-item.result _ _ _ c.parts-test.true c.part-item.is c.parts.invariant c.in_ok-push_leaves.ensures

pub push_parts-returns : goal.push_parts-returns
push_parts-returns t c =
    let a = c.args.names.now in
    part_end (values_of a) (value_of a) (λ x xs. refl) refl c.args.parts.now c.parts.part-index _ _ (omega arith) c.parts.invariant

-- ---- values that are filled alike

pub push_leaves-push_filled-requires : goal.push_leaves-push_filled-requires
push_leaves-push_filled-requires t c = subst (λ (x : Types). c.args.ty < length x.types) (sym c.types_of.ensures) c.requires.ty

pub push_leaves-returns-in-Undef : goal.push_leaves-returns-in-Undef
push_leaves-returns-in-Undef t c =
    let a = c.args.names.now in
    reworded _ _ _ _ _ c.push_filled.ensures
    (ap (λ (x : Types). filled fill.Zero (shape_in x c.args.ty)) c.types_of.ensures
    ∙ sym (filled_is fill.Zero (shape_in a.table c.args.ty))
    ∙ ap zeros (sym (shape_is a c.args.ty))
    ∙ value_as a c.args.id c.constant_at-known.result.now const.Undef c.constant_at-known.ensures.here c.in-Undef.is (tree a.table c.args.ty))

pub push_leaves-returns-in-ZeroInitializer : goal.push_leaves-returns-in-ZeroInitializer
push_leaves-returns-in-ZeroInitializer t c =
    let a = c.args.names.now in
    reworded _ _ _ _ _ c.push_filled-in-ZeroInitializer.ensures
    (ap (λ (x : Types). filled fill.Zero (shape_in x c.args.ty)) c.types_of-in-ZeroInitializer.ensures
    ∙ sym (filled_is fill.Zero (shape_in a.table c.args.ty))
    ∙ ap zeros (sym (shape_is a c.args.ty))
    ∙ value_as a c.args.id c.constant_at-known.result.now const.ZeroInitializer c.constant_at-known.ensures.here c.in-ZeroInitializer.is (tree a.table c.args.ty))

pub push_leaves-returns-in-Poison : goal.push_leaves-returns-in-Poison
push_leaves-returns-in-Poison t c =
    let a = c.args.names.now in
    reworded _ _ _ _ _ c.push_filled-in-Poison.ensures
    (ap (λ (x : Types). filled fill.Poison (shape_in x c.args.ty)) c.types_of-in-Poison.ensures
    ∙ sym (filled_is fill.Poison (shape_in a.table c.args.ty))
    ∙ ap poisons (sym (shape_is a c.args.ty))
    ∙ value_as a c.args.id c.constant_at-known.result.now const.Poison c.constant_at-known.ensures.here c.in-Poison.is (tree a.table c.args.ty))

-- ---- lists

pub push_leaves-returns-in-ByteString : goal.push_leaves-returns-in-ByteString
push_leaves-returns-in-ByteString t c =
    let a = c.args.names.now in
    reworded _ _ _ _ _ c.push_bytes.ensures
    (ap (map scalar.Int) c.bytes.ensures ∙ value_as a c.args.id c.constant_at-known.result.now (const.ByteString c.in-ByteString.bytes) c.constant_at-known.ensures.here c.in-ByteString.is (tree a.table c.args.ty))

pub push_leaves-push_parts-requires : goal.push_leaves-push_parts-requires
push_leaves-push_parts-requires t c =
    let a = c.args.names.now in
    let elements = c.in-Aggregate.elements in
    let known = rw c.in-Aggregate.is at c.constant_at-known.ensures.known in
    let high = top_within _ _ c.args.id known.typed_known in
    let same = ap top c.as_slice.ensures in
    let s = list_sound (module_of a) _ _ _ (sound_as a c.args.id c.constant_at-known.result.now (const.Aggregate c.in-Aggregate.field-0 elements) c.constant_at-known.ensures.here c.in-Aggregate.is (tree a.table c.args.ty) c.requires.sound) in
    (omega (arith, high, c.decreases, same), rw c.as_slice.ensures (all_parts a c.args.id elements c.requires.constant known.typed_known s))

pub push_leaves-returns-in-Aggregate : goal.push_leaves-returns-in-Aggregate
push_leaves-returns-in-Aggregate t c =
    let a = c.args.names.now in
    reworded _ _ _ _ _ c.push_parts.ensures
    (ap (values_of a) c.as_slice.ensures
    ∙ value_as a c.args.id c.constant_at-known.result.now (const.Aggregate c.in-Aggregate.field-0 c.in-Aggregate.elements) c.constant_at-known.ensures.here c.in-Aggregate.is (tree a.table c.args.ty))
