use Rattle.std.proofs.Common.{◌≡◌, ℕ, ◌+◌, ◌^◌, ◌<◌, ◌≤◌, List, length, drop, zip, Ok, true, sym, ap, ◌∙◌, subst, arith}
use Rattle.ir_memory.specs.Given.{IsBlock}
use Rattle.type_table.specs.Layout.{end_after, has_layout, have_layouts, field_start, size}
use Rattle.type_table.specs.Shape.{Shape}
use Rattle.type_table.specs.Types.{Types, structs, tree}
use Rattle.module_arena.specs.declared.constant.Const.TheVariants as const
use Rattle.module_arena.specs.declared.constant.TypedConst.{TypedConst}
use Rattle.module_arena.specs.Module.{Constant}
use Rattle.module_arena.specs.TypeTests.{lies_in_memory}
use Rattle.module_arena.specs.View.{brackets_view, module_of}
use Rattle.run_initial.proofs.OnConstants.Held.{as_form, sound_as}
use Rattle.run_initial.proofs.OnConstants.LeafKinds.{shape_is}
use Rattle.run_initial.proofs.OnConstants.Sounds.{all_parts, list_sound}
use Rattle.run_initial.proofs.OnConstants.Within.{below_top, item_has, top, top_within}
use Rattle.run_initial.specs.Constants.Sound.{IsPart, constant_of, constants_with_types, names_of}
use Rattle.run_rules.specs.Constant.{constant_values, shape_of}
use Rattle.run_rules.specs.Leaves.{Slot, slots_at}
use Rattle.run_rules.specs.Plan.{Contents}
use Rattle.typed_runs.proofs.OnLook.Constants.{bytes_of}
use Rattle.run_names.specs.Shapes.Shapes.{shape_in}
use Rattle.run_names.proofs.OnShapes.Outlines.{laid_is}
use Rattle.run_initial.specs.Initial.Constants.{bytes_at, parts_at, shapes_with, value_at}
use Rattle.run_initial.specs.declared.constants.filled.Fill.TheVariants as fill
use Rattle.run_initial.specs.declared.initial.leaf.Target.{Target}
use Rattle.run_initial.specs.Initial.Fresh.{filled, is_packed, put}
use Rattle.run_initial.proofs.OnInitial.Lists.{bytes_is, bytes_size, list_made, parts_are, poison_is, undef_is, zero_is}
use Rattle.run_initial.proofs.OnInitial.Parts.{its_align, its_size, it_ends, lies, next, none_left, others_end, others_laid, room, some_align}
use Rattle.run_initial.proofs.OnInitial.Puts.{kept_on, part_end, part_more, part_refused, parts_next, refused_on, reworded}
use Rattle.run_initial.proofs.OnInitial.Sounds.{blocks, list_shape, values_typed}
use Rattle.run_initial.proofs.initial.constants.+constants.Goals as goal

-- ---- values that are filled alike

pub put_constant-put_filled-requires : goal.put_constant-put_filled-requires
put_constant-put_filled-requires t c =
    let ty = c.args.constant.ty in
    let e = sym c.types_of-types.ensures in
    record {
      known = subst (λ (x : Types). ty < length x.types) e c.requires.part.ty;
      laid = subst (λ (x : Types). lies_in_memory (structs x) (tree x ty) ≡ true) e c.requires.laid;
      ends = subst (λ (x : Types). c.args.target.offset + size (shape_in x ty) ≤ 2 ^ 40) e c.requires.ends;
      block = c.requires.block;
    }

pub put_constant-returns-in-Undef-clause-put : goal.put_constant-returns-in-Undef-clause-put
put_constant-returns-in-Undef-clause-put t c =
    let a = c.args.names.now in
    let ty = c.args.constant.ty in
    let at = c.args.target.offset in
    reworded c.put_filled.result c.args.target.block (filled fill.Zero (slots_at (shape_in c.types_of-types.result.now ty) at)) (value_at (names_of a) (tree a.table ty) (constant_of a c.args.constant.value) at) c.args.memory.now c.put_filled.new.memory c.put_filled.ensures.put
    (ap (λ (x : Types). filled fill.Zero (slots_at (shape_in x ty) at)) c.types_of-types.ensures
    ∙ ap (λ (s : Shape). filled fill.Zero (slots_at s at)) (sym (shape_is a ty))
    ∙ undef_is (names_of a) (tree a.table ty) at
    ∙ ap (λ (v : Constant). value_at (names_of a) (tree a.table ty) v at) (sym (as_form a c.args.constant.value c.constant_at-known.result.now const.Undef c.constant_at-known.ensures.here c.in-Undef.is)))

pub put_constant-returns-in-ZeroInitializer-clause-put : goal.put_constant-returns-in-ZeroInitializer-clause-put
put_constant-returns-in-ZeroInitializer-clause-put t c =
    let a = c.args.names.now in
    let ty = c.args.constant.ty in
    let at = c.args.target.offset in
    reworded c.put_filled-in-ZeroInitializer.result c.args.target.block (filled fill.Zero (slots_at (shape_in c.types_of-types.result.now ty) at)) (value_at (names_of a) (tree a.table ty) (constant_of a c.args.constant.value) at) c.args.memory.now c.put_filled-in-ZeroInitializer.new.memory c.put_filled-in-ZeroInitializer.ensures.put
    (ap (λ (x : Types). filled fill.Zero (slots_at (shape_in x ty) at)) c.types_of-types.ensures
    ∙ ap (λ (s : Shape). filled fill.Zero (slots_at s at)) (sym (shape_is a ty))
    ∙ zero_is (names_of a) (tree a.table ty) at
    ∙ ap (λ (v : Constant). value_at (names_of a) (tree a.table ty) v at) (sym (as_form a c.args.constant.value c.constant_at-known.result.now const.ZeroInitializer c.constant_at-known.ensures.here c.in-ZeroInitializer.is)))

pub put_constant-returns-in-Poison-clause-put : goal.put_constant-returns-in-Poison-clause-put
put_constant-returns-in-Poison-clause-put t c =
    let a = c.args.names.now in
    let ty = c.args.constant.ty in
    let at = c.args.target.offset in
    reworded c.put_filled-in-Poison.result c.args.target.block (filled fill.Poison (slots_at (shape_in c.types_of-types.result.now ty) at)) (value_at (names_of a) (tree a.table ty) (constant_of a c.args.constant.value) at) c.args.memory.now c.put_filled-in-Poison.new.memory c.put_filled-in-Poison.ensures.put
    (ap (λ (x : Types). filled fill.Poison (slots_at (shape_in x ty) at)) c.types_of-types.ensures
    ∙ ap (λ (s : Shape). filled fill.Poison (slots_at s at)) (sym (shape_is a ty))
    ∙ poison_is (names_of a) (tree a.table ty) at
    ∙ ap (λ (v : Constant). value_at (names_of a) (tree a.table ty) v at) (sym (as_form a c.args.constant.value c.constant_at-known.result.now const.Poison c.constant_at-known.ensures.here c.in-Poison.is)))

pub put_constant-put_filled-requires-in-ZeroInitializer-clause-laid : goal.put_constant-put_filled-requires-in-ZeroInitializer-clause-laid
put_constant-put_filled-requires-in-ZeroInitializer-clause-laid t c = subst (λ (x : Types). lies_in_memory (structs x) (tree x c.args.constant.ty) ≡ true) (sym c.types_of-types.ensures) c.requires.laid

pub put_constant-put_filled-requires-in-ZeroInitializer-clause-ends : goal.put_constant-put_filled-requires-in-ZeroInitializer-clause-ends
put_constant-put_filled-requires-in-ZeroInitializer-clause-ends t c = subst (λ (x : Types). c.args.target.offset + size (shape_in x c.args.constant.ty) ≤ 2 ^ 40) (sym c.types_of-types.ensures) c.requires.ends

pub put_constant-put_filled-requires-in-Poison-clause-laid : goal.put_constant-put_filled-requires-in-Poison-clause-laid
put_constant-put_filled-requires-in-Poison-clause-laid t c = subst (λ (x : Types). lies_in_memory (structs x) (tree x c.args.constant.ty) ≡ true) (sym c.types_of-types.ensures) c.requires.laid

pub put_constant-put_filled-requires-in-Poison-clause-ends : goal.put_constant-put_filled-requires-in-Poison-clause-ends
put_constant-put_filled-requires-in-Poison-clause-ends t c = subst (λ (x : Types). c.args.target.offset + size (shape_in x c.args.constant.ty) ≤ 2 ^ 40) (sym c.types_of-types.ensures) c.requires.ends

-- ---- bytes

pub put_constant-put_bytes-requires : goal.put_constant-put_bytes-requires
put_constant-put_bytes-requires t c =
    let a = c.args.names.now in
    let ty = c.args.constant.ty in
    let bytes = c.in-ByteString.bytes in
    let s = sound_as a c.args.constant.value c.constant_at-known.result.now (const.ByteString bytes) c.constant_at-known.ensures.here c.in-ByteString.is (tree a.table ty) c.requires.part.sound in
    let long = bytes_size (names_of a) (tree a.table ty) (length bytes) (bytes_of (length bytes) (tree a.table ty) s.fits) in
    let same = ap size (shape_is a ty) in
    let read = ap length c.bytes.ensures in
    let ends = c.requires.ends in
    record { ends = omega (arith, long, same, read, ends); block = c.requires.block }

pub put_constant-returns-in-ByteString-clause-put : goal.put_constant-returns-in-ByteString-clause-put
put_constant-returns-in-ByteString-clause-put t c =
    let a = c.args.names.now in
    let ty = c.args.constant.ty in
    let at = c.args.target.offset in
    let bytes = c.in-ByteString.bytes in
    let s = sound_as a c.args.constant.value c.constant_at-known.result.now (const.ByteString bytes) c.constant_at-known.ensures.here c.in-ByteString.is (tree a.table ty) c.requires.part.sound in
    reworded c.put_bytes.result c.args.target.block (bytes_at at c.bytes.result.now) (value_at (names_of a) (tree a.table ty) (constant_of a c.args.constant.value) at) c.args.memory.now c.put_bytes.new.memory c.put_bytes.ensures.put
    (ap (bytes_at at) c.bytes.ensures
    ∙ bytes_is (names_of a) (tree a.table ty) bytes at (bytes_of (length bytes) (tree a.table ty) s.fits)
    ∙ ap (λ (v : Constant). value_at (names_of a) (tree a.table ty) v at) (sym (as_form a c.args.constant.value c.constant_at-known.result.now (const.ByteString bytes) c.constant_at-known.ensures.here c.in-ByteString.is)))

-- ---- lists

pub put_constant-is_packed-requires : goal.put_constant-is_packed-requires
put_constant-is_packed-requires t c = subst (λ (x : Types). c.args.constant.ty < length x.types) (sym c.types_of-types.ensures) c.requires.part.ty

pub put_constant-put_constants-requires : goal.put_constant-put_constants-requires
put_constant-put_constants-requires t c =
    let a = c.args.names.now in
    let id = c.args.constant.value in
    let ty = c.args.constant.ty in
    let elements = c.in-Aggregate.parts in
    let cs = constants_with_types a elements in
    let known = rw c.in-Aggregate.is at c.constant_at-known.ensures.known in
    let high = top_within _ _ id known.typed_known in
    let same = ap top c.as_slice.ensures in
    let s = sound_as a id c.constant_at-known.result.now (const.Aggregate c.in-Aggregate.field-0 elements) c.constant_at-known.ensures.here c.in-Aggregate.is (tree a.table ty) c.requires.part.sound in
    let made = list_made (names_of a) (tree a.table ty) (brackets_view c.in-Aggregate.field-0) cs (list_shape a (tree a.table ty) (brackets_view c.in-Aggregate.field-0) cs s) s.fits in
    let packed = c.is_packed.ensures ∙ ap (λ (x : Types). is_packed (shape_in x ty)) c.types_of-types.ensures ∙ ap is_packed (sym (shape_is a ty)) in
    let ends = subst (λ b. end_after b 0 (shapes_with (names_of a) cs) ≤ size (shape_of (names_of a) (tree a.table ty))) (sym packed) made.ends in
    let long = ap size (shape_is a ty) in
    let room = c.requires.ends in
    let laid = made.laid (ap has_layout (shape_is a ty) ∙ laid_is a.table ty c.requires.laid) in (
      omega (arith, high, c.decreases, same),
      (
        rw c.as_slice.ensures (all_parts a id elements c.requires.part.value known.typed_known (list_sound (module_of a) (tree a.table ty) (brackets_view c.in-Aggregate.field-0) cs s)),
        (
          subst (λ (l : List TypedConst). have_layouts (shapes_with (names_of a) (constants_with_types a l)) ≡ true) (sym c.as_slice.ensures) laid,
          (
            subst (λ (l : List TypedConst). c.args.target.offset + end_after c.is_packed.result 0 (shapes_with (names_of a) (constants_with_types a l)) ≤ 2 ^ 40) (sym c.as_slice.ensures) (omega (arith, ends, long, room)),
            (c.requires.block, c.requires.variables),
          ),
        ),
      ),
    )

pub put_constant-returns-in-Aggregate-clause-put : goal.put_constant-returns-in-Aggregate-clause-put
put_constant-returns-in-Aggregate-clause-put t c =
    let a = c.args.names.now in
    let id = c.args.constant.value in
    let ty = c.args.constant.ty in
    let at = c.args.target.offset in
    let elements = c.in-Aggregate.parts in
    let cs = constants_with_types a elements in
    let s = sound_as a id c.constant_at-known.result.now (const.Aggregate c.in-Aggregate.field-0 elements) c.constant_at-known.ensures.here c.in-Aggregate.is (tree a.table ty) c.requires.part.sound in
    let made = list_made (names_of a) (tree a.table ty) (brackets_view c.in-Aggregate.field-0) cs (list_shape a (tree a.table ty) (brackets_view c.in-Aggregate.field-0) cs s) s.fits in
    let packed = c.is_packed.ensures ∙ ap (λ (x : Types). is_packed (shape_in x ty)) c.types_of-types.ensures ∙ ap is_packed (sym (shape_is a ty)) in
    reworded c.put_constants.result c.args.target.block (parts_at (names_of a) c.is_packed.result at 0 (constants_with_types a c.as_slice.result.now)) (value_at (names_of a) (tree a.table ty) (constant_of a id) at) c.args.memory.now c.put_constants.new.memory c.put_constants.ensures.put
    (ap (λ (l : List TypedConst). parts_at (names_of a) c.is_packed.result at 0 (constants_with_types a l)) c.as_slice.ensures
    ∙ ap (λ b. parts_at (names_of a) b at 0 cs) packed
    ∙ parts_are (names_of a) (blocks a) (is_packed (shape_of (names_of a) (tree a.table ty))) at 0 cs (values_typed a cs (list_sound (module_of a) (tree a.table ty) (brackets_view c.in-Aggregate.field-0) cs s))
    ∙ ap (λ (l : List Slot). zip l (constant_values (names_of a) cs)) (made.slots at)
    ∙ ap (λ (v : Constant). value_at (names_of a) (tree a.table ty) v at) (sym (as_form a id c.constant_at-known.result.now (const.Aggregate c.in-Aggregate.field-0 elements) c.constant_at-known.ensures.here c.in-Aggregate.is)))

-- ---- parts

pub put_constants-layout_of-layout-requires : goal.put_constants-layout_of-layout-requires
put_constants-layout_of-layout-requires t c =
    let it = lies c.args.names.now c.types_of-types.result.now c.types_of-types.ensures c.args.packed c.args.parts.now c.parts.part-index c.parts.end _ c.part-item.result c.parts-test.true c.part-item.is c.parts.invariant.laid c.parts.invariant.end
    c.requires.parts c.type_count-count.ensures.good c.type_count-count.ensures.within in
    record { known = it.0; laid = it.1 }

pub put_constants-start_of-start-requires : goal.put_constants-start_of-start-requires
put_constants-start_of-start-requires t c = record {
  some = some_align c.args.names.now c.types_of-types.result.now c.types_of-types.ensures c.args.packed c.args.parts.now c.parts.part-index c.parts.end _ c.part-item.result c.parts-test.true c.part-item.is c.parts.invariant.laid c.parts.invariant.end
      c.layout_of-layout.result c.layout_of-layout.ensures;
  room = room c.args.names.now c.types_of-types.result.now c.types_of-types.ensures c.args.packed c.args.parts.now c.parts.part-index c.parts.end _ c.part-item.result c.parts-test.true c.part-item.is c.parts.invariant.laid c.parts.invariant.end
      c.layout_of-layout.result c.layout_of-layout.ensures c.args.target.offset c.requires.ends;
}

pub put_constants-further-requires : goal.put_constants-further-requires
put_constants-further-requires t c =
    let ends = it_ends c.args.names.now c.types_of-types.result.now c.types_of-types.ensures c.args.packed c.args.parts.now c.parts.part-index c.parts.end _ c.part-item.result c.parts-test.true c.part-item.is c.parts.invariant.laid c.parts.invariant.end in
    let align = its_align c.args.names.now c.types_of-types.result.now c.types_of-types.ensures c.args.packed c.args.parts.now c.parts.part-index c.parts.end _ c.part-item.result c.parts-test.true c.part-item.is c.parts.invariant.laid c.parts.invariant.end
    c.layout_of-layout.result c.layout_of-layout.ensures in
    let start = c.start_of-start.ensures ∙ ap (field_start c.args.packed c.parts.end) align in
    let most = c.requires.ends in
    omega (arith, ends, start, most)

pub put_constants-overflow_add-end : goal.put_constants-overflow_add-end
put_constants-overflow_add-end t c =
    let ends = it_ends c.args.names.now c.types_of-types.result.now c.types_of-types.ensures c.args.packed c.args.parts.now c.parts.part-index c.parts.end _ c.part-item.result c.parts-test.true c.part-item.is c.parts.invariant.laid c.parts.invariant.end in
    let align = its_align c.args.names.now c.types_of-types.result.now c.types_of-types.ensures c.args.packed c.args.parts.now c.parts.part-index c.parts.end _ c.part-item.result c.parts-test.true c.part-item.is c.parts.invariant.laid c.parts.invariant.end
    c.layout_of-layout.result c.layout_of-layout.ensures in
    let long = its_size c.args.names.now c.types_of-types.result.now c.types_of-types.ensures c.args.packed c.args.parts.now c.parts.part-index c.parts.end _ c.part-item.result c.parts-test.true c.part-item.is c.parts.invariant.laid c.parts.invariant.end
    c.layout_of-layout.result c.layout_of-layout.ensures in
    let start = c.start_of-start.ensures ∙ ap (field_start c.args.packed c.parts.end) align in
    let most = c.requires.ends in
    omega (arith, ends, start, long, most)

pub put_constants-put_constant-requires : goal.put_constants-put_constant-requires
put_constants-put_constant-requires t c =
    let a = c.args.names.now in
    let item = c.part-item.result in
    let ends = it_ends a c.types_of-types.result.now c.types_of-types.ensures c.args.packed c.args.parts.now c.parts.part-index c.parts.end _ item c.parts-test.true c.part-item.is c.parts.invariant.laid c.parts.invariant.end in
    let align = its_align a c.types_of-types.result.now c.types_of-types.ensures c.args.packed c.args.parts.now c.parts.part-index c.parts.end _ item c.parts-test.true c.part-item.is c.parts.invariant.laid c.parts.invariant.end
    c.layout_of-layout.result c.layout_of-layout.ensures in
    let it = lies a c.types_of-types.result.now c.types_of-types.ensures c.args.packed c.args.parts.now c.parts.part-index c.parts.end _ item c.parts-test.true c.part-item.is c.parts.invariant.laid c.parts.invariant.end
    c.requires.parts c.type_count-count.ensures.good c.type_count-count.ensures.within in
    let start = c.start_of-start.ensures ∙ ap (field_start c.args.packed c.parts.end) align in
    let there = ap (λ (x : Target). x.offset) c.further.ensures in
    let long = ap size (shape_is a item.ty) in
    let most = c.requires.ends in
    let count = c.parts.invariant.kept.0 in
    let enough = c.requires.variables in
    let deep = below_top c.args.parts.now c.parts.part-index item c.parts-test.true in
    let same = ap (λ (x : TypedConst). x.value) c.part-item.is in (
      omega (arith, deep, same, c.decreases),
      (
        item_has (IsPart a) c.args.parts.now c.parts.part-index item c.parts-test.true c.part-item.is c.requires.parts,
        (
          subst (λ (x : Types). lies_in_memory (structs x) (tree x item.ty) ≡ true) c.types_of-types.ensures it.1,
          (
            omega (arith, ends, start, there, long, most),
            (
              subst (λ (x : Target). IsBlock (length c.parts.memory.list) x.block.block) (sym c.further.ensures) (subst (λ (n : ℕ). IsBlock n c.args.target.block.block) (sym count) c.requires.block),
              omega (arith, count, enough),
            ),
          ),
        ),
      ),
    )

pub put_constants-parts-preserved : goal.put_constants-parts-preserved
put_constants-parts-preserved t c =
    let a = c.args.names.now in
    let item = c.part-item.result in
    let at = c.args.target.offset in
    let n = next a c.types_of-types.result.now c.types_of-types.ensures c.args.packed c.args.parts.now c.parts.part-index c.parts.end _ item c.parts-test.true c.part-item.is c.parts.invariant.laid c.parts.invariant.end in
    let align = its_align a c.types_of-types.result.now c.types_of-types.ensures c.args.packed c.args.parts.now c.parts.part-index c.parts.end _ item c.parts-test.true c.part-item.is c.parts.invariant.laid c.parts.invariant.end
    c.layout_of-layout.result c.layout_of-layout.ensures in
    let long = its_size a c.types_of-types.result.now c.types_of-types.ensures c.args.packed c.args.parts.now c.parts.part-index c.parts.end _ item c.parts-test.true c.part-item.is c.parts.invariant.laid c.parts.invariant.end
    c.layout_of-layout.result c.layout_of-layout.ensures in
    let start = c.start_of-start.ensures ∙ ap (field_start c.args.packed c.parts.end) align in
    let others = constants_with_types a (drop (c.parts.part-index + 1) c.args.parts.now) in
    let stored = subst (λ (x : Target). put x.block (value_at (names_of a) (tree a.table item.ty) (constant_of a item.value) x.offset) c.parts.memory ≡ Ok c.put_constant.new.memory) c.further.ensures c.in_ok-put_constant.ensures.put in
    record {
      put =
          ap (λ (k : ℕ). put c.args.target.block (parts_at (names_of a) c.args.packed at (c.start_of-start.result + k) others) c.put_constant.new.memory) long
          ∙ part_more c.args.target.block (value_at (names_of a) (tree a.table item.ty) (constant_of a item.value) (at + c.start_of-start.result))
          (parts_at (names_of a) c.args.packed at (c.start_of-start.result + size (shape_of (names_of a) (tree a.table item.ty))) others)
          (parts_at (names_of a) c.args.packed at c.parts.end (constants_with_types a (drop c.parts.part-index c.args.parts.now))) c.parts.memory c.put_constant.new.memory
          (put c.args.target.block (parts_at (names_of a) c.args.packed at 0 (constants_with_types a c.args.parts.now)) c.args.memory.now)
          (parts_next (names_of a) (tree a.table item.ty) (constant_of a item.value) others (constants_with_types a (drop c.parts.part-index c.args.parts.now)) c.args.packed at c.parts.end c.start_of-start.result n start) c.parts.invariant.put stored;
      end =
          ap (λ (k : ℕ). end_after c.args.packed (c.start_of-start.result + k) (shapes_with (names_of a) others)) long
          ∙ ap (λ (k : ℕ). end_after c.args.packed (k + size (shape_of (names_of a) (tree a.table item.ty))) (shapes_with (names_of a) others)) start
          ∙ others_end a c.types_of-types.result.now c.types_of-types.ensures c.args.packed c.args.parts.now c.parts.part-index c.parts.end _ item c.parts-test.true c.part-item.is c.parts.invariant.laid c.parts.invariant.end;
      laid = others_laid a c.types_of-types.result.now c.types_of-types.ensures c.args.packed c.args.parts.now c.parts.part-index c.parts.end _ item c.parts-test.true c.part-item.is c.parts.invariant.laid c.parts.invariant.end;
      kept = kept_on c.args.memory.now c.parts.memory c.put_constant.new.memory c.parts.invariant.kept c.in_ok-put_constant.ensures.kept;
    }

pub put_constants-returns-clause-put : goal.put_constants-returns-clause-put
put_constants-returns-clause-put t c =
    let a = c.args.names.now in
    part_end c.args.target.block (parts_at (names_of a) c.args.packed c.args.target.offset c.parts.end (constants_with_types a (drop c.parts.part-index c.args.parts.now))) c.parts.memory
    (put c.args.target.block (parts_at (names_of a) c.args.packed c.args.target.offset 0 (constants_with_types a c.args.parts.now)) c.args.memory.now)
    (ap (parts_at (names_of a) c.args.packed c.args.target.offset c.parts.end) (none_left a c.args.parts.now c.parts.part-index c.parts-test.false)) c.parts.invariant.put

pub put_constants-returns-in_err-put_constant-clause-put : goal.put_constants-returns-in_err-put_constant-clause-put
put_constants-returns-in_err-put_constant-clause-put t c =
    let a = c.args.names.now in
    let item = c.part-item.result in
    let at = c.args.target.offset in
    let m = c.parts.memory in
    let n = next a c.types_of-types.result.now c.types_of-types.ensures c.args.packed c.args.parts.now c.parts.part-index c.parts.end _ item c.parts-test.true c.part-item.is c.parts.invariant.laid c.parts.invariant.end in
    let align = its_align a c.types_of-types.result.now c.types_of-types.ensures c.args.packed c.args.parts.now c.parts.part-index c.parts.end _ item c.parts-test.true c.part-item.is c.parts.invariant.laid c.parts.invariant.end
    c.layout_of-layout.result c.layout_of-layout.ensures in
    let start = c.start_of-start.ensures ∙ ap (field_start c.args.packed c.parts.end) align in
    let others = constants_with_types a (drop (c.parts.part-index + 1) c.args.parts.now) in
    let its : ℕ → Contents = value_at (names_of a) (tree a.table item.ty) (constant_of a item.value) in
    let all = put c.args.target.block (parts_at (names_of a) c.args.packed at 0 (constants_with_types a c.args.parts.now)) c.args.memory.now in
    refused_on all (put c.further.result.block (its c.further.result.offset) m) c.put_constant.new.memory c.put_constant.new.memory c.from_residual.result _ c.from_residual.ensures.0 c.from_residual.ensures.1 c.in_err-put_constant.ensures.put
    (λ kind e.
    part_refused c.args.target.block (its (at + c.start_of-start.result))
    (parts_at (names_of a) c.args.packed at (c.start_of-start.result + size (shape_of (names_of a) (tree a.table item.ty))) others)
    (parts_at (names_of a) c.args.packed at c.parts.end (constants_with_types a (drop c.parts.part-index c.args.parts.now))) m all
    (parts_next (names_of a) (tree a.table item.ty) (constant_of a item.value) others (constants_with_types a (drop c.parts.part-index c.args.parts.now)) c.args.packed at c.parts.end c.start_of-start.result n start) c.parts.invariant.put kind
    (ap (λ (x : Target). put x.block (its x.offset) m) (sym c.further.ensures) ∙ e))

pub put_constants-returns-in_err-put_constant-clause-kept : goal.put_constants-returns-in_err-put_constant-clause-kept
put_constants-returns-in_err-put_constant-clause-kept t c = kept_on c.args.memory.now c.parts.memory c.put_constant.new.memory c.parts.invariant.kept c.in_err-put_constant.ensures.kept
