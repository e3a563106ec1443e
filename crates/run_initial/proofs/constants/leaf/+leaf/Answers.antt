use Rattle.std.proofs.Common.{◌≡◌, ℕ, ◌+◌, ◌*◌, ◌^◌, ◌<◌, ◌≤◌, List, All, length, drop, get_or, true, refl, sym, ap, ◌∙◌, subst, arith}
use Rattle.ir_eval.specs.declared.value.Scalar.{Scalar}
use Rattle.ir_eval.specs.declared.value.Scalar.TheVariants as scalar
use Rattle.ir_eval.specs.Cast.{IsCast, IsCastTo, cast_of}
use Rattle.ir_eval.specs.Operators.{binary_of}
use Rattle.ir_eval.specs.Value.{IsInteger, IsPointer}
use Rattle.type_table.specs.Shape.{Shape, nesting}
use Rattle.type_table.specs.Tree.{Tree, Structs}
use Rattle.type_table.specs.Types.{Types, structs, tree}
use Rattle.module_arena.specs.Constants.{element_operands_fit, is_cast_between}
use Rattle.module_arena.specs.declared.constant.Const.TheVariants as const
use Rattle.module_arena.specs.declared.constant.ConstAddress.{ConstAddress}
use Rattle.module_arena.specs.declared.constant.ConstPair.{ConstPair}
use Rattle.module_arena.specs.declared.constant.TypedConst.{TypedConst}
use Rattle.module_arena.specs.Lists.{name_at}
use Rattle.module_arena.specs.TypeTests.{is_integer, lies_in_memory}
use Rattle.module_arena.specs.View.{module_of}
use Rattle.run_rules.specs.Constant as rules
use Rattle.run_rules.specs.Displace.{TermIndex, displaced, inner_term, known, number_of, reach_of, sum_of, terms_of}
use Rattle.ir_tables.specs.Flags.{has_flag}
use Rattle.ir_tables.specs.declared.flag.Flag.TheVariants.{Inbounds}
use Rattle.run_rules.specs.Leaves as leaves
use Rattle.run_names.specs.Shapes.Shapes.{shape_in}
use Rattle.run_names.proofs.Arena.{structs_are}
use Rattle.std.specs.Prelude.{IfSome}
use Rattle.run_actions.specs.Accesses.Near.{IsNear}
use Rattle.run_initial.specs.Constants.Places.{IsPlace, index_at, index_of, shape_at, term_reach}
use Rattle.run_initial.specs.Constants.Sound.{HasType, IsOfKind, IsPart, IsSound, constant_of, constants_with_types, leaf_tree, names_of, width_of}
use Rattle.run_initial.proofs.OnConstants.Distances.{IsOnTheWay, at_first, at_the_end, indices_from, indices_of, no_indices, one_further, so_far}
use Rattle.run_initial.proofs.OnConstants.Held.{base_pointer, empty_of, indices_integers, leaf_as, sound_as}
use Rattle.run_initial.proofs.OnConstants.LeafKinds.{address_kind, binary_asked, cast_asked, cast_given, cast_scalars, integer_of, integer_scalar, kind_has, kind_is, moved_pointer, no_bytes, no_list, null_kind, number_kind, of_integer, pointer_of, poison_kind, poison_value, shape_is, truth_kind, truth_leaf, width_is, zero_kind, zero_value}
use Rattle.run_initial.proofs.OnConstants.Sounds.{address_sound, all_parts, binary_sound, cast_sound}
use Rattle.run_initial.proofs.OnConstants.Within.{below_top, first_has, first_within, item_has, parted, rest_have, rest_of, rest_within, top, top_within}
use Rattle.run_initial.proofs.constants.leaf.+leaf.Goals as goal

-- ---- casts

pub cast_leaf-kind_of-from-requires : goal.cast_leaf-kind_of-from-requires
cast_leaf-kind_of-from-requires t c = record { known = c.requires.operand.ty; scalar = (cast_scalars _ _ _ c.requires.between).0 }

pub cast_leaf-kind_of-onto-requires : goal.cast_leaf-kind_of-onto-requires
cast_leaf-kind_of-onto-requires t c = record { known = c.requires.to; scalar = (cast_scalars _ _ _ c.requires.between).1 }

pub cast_leaf-leaf_at-leaf-requires : goal.cast_leaf-leaf_at-leaf-requires
cast_leaf-leaf_at-leaf-requires t c =
    let a = c.args.names.now in
    (omega (arith, c.decreases), (c.requires.operand.value, subst (λ (x : Tree). IsSound (module_of a) x (constant_of a c.args.operand.value)) c.kind_of-from.ensures.tree c.requires.operand.sound))

pub cast_leaf-cast-requires-clause-cast : goal.cast_leaf-cast-requires-clause-cast
cast_leaf-cast-requires-clause-cast t c =
    let a = c.args.names.now in
    let from = c.kind_of-from.result in
    let onto = c.kind_of-onto.result in
    let leaf = c.leaf_at-leaf.result in
    let op = c.args.opcode in
    let between = subst (λ (x : Tree). is_cast_between op x (leaf_tree onto) ≡ true) c.kind_of-from.ensures.tree (subst (λ (y : Tree). is_cast_between op (tree a.table c.args.operand.ty) y ≡ true) c.kind_of-onto.ensures.tree c.requires.between) in
    let asked = cast_asked op from onto leaf between c.leaf_at-leaf.ensures.kind in
    subst (λ (n : ℕ). IsCast op n c.width_of-to_width.result leaf) (sym c.width_of-from_width.ensures.value) (subst (λ (n : ℕ). IsCast op (width_of from) n leaf) (sym c.width_of-to_width.ensures.value) asked)

pub cast_leaf-returns-clause-value : goal.cast_leaf-returns-clause-value
cast_leaf-returns-clause-value t c =
    let a = c.args.names.now in
    let names = names_of a in
    let value = constant_of a c.args.operand.value in
    let wide : c.width_of-from_width.result ≡ rules.width_of names (tree a.table c.args.operand.ty) = c.width_of-from_width.ensures.value ∙ sym (width_is names c.kind_of-from.result) ∙ ap (rules.width_of names) (sym c.kind_of-from.ensures.tree) in
    let wider : c.width_of-to_width.result ≡ rules.width_of names (tree a.table c.args.to) = c.width_of-to_width.ensures.value ∙ sym (width_is names c.kind_of-onto.result) ∙ ap (rules.width_of names) (sym c.kind_of-onto.ensures.tree) in
    let leaf : c.leaf_at-leaf.result ≡ rules.one_leaf (rules.constant_value names (tree a.table c.args.operand.ty) value) = c.leaf_at-leaf.ensures.value ∙ ap (λ (x : Tree). rules.one_leaf (rules.constant_value names x value)) (sym c.kind_of-from.ensures.tree) in
    c.cast.ensures.value ∙ (λ i. cast_of c.args.opcode (c.empty.ensures i) (wide i) (wider i) (leaf i))

pub cast_leaf-returns-clause-kind : goal.cast_leaf-returns-clause-kind
cast_leaf-returns-clause-kind t c =
    let a = c.args.names.now in
    let from = c.kind_of-from.result in
    let onto = c.kind_of-onto.result in
    let op = c.args.opcode in
    let between = subst (λ (x : Tree). is_cast_between op x (leaf_tree onto) ≡ true) c.kind_of-from.ensures.tree (subst (λ (y : Tree). is_cast_between op (tree a.table c.args.operand.ty) y ≡ true) c.kind_of-onto.ensures.tree c.requires.between) in
    subst (λ (x : Tree). HasType x c.cast.result) (sym c.kind_of-onto.ensures.tree) (kind_has onto c.cast.result (cast_given op from onto c.cast.result between (subst (λ (n : ℕ). IsCastTo op n c.cast.result) c.width_of-to_width.ensures.value c.cast.ensures.kind)))

-- ---- binary operations

pub binary_leaf-kind_of-kind-requires : goal.binary_leaf-kind_of-kind-requires
binary_leaf-kind_of-kind-requires t c = record { known = c.requires.left.ty; scalar = integer_scalar _ c.requires.integer }

pub binary_leaf-leaf_at-left-requires : goal.binary_leaf-leaf_at-left-requires
binary_leaf-leaf_at-left-requires t c =
    let a = c.args.names.now in
    (omega (arith, c.decreases), (c.requires.left.value, subst (λ (x : Tree). IsSound (module_of a) x (constant_of a c.args.pair.left.value)) c.kind_of-kind.ensures.tree c.requires.left.sound))

pub binary_leaf-leaf_at-right-requires : goal.binary_leaf-leaf_at-right-requires
binary_leaf-leaf_at-right-requires t c =
    let a = c.args.names.now in
    (omega (arith, c.decreases), (c.requires.right.value, subst (λ (x : Tree). IsSound (module_of a) x (constant_of a c.args.pair.right.value)) (sym c.requires.same ∙ c.kind_of-kind.ensures.tree) c.requires.right.sound))

pub binary_leaf-binary-requires : goal.binary_leaf-binary-requires
binary_leaf-binary-requires t c =
    let kind = c.kind_of-kind.result in
    let is = subst (λ (x : Tree). is_integer x ≡ true) c.kind_of-kind.ensures.tree c.requires.integer in
    record {
      binary = binary_asked c.args.opcode c.requires.opcode;
      width = c.width_of-width.ensures.width;
      a = subst (λ (n : ℕ). IsInteger n c.leaf_at-left.result) (sym c.width_of-width.ensures.value) (integer_of kind c.leaf_at-left.result is c.leaf_at-left.ensures.kind);
      b = subst (λ (n : ℕ). IsInteger n c.leaf_at-right.result) (sym c.width_of-width.ensures.value) (integer_of kind c.leaf_at-right.result is c.leaf_at-right.ensures.kind);
    }

pub binary_leaf-returns-in-Ok-clause-value : goal.binary_leaf-returns-in-Ok-clause-value
binary_leaf-returns-in-Ok-clause-value t c =
    let a = c.args.names.now in
    let names = names_of a in
    let tree_is = c.kind_of-kind.ensures.tree in
    let wide : c.width_of-width.result ≡ rules.width_of names (tree a.table c.args.pair.left.ty) = c.width_of-width.ensures.value ∙ sym (width_is names c.kind_of-kind.result) ∙ ap (rules.width_of names) (sym tree_is) in
    let left = c.leaf_at-left.ensures.value ∙ ap (λ (x : Tree). rules.one_leaf (rules.constant_value names x (constant_of a c.args.pair.left.value))) (sym tree_is) in
    let right = c.leaf_at-right.ensures.value ∙ ap (λ (x : Tree). rules.one_leaf (rules.constant_value names x (constant_of a c.args.pair.right.value))) (sym tree_is ∙ c.requires.same) in
    ap rules.or_poison c.in-Ok.ensures.value ∙ (λ i. rules.or_poison (binary_of c.args.opcode c.args.flags (wide i) (left i) (right i)))

pub binary_leaf-returns-in-Ok-clause-kind : goal.binary_leaf-returns-in-Ok-clause-kind
binary_leaf-returns-in-Ok-clause-kind t c =
    let kind = c.kind_of-kind.result in
    let is = subst (λ (x : Tree). is_integer x ≡ true) c.kind_of-kind.ensures.tree c.requires.integer in
    let leaf = c.in-Ok.leaf in
    subst (λ (x : Tree). HasType x leaf) (sym c.kind_of-kind.ensures.tree) (kind_has kind leaf (of_integer kind leaf is (subst (λ (n : ℕ). IsInteger n leaf) c.width_of-width.ensures.value c.in-Ok.ensures.kind)))

pub binary_leaf-returns-in-Err-clause-value : goal.binary_leaf-returns-in-Err-clause-value
binary_leaf-returns-in-Err-clause-value t c =
    let a = c.args.names.now in
    let names = names_of a in
    let tree_is = c.kind_of-kind.ensures.tree in
    let wide : c.width_of-width.result ≡ rules.width_of names (tree a.table c.args.pair.left.ty) = c.width_of-width.ensures.value ∙ sym (width_is names c.kind_of-kind.result) ∙ ap (rules.width_of names) (sym tree_is) in
    let left = c.leaf_at-left.ensures.value ∙ ap (λ (x : Tree). rules.one_leaf (rules.constant_value names x (constant_of a c.args.pair.left.value))) (sym tree_is) in
    let right = c.leaf_at-right.ensures.value ∙ ap (λ (x : Tree). rules.one_leaf (rules.constant_value names x (constant_of a c.args.pair.right.value))) (sym tree_is ∙ c.requires.same) in
    ap rules.or_poison c.in-Err.ensures.value ∙ (λ i. rules.or_poison (binary_of c.args.opcode c.args.flags (wide i) (left i) (right i)))

pub binary_leaf-returns-in-Err-clause-kind : goal.binary_leaf-returns-in-Err-clause-kind
binary_leaf-returns-in-Err-clause-kind t c =
    let kind = c.kind_of-kind.result in
    subst (λ (x : Tree). HasType x scalar.Poison) (sym c.kind_of-kind.ensures.tree) (kind_has kind scalar.Poison (poison_kind kind))

-- ---- distances

pub further-kind_of-kind-requires : goal.further-kind_of-kind-requires
further-kind_of-kind-requires t c = record { known = c.requires.index.ty; scalar = integer_scalar _ c.requires.integer }

pub further-leaf_at-leaf-requires : goal.further-leaf_at-leaf-requires
further-leaf_at-leaf-requires t c =
    let a = c.args.names.now in
    (omega (arith, c.decreases), (c.requires.index.value, subst (λ (x : Tree). IsSound (module_of a) x (constant_of a c.args.index.value)) c.kind_of-kind.ensures.tree c.requires.index.sound))

pub further-reached_by-requires : goal.further-reached_by-requires
further-reached_by-requires t c =
    let kind = c.kind_of-kind.result in
    let is = subst (λ (x : Tree). is_integer x ≡ true) c.kind_of-kind.ensures.tree c.requires.integer in
    record {
      place = subst (λ (x : Types). IsPlace x c.args.reached.place) (sym c.types_of.ensures) c.requires.place;
      near = c.requires.near;
      width = c.width_of-width.ensures.width;
      index = subst (λ (n : ℕ). IsInteger n c.leaf_at-leaf.result) (sym c.width_of-width.ensures.value) (integer_of kind c.leaf_at-leaf.result is c.leaf_at-leaf.ensures.kind);
    }

pub further-returns : goal.further-returns
further-returns t c =
    let a = c.args.names.now in
    let names = names_of a in
    let part = c.args.index in
    let p = c.args.reached.place in
    let d = c.args.reached.distance in
    let q = c.reached_by.result in
    let v = c.leaf_at-leaf.result in
    let w = c.width_of-width.result in
    let e = c.types_of.ensures in
    let leaf : v ≡ rules.one_leaf (rules.constant_value names (tree a.table part.ty) (constant_of a part.value)) = c.leaf_at-leaf.ensures.value ∙ ap (λ (x : Tree). rules.one_leaf (rules.constant_value names x (constant_of a part.value))) (sym c.kind_of-kind.ensures.tree) in
    let wide : w ≡ rules.width_of names (tree a.table part.ty) = c.width_of-width.ensures.value ∙ sym (width_is names c.kind_of-kind.result) ∙ ap (rules.width_of names) (sym c.kind_of-kind.ensures.tree) in
    let index : index_at v w ≡ index_of a part = λ i. index_at (leaf i) (wide i) in
    record {
      place = subst (λ (x : Types). IsPlace x q.place) e c.reached_by.ensures.place;
      shape = subst (λ (x : Types). shape_at x q.place ≡ leaves.element (shape_at x p) (number_of v)) e c.reached_by.ensures.shape ∙ ap (λ (u : Scalar). leaves.element (shape_at a.table p) (number_of u)) leaf;
      distance =
          subst (λ (x : Types). q.distance ≡ sum_of d (term_reach (inner_term (shape_at x p) (index_at v w)))) e c.reached_by.ensures.distance
          ∙ ap (λ (i : TermIndex). sum_of d (term_reach (inner_term (shape_at a.table p) i))) index;
      near =
          subst (λ (i : TermIndex). IfSome (term_reach (inner_term (shape_at a.table p) i)) (IsNear (2 ^ 63 * 2 ^ 40))) index
          (subst (λ (x : Types). IfSome (term_reach (inner_term (shape_at x p) (index_at v w))) (IsNear (2 ^ 63 * 2 ^ 40))) e c.reached_by.ensures.near);
    }

pub distance_of-before_all-reached-requires : goal.distance_of-before_all-reached-requires
distance_of-before_all-reached-requires t c = record { known = subst (λ (x : Types). c.args.source < length x.types) (sym c.types_of.ensures) c.requires.source }

pub distance_of-indices-init : goal.distance_of-indices-init
distance_of-indices-init t c =
    let a = c.args.names.now in
    let few = subst (λ (x : Types). nesting (shape_in x c.args.source) ≤ 64) c.types_of.ensures c.before_all-reached.ensures.few in
    at_first a.table (2 ^ 63 * 2 ^ 40) c.args.source c.before_all-reached.result (indices_of a c.args.indices.now) (c.requires.source, c.requires.laid) few c.before_all-reached.ensures.start

pub distance_of-further-reached-requires : goal.distance_of-further-reached-requires
distance_of-further-reached-requires t c =
    let a = c.args.names.now in
    let part = item_has (IsPart a) c.args.indices.now c.indices.index-index c.index-item.result c.indices-test.true c.index-item.is c.requires.indices in
    let is = item_has (λ (x : TypedConst). is_integer (tree a.table x.ty) ≡ true) c.args.indices.now c.indices.index-index c.index-item.result c.indices-test.true c.index-item.is c.requires.integers in
    let deep = below_top c.args.indices.now c.indices.index-index c.index-item.result c.indices-test.true in
    let same = ap (λ (p : TypedConst). p.value) c.index-item.is in
    (omega (arith, deep, same, c.decreases), (part, (is, (c.indices.invariant.place, so_far a.table c.indices.reached _ _ c.indices.invariant))))

pub distance_of-indices-preserved : goal.distance_of-indices-preserved
distance_of-indices-preserved t c =
    let a = c.args.names.now in
    let part = c.index-item.result in
    let k = c.indices.index-index in
    let others = indices_of a (drop (k + 1) c.args.indices.now) in
    let whole = reach_of known (terms_of (shape_in a.table c.args.source) (indices_of a c.args.indices.now)) in
    let from = indices_from a c.args.indices.now k part c.indices-test.true c.index-item.is in
    let way = subst (λ (is : List TermIndex). IsOnTheWay a.table (2 ^ 63 * 2 ^ 40) c.indices.reached is whole) from c.indices.invariant in
    one_further a.table (2 ^ 63 * 2 ^ 40) c.indices.reached c.further-reached.result (index_of a part) others whole way
    c.further-reached.ensures.place c.further-reached.ensures.shape c.further-reached.ensures.distance c.further-reached.ensures.near

pub distance_of-returns : goal.distance_of-returns
distance_of-returns t c = at_the_end c.args.names.now.table (2 ^ 63 * 2 ^ 40) c.indices.reached _ _ (no_indices c.args.names.now c.args.indices.now c.indices.index-index c.indices-test.false) c.indices.invariant

-- ---- addresses that are moved

pub address_leaf-returns-then-is_empty : goal.address_leaf-returns-then-is_empty
address_leaf-returns-then-is_empty t c =
    let a = c.args.names.now in
    let none = empty_of c.as_slice-operands.result.now (sym c.is_empty.ensures ∙ c.if-is_empty.true) in
    ap (λ (ps : List TypedConst). rules.element_address (names_of a) (has_flag c.args.flags Inbounds) (shape_in a.table c.args.address.now.source) (indices_of a ps)) (sym none ∙ c.as_slice-operands.ensures)

pub address_leaf-leaf_at-base-requires : goal.address_leaf-leaf_at-base-requires
address_leaf-leaf_at-base-requires t c =
    let a = c.args.names.now in
    let ops = c.as_slice-operands.result.now in
    let first = get_or ops 0 c.index-operands-0.result in
    let is = sym c.as_slice-operands.ensures ∙ parted ops first (sym c.is_empty.ensures ∙ c.if-is_empty.false) (ap (get_or ops 0) c.index-operands-0.is) in
    let part = first_has (IsPart a) first (rest_of ops) (subst (λ (ps : List TypedConst). All (IsPart a) ps) is c.requires.operands) in
    let fit = subst (λ (ps : List TypedConst). element_operands_fit (structs a.table) (tree a.table c.args.address.now.source) (constants_with_types a ps) ≡ true) is c.requires.fit in
    let pointer = base_pointer (structs a.table) (tree a.table c.args.address.now.source) (tree a.table first.ty) (constant_of a first.value) (constants_with_types a (rest_of ops)) fit in
    let low = first_within c.args.address.now.operands first (rest_of ops) is in
    (omega (arith, low, c.decreases), (part.value, subst (λ (x : Tree). IsSound (module_of a) x (constant_of a first.value)) pointer part.sound))

pub address_leaf-distance_of-distance-requires : goal.address_leaf-distance_of-distance-requires
address_leaf-distance_of-distance-requires t c =
    let a = c.args.names.now in
    let ops = c.as_slice-operands.result.now in
    let first = get_or ops 0 c.index-operands-0.result in
    let is = sym c.as_slice-operands.ensures ∙ parted ops first (sym c.is_empty.ensures ∙ c.if-is_empty.false) (ap (get_or ops 0) c.index-operands-0.is) in
    let all = subst (λ (ps : List TypedConst). All (IsPart a) ps) is c.requires.operands in
    let fit = subst (λ (ps : List TypedConst). element_operands_fit (structs a.table) (tree a.table c.args.address.now.source) (constants_with_types a ps) ≡ true) is c.requires.fit in
    let low = rest_within c.args.address.now.operands first (rest_of ops) is in (
      omega (arith, low, c.decreases),
      (
        c.requires.source,
        (
          c.requires.laid,
          (rest_have (IsPart a) first (rest_of ops) all, indices_integers a (structs a.table) (tree a.table c.args.address.now.source) (tree a.table first.ty) (constant_of a first.value) (rest_of ops) fit),
        ),
      ),
    )

pub address_leaf-returns : goal.address_leaf-returns
address_leaf-returns t c =
    let a = c.args.names.now in
    let names = names_of a in
    let ops = c.as_slice-operands.result.now in
    let first = get_or ops 0 c.index-operands-0.result in
    let is = sym c.as_slice-operands.ensures ∙ parted ops first (sym c.is_empty.ensures ∙ c.if-is_empty.false) (ap (get_or ops 0) c.index-operands-0.is) in
    let fit = subst (λ (ps : List TypedConst). element_operands_fit (structs a.table) (tree a.table c.args.address.now.source) (constants_with_types a ps) ≡ true) is c.requires.fit in
    let pointer = base_pointer (structs a.table) (tree a.table c.args.address.now.source) (tree a.table first.ty) (constant_of a first.value) (constants_with_types a (rest_of ops)) fit in
    let base : c.leaf_at-base.result ≡ rules.one_leaf (rules.constant_value names (tree a.table first.ty) (constant_of a first.value)) = c.leaf_at-base.ensures.value ∙ ap (λ (x : Tree). rules.one_leaf (rules.constant_value names x (constant_of a first.value))) (sym pointer) in
    c.moved.ensures ∙ (λ i. displaced names.bounds (c.has.ensures i) (base i) (c.distance_of-distance.ensures i))
    ∙ ap (λ (ps : List TypedConst). rules.element_address names (has_flag c.args.flags Inbounds) (shape_in a.table c.args.address.now.source) (indices_of a ps)) (sym is)

-- ---- constants

pub leaf_at-cast_leaf-requires : goal.leaf_at-cast_leaf-requires
leaf_at-cast_leaf-requires t c =
    let a = c.args.names.now in
    let part = c.in-Cast.operand in
    let known = rw c.in-Cast.is at c.constant_at-known.ensures.known in
    let inner = known.typed_known 0 part (omega arith) in
    let deep = inner.1 in
    let lt = c.requires.constant in
    let s = cast_sound (module_of a) _ _ _ _ _ (sound_as a c.args.id c.constant_at-known.result.now (const.Cast c.in-Cast.opcode part c.in-Cast.to) c.constant_at-known.ensures.here c.in-Cast.is (leaf_tree c.args.kind) c.requires.sound) in (
      omega (arith, deep, c.decreases),
      (record { ty = inner.0; value = omega (arith, deep, lt); sound = s.sound }, (known.types_known 0 c.in-Cast.to (omega arith), s.between)),
    )

pub leaf_at-returns-in-Cast-clause-value : goal.leaf_at-returns-in-Cast-clause-value
leaf_at-returns-in-Cast-clause-value t c =
    leaf_as c.args.names.now c.args.id c.constant_at-known.result.now (const.Cast c.in-Cast.opcode c.in-Cast.operand c.in-Cast.to) c.constant_at-known.ensures.here c.in-Cast.is (leaf_tree c.args.kind) c.cast_leaf.result c.cast_leaf.ensures.value

pub leaf_at-returns-in-Cast-clause-kind : goal.leaf_at-returns-in-Cast-clause-kind
leaf_at-returns-in-Cast-clause-kind t c =
    let a = c.args.names.now in
    let s = cast_sound (module_of a) _ _ _ _ _ (sound_as a c.args.id c.constant_at-known.result.now (const.Cast c.in-Cast.opcode c.in-Cast.operand c.in-Cast.to) c.constant_at-known.ensures.here c.in-Cast.is (leaf_tree c.args.kind) c.requires.sound) in
    kind_is c.args.kind c.cast_leaf.result (subst (λ (x : Tree). HasType x c.cast_leaf.result) (sym s.same) c.cast_leaf.ensures.kind)

pub leaf_at-binary_leaf-requires : goal.leaf_at-binary_leaf-requires
leaf_at-binary_leaf-requires t c =
    let a = c.args.names.now in
    let lt = c.requires.constant in
    let known = rw c.in-Binary.is at c.constant_at-known.ensures.known in
    let left = known.typed_known 0 c.in-Binary.pair.left (omega arith) in
    let right = known.typed_known 1 c.in-Binary.pair.left (omega arith) in
    let left_deep = left.1 in
    let right_deep = right.1 in
    let same_left = ap (λ (p : ConstPair). p.left.value) c.get-in-Binary.ensures in
    let same_right = ap (λ (p : ConstPair). p.right.value) c.get-in-Binary.ensures in
    let s = binary_sound (module_of a) _ _ _ _ _ _ _ (sound_as a c.args.id c.constant_at-known.result.now (const.Binary c.in-Binary.opcode c.in-Binary.flags c.in-Binary.pair) c.constant_at-known.ensures.here c.in-Binary.is (leaf_tree c.args.kind) c.requires.sound) in
    let first : IsPart a c.in-Binary.pair.left = record { ty = left.0; value = omega (arith, left_deep, lt); sound = s.left_sound } in
    let second : IsPart a c.in-Binary.pair.right = record { ty = right.0; value = omega (arith, right_deep, lt); sound = s.right_sound } in (
      omega (arith, left_deep, right_deep, c.decreases, same_left, same_right),
      (
        rw c.get-in-Binary.ensures first,
        (
          rw c.get-in-Binary.ensures second,
          (rw c.get-in-Binary.ensures (subst (λ (x : Tree). is_integer x ≡ true) s.first s.integer), (rw c.get-in-Binary.ensures (sym s.first ∙ s.second), s.opcode_suits)),
        ),
      ),
    )

pub leaf_at-returns-in-Binary-clause-value : goal.leaf_at-returns-in-Binary-clause-value
leaf_at-returns-in-Binary-clause-value t c =
    leaf_as c.args.names.now c.args.id c.constant_at-known.result.now (const.Binary c.in-Binary.opcode c.in-Binary.flags c.in-Binary.pair) c.constant_at-known.ensures.here c.in-Binary.is (leaf_tree c.args.kind) c.binary_leaf.result
    (rw c.get-in-Binary.ensures at c.binary_leaf.ensures.value)

pub leaf_at-returns-in-Binary-clause-kind : goal.leaf_at-returns-in-Binary-clause-kind
leaf_at-returns-in-Binary-clause-kind t c =
    let a = c.args.names.now in
    let s = binary_sound (module_of a) _ _ _ _ _ _ _ (sound_as a c.args.id c.constant_at-known.result.now (const.Binary c.in-Binary.opcode c.in-Binary.flags c.in-Binary.pair) c.constant_at-known.ensures.here c.in-Binary.is (leaf_tree c.args.kind) c.requires.sound) in
    kind_is c.args.kind c.binary_leaf.result (subst (λ (x : Tree). HasType x c.binary_leaf.result) (sym s.first) (rw c.get-in-Binary.ensures at c.binary_leaf.ensures.kind))

pub leaf_at-address_leaf-requires : goal.leaf_at-address_leaf-requires
leaf_at-address_leaf-requires t c =
    let a = c.args.names.now in
    let known = rw c.in-ElementAddress.is at c.constant_at-known.ensures.known in
    let high = top_within _ _ c.args.id known.typed_known in
    let same = ap (λ (x : ConstAddress). top x.operands) c.get.ensures in
    let s = address_sound (module_of a) _ _ _ _ (sound_as a c.args.id c.constant_at-known.result.now (const.ElementAddress c.in-ElementAddress.flags c.in-ElementAddress.address) c.constant_at-known.ensures.here c.in-ElementAddress.is (leaf_tree c.args.kind) c.requires.sound) in
    let address = c.in-ElementAddress.address in
    let laid = subst (λ (ss : Structs). lies_in_memory ss (tree a.table address.source) ≡ true) (structs_are a) s.laid in
    let fit = subst (λ (ss : Structs). element_operands_fit ss (tree a.table address.source) (constants_with_types a address.operands) ≡ true) (structs_are a) s.fit in (
      omega (arith, high, c.decreases, same),
      (
        rw c.get.ensures (known.types_known 0 address.source (omega arith)),
        (rw c.get.ensures laid, (rw c.get.ensures (all_parts a c.args.id address.operands c.requires.constant known.typed_known s.sound), rw c.get.ensures fit)),
      ),
    )

pub leaf_at-returns-in-ElementAddress-clause-value : goal.leaf_at-returns-in-ElementAddress-clause-value
leaf_at-returns-in-ElementAddress-clause-value t c =
    let a = c.args.names.now in
    let address = c.in-ElementAddress.address in
    leaf_as a c.args.id c.constant_at-known.result.now (const.ElementAddress c.in-ElementAddress.flags address) c.constant_at-known.ensures.here c.in-ElementAddress.is (leaf_tree c.args.kind) c.address_leaf.result
    ((rw c.get.ensures at c.address_leaf.ensures) ∙ ap (λ (x : Shape). rules.element_address (names_of a) (has_flag c.in-ElementAddress.flags Inbounds) x (indices_of a address.operands)) (sym (shape_is a address.source)))

pub leaf_at-returns-in-ElementAddress-clause-kind : goal.leaf_at-returns-in-ElementAddress-clause-kind
leaf_at-returns-in-ElementAddress-clause-kind t c =
    let a = c.args.names.now in
    let s = address_sound (module_of a) _ _ _ _ (sound_as a c.args.id c.constant_at-known.result.now (const.ElementAddress c.in-ElementAddress.flags c.in-ElementAddress.address) c.constant_at-known.ensures.here c.in-ElementAddress.is (leaf_tree c.args.kind) c.requires.sound) in
    pointer_of c.args.kind c.address_leaf.result s.pointer (subst IsPointer (sym c.address_leaf.ensures) (moved_pointer (names_of a) (has_flag c.in-ElementAddress.flags Inbounds) (shape_in a.table c.get.result.now.source) (indices_of a c.get.result.now.operands)))

pub leaf_at-address-requires : goal.leaf_at-address-requires
leaf_at-address-requires t c =
    let known = rw c.in-Address.is at c.constant_at-known.ensures.known in
    known.globals_known 0 c.in-Address.global (omega arith)

pub leaf_at-returns-in-Address-clause-value : goal.leaf_at-returns-in-Address-clause-value
leaf_at-returns-in-Address-clause-value t c =
    leaf_as c.args.names.now c.args.id c.constant_at-known.result.now (const.Address c.in-Address.global) c.constant_at-known.ensures.here c.in-Address.is (leaf_tree c.args.kind) c.address.result c.address.ensures

pub leaf_at-returns-in-Address-clause-kind : goal.leaf_at-returns-in-Address-clause-kind
leaf_at-returns-in-Address-clause-kind t c =
    let a = c.args.names.now in
    let s = sound_as a c.args.id c.constant_at-known.result.now (const.Address c.in-Address.global) c.constant_at-known.ensures.here c.in-Address.is (leaf_tree c.args.kind) c.requires.sound in
    pointer_of c.args.kind c.address.result s.fits (subst IsPointer (sym c.address.ensures) (address_kind a (name_at a c.in-Address.global)))

pub leaf_at-returns-in-Integer-clause-value : goal.leaf_at-returns-in-Integer-clause-value
leaf_at-returns-in-Integer-clause-value t c =
    leaf_as c.args.names.now c.args.id c.constant_at-known.result.now (const.Integer c.in-Integer.number) c.constant_at-known.ensures.here c.in-Integer.is (leaf_tree c.args.kind) (scalar.Int c.in-Integer.number) refl

pub leaf_at-returns-in-Integer-clause-kind : goal.leaf_at-returns-in-Integer-clause-kind
leaf_at-returns-in-Integer-clause-kind t c =
    let a = c.args.names.now in
    number_kind (module_of a) c.args.kind c.in-Integer.number (sound_as a c.args.id c.constant_at-known.result.now (const.Integer c.in-Integer.number) c.constant_at-known.ensures.here c.in-Integer.is (leaf_tree c.args.kind) c.requires.sound)

pub leaf_at-returns-in-Truth-clause-value : goal.leaf_at-returns-in-Truth-clause-value
leaf_at-returns-in-Truth-clause-value t c =
    let a = c.args.names.now in
    leaf_as a c.args.id c.constant_at-known.result.now (const.Truth c.in-Truth.truth) c.constant_at-known.ensures.here c.in-Truth.is (leaf_tree c.args.kind) c.bit.result (c.bit.ensures ∙ truth_leaf (names_of a) (leaf_tree c.args.kind) c.in-Truth.truth)

pub leaf_at-returns-in-Truth-clause-kind : goal.leaf_at-returns-in-Truth-clause-kind
leaf_at-returns-in-Truth-clause-kind t c =
    let a = c.args.names.now in
    subst (IsOfKind c.args.kind) (sym c.bit.ensures) (truth_kind (module_of a) c.args.kind c.in-Truth.truth (sound_as a c.args.id c.constant_at-known.result.now (const.Truth c.in-Truth.truth) c.constant_at-known.ensures.here c.in-Truth.is (leaf_tree c.args.kind) c.requires.sound))

pub leaf_at-returns-in-Null-clause-value : goal.leaf_at-returns-in-Null-clause-value
leaf_at-returns-in-Null-clause-value t c =
    leaf_as c.args.names.now c.args.id c.constant_at-known.result.now const.Null c.constant_at-known.ensures.here c.in-Null.is (leaf_tree c.args.kind) c.zero.result c.zero.ensures

pub leaf_at-returns-in-Null-clause-kind : goal.leaf_at-returns-in-Null-clause-kind
leaf_at-returns-in-Null-clause-kind t c =
    let a = c.args.names.now in
    subst (IsOfKind c.args.kind) (sym c.zero.ensures) (null_kind (module_of a) c.args.kind (sound_as a c.args.id c.constant_at-known.result.now const.Null c.constant_at-known.ensures.here c.in-Null.is (leaf_tree c.args.kind) c.requires.sound))

pub leaf_at-returns-in-Undef-clause-value : goal.leaf_at-returns-in-Undef-clause-value
leaf_at-returns-in-Undef-clause-value t c =
    let a = c.args.names.now in
    leaf_as a c.args.id c.constant_at-known.result.now const.Undef c.constant_at-known.ensures.here c.in-Undef.is (leaf_tree c.args.kind) c.zero-in-Undef.result (c.zero-in-Undef.ensures ∙ zero_value (names_of a) c.args.kind)

pub leaf_at-returns-in-Undef-clause-kind : goal.leaf_at-returns-in-Undef-clause-kind
leaf_at-returns-in-Undef-clause-kind t c = subst (IsOfKind c.args.kind) (sym c.zero-in-Undef.ensures) (zero_kind c.args.kind)

pub leaf_at-returns-in-ZeroInitializer-clause-value : goal.leaf_at-returns-in-ZeroInitializer-clause-value
leaf_at-returns-in-ZeroInitializer-clause-value t c =
    let a = c.args.names.now in
    leaf_as a c.args.id c.constant_at-known.result.now const.ZeroInitializer c.constant_at-known.ensures.here c.in-ZeroInitializer.is (leaf_tree c.args.kind) c.zero-in-ZeroInitializer.result (c.zero-in-ZeroInitializer.ensures ∙ zero_value (names_of a) c.args.kind)

pub leaf_at-returns-in-ZeroInitializer-clause-kind : goal.leaf_at-returns-in-ZeroInitializer-clause-kind
leaf_at-returns-in-ZeroInitializer-clause-kind t c = subst (IsOfKind c.args.kind) (sym c.zero-in-ZeroInitializer.ensures) (zero_kind c.args.kind)

pub leaf_at-returns-in-Poison-clause-value : goal.leaf_at-returns-in-Poison-clause-value
leaf_at-returns-in-Poison-clause-value t c =
    let a = c.args.names.now in
    leaf_as a c.args.id c.constant_at-known.result.now const.Poison c.constant_at-known.ensures.here c.in-Poison.is (leaf_tree c.args.kind) scalar.Poison (poison_value (names_of a) c.args.kind)

pub leaf_at-returns-in-Poison-clause-kind : goal.leaf_at-returns-in-Poison-clause-kind
leaf_at-returns-in-Poison-clause-kind t c = poison_kind c.args.kind

pub leaf_at-returns-in-ByteString : goal.leaf_at-returns-in-ByteString
leaf_at-returns-in-ByteString t c =
    let a = c.args.names.now in
    absurd (no_bytes (module_of a) c.args.kind c.in-ByteString.field-0 (sound_as a c.args.id c.constant_at-known.result.now (const.ByteString c.in-ByteString.field-0) c.constant_at-known.ensures.here c.in-ByteString.is (leaf_tree c.args.kind) c.requires.sound))

pub leaf_at-returns-in-Aggregate : goal.leaf_at-returns-in-Aggregate
leaf_at-returns-in-Aggregate t c =
    let a = c.args.names.now in
    absurd (no_list (module_of a) c.args.kind _ _ (sound_as a c.args.id c.constant_at-known.result.now (const.Aggregate c.in-Aggregate.field-0 c.in-Aggregate.field-1) c.constant_at-known.ensures.here c.in-Aggregate.is (leaf_tree c.args.kind) c.requires.sound))
