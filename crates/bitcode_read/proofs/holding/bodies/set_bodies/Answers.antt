use Rattle.std.proofs.Common.{◌≡◌, ◌<◌, length, sym, ap, ◌∙◌, arith}
use Rattle.std.specs.Vec.Iter.{into_iter_items}
use Rattle.bitcode_read.proofs.OnHolding.Filling.{fills_none, fills_one, fills_all, filled, is_known, is_undefined, next_suits, passes_one}
use Rattle.bitcode_read.proofs.holding.bodies.set_bodies.Goals as goal
use Rattle.bitcode_read.proofs.holding.bodies.set_bodies.Goals.{then-is_defined, else-is_defined}

pub functions-init : goal.functions-init
functions-init c = fills_none c.args.arena.now c.args.defined.now c.args.bodies.items (into_iter_items c.into_iter-rest.result) c.into_iter-rest.ensures.rest c.requires.suits

pub define_next-requires-clause-known : goal.define_next-requires-clause-known
define_next-requires-clause-known c =
    let lt : c.functions.number < length c.args.arena.now.functions = omega (arith, c.function_count-count.ensures, c.functions-test.true) in
    is_known c.args.arena.now c.args.defined.now c.args.bodies.items c.functions.number c.functions.arena (into_iter_items c.functions.rest) c.functions.invariant lt

pub define_next-requires-clause-undefined : goal.define_next-requires-clause-undefined
define_next-requires-clause-undefined c =
    let lt : c.functions.number < length c.args.arena.now.functions = omega (arith, c.function_count-count.ensures, c.functions-test.true) in
    λ f is. is_undefined c.args.arena.now c.args.defined.now c.args.bodies.items c.functions.number c.functions.arena (into_iter_items c.functions.rest) c.functions.invariant lt c.requires.undefined f is

pub define_next-requires-clause-suits : goal.define_next-requires-clause-suits
define_next-requires-clause-suits c =
    let lt : c.functions.number < length c.args.arena.now.functions = omega (arith, c.function_count-count.ensures, c.functions-test.true) in
    λ f is. next_suits c.args.arena.now c.args.defined.now c.args.bodies.items c.functions.number c.functions.arena (into_iter_items c.functions.rest) c.functions.invariant lt (sym c.if-is_defined.true ∙ c.is_defined.ensures) f is

pub functions-preserved : goal.functions-preserved
functions-preserved c =
    let lt : c.functions.number < length c.args.arena.now.functions = omega (arith, c.function_count-count.ensures, c.functions-test.true) in
    elim c.if-is_defined.branch [
      | then-is_defined w ↦
          filled c.args.arena.now c.args.defined.now c.args.bodies.items _ _ _ _ _ w.arena-is (ap (λ r. into_iter_items r) w.rest-is)
          (fills_one c.args.arena.now c.args.defined.now c.args.bodies.items c.functions.number c.functions.arena (into_iter_items c.functions.rest) c.functions.invariant lt _ _ (sym w.if-is_defined.true ∙ c.is_defined.ensures) w.define_next.ensures)
      | else-is_defined w ↦
          filled c.args.arena.now c.args.defined.now c.args.bodies.items _ _ _ _ _ w.arena-is (ap (λ r. into_iter_items r) w.rest-is)
          (passes_one c.args.arena.now c.args.defined.now c.args.bodies.items c.functions.number c.functions.arena (into_iter_items c.functions.rest) c.functions.invariant lt (sym w.if-is_defined.false ∙ c.is_defined.ensures))
    ]

pub returns : goal.returns
returns c =
    let all : c.functions.number ≡ length c.args.arena.now.functions = omega (arith, c.function_count-count.ensures, c.functions.auto.number-end, c.functions-test.false) in
    fills_all c.args.arena.now c.args.defined.now c.args.bodies.items c.functions.number c.functions.arena (into_iter_items c.functions.rest) c.functions.invariant all
