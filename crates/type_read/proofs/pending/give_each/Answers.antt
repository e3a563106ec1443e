use Rattle.std.proofs.Common.{◌≡◌, suc, inl, inr, refl, sym, ap, subst, ◌∙◌, arith, length}
use Rattle.std.proofs.lemmas.Result.{err_from_is_err_and}
use Rattle.std.specs.Vec.Iter.{into_iter_items}
use Rattle.type_read.specs.Listed.{IsUndefined}
use Rattle.type_read.proofs.Giving.{giving_ends, giving_few, giving_known, giving_next, giving_starts, giving_undefined, giving_unfit}
use Rattle.type_read.proofs.pending.give_each.Goals as goal

pub bodies-init : goal.bodies-init
bodies-init c =
    giving_starts c.args.arena.now (record { first = c.args.first; at = c.args.at; bodies = c.args.given }) (into_iter_items c.into_iter-rest.result) c.into_iter-rest.ensures.rest c.requires.pending

pub is_defined-requires-clause-undefined : goal.is_defined-requires-clause-undefined
is_defined-requires-clause-undefined c =
    subst (IsUndefined c.bodies.arena) (sym c.new.ensures) (giving_undefined _ _ c.bodies.arena c.bodies.number c.bodies.index c.in-Some.body _ _ c.in-Some.ensures.items c.bodies.invariant)

pub is_defined-requires-clause-fields : goal.is_defined-requires-clause-fields
is_defined-requires-clause-fields c = giving_known _ _ c.bodies.arena c.bodies.number c.bodies.index c.in-Some.body _ _ c.in-Some.ensures.items c.bodies.invariant

pub returns-in_err-fits-in-Some : goal.returns-in_err-fits-in-Some
returns-in_err-fits-in-Some c =
    let p = err_from_is_err_and c.from_residual.result c.from_residual.ensures.1 in
    rw p.1 (inl (p.2 ∙ c.in_err-fits-in-Some.ensures))

-- it is told of the record of the body behind which not all fits
pub returns-then-not-fits : goal.returns-then-not-fits
returns-then-not-fits c =
    let unfit = rw c.new.ensures at (rw c.if-not-fits.true at c.in_ok-fits-in-Some.ensures) in
    inr (c.bodies.index, giving_unfit _ _ c.bodies.arena c.bodies.number c.bodies.index c.in-Some.body _ _ c.in-Some.ensures.items c.bodies.invariant unfit, refl)

pub overflow_add-number : goal.overflow_add-number
overflow_add-number c =
    let known = giving_undefined _ _ c.bodies.arena c.bodies.number c.bodies.index c.in-Some.body _ _ c.in-Some.ensures.items c.bodies.invariant in
    let few = c.are_within.ensures.good.few in
    omega (arith, known.0, few)

pub overflow_add-index : goal.overflow_add-index
overflow_add-index c =
    let few = giving_few _ _ c.bodies.arena c.bodies.number c.bodies.index c.in-Some.body _ _ c.in-Some.ensures.items c.bodies.invariant in
    omega (arith, few, c.requires.few)

pub bodies-preserved : goal.bodies-preserved
bodies-preserved c =
    let fits = rw c.new.ensures at (rw c.if-not-fits.false at c.in_ok-fits-in-Some.ensures) in
    giving_next _ _ c.bodies.arena c.bodies.number c.bodies.index c.in-Some.body _ _ c.in-Some.ensures.items c.bodies.invariant _ fits.0 fits.1

pub bodies-smaller : goal.bodies-smaller
bodies-smaller c =
    let one : length (into_iter_items c.bodies.rest) ≡ suc (length (into_iter_items c.next.new.self)) = ap length c.in-Some.ensures.items in
    omega (arith, one)

pub returns-in-None : goal.returns-in-None
returns-in-None c =
    giving_ends c.args.arena.now _ c.bodies.arena c.bodies.number c.bodies.index (into_iter_items c.bodies.rest) (sym c.bodies.rest.rest.ok.0 ∙ c.in-None.ensures.cases.0) c.bodies.invariant
