use Rattle.std.proofs.Common.{◌≡◌, ◌==◌, true, false, inl, sym, ap, subst, ◌∙◌, arith, length, Ok}
use Rattle.std.proofs.lemmas.Result.{err_from_is_err_and}
use Rattle.module_arena.specs.Lists.{Lists}
use Rattle.type_read.specs.declared.pending.Pending.{Pending}
use Rattle.type_read.specs.Pending.{ArePending, Gives}
use Rattle.type_read.proofs.Holding.{fits_pending, gives_none, none_left, some_left, stays_fit}
use Rattle.type_read.proofs.pending.give.Goals as goal

pub returns-then-is_empty : goal.returns-then-is_empty
returns-then-is_empty c =
    let p = c.args.pending.now in
    gives_none c.args.arena.now p (none_left p.bodies.items (ap (λ n. n == 0) (sym p.bodies.ok.0) ∙ sym c.is_empty.ensures ∙ c.if-is_empty.true))

pub define_structs-requires-clause-known : goal.define_structs-requires-clause-known
define_structs-requires-clause-known c =
    let p = c.args.pending.now in
    let some = some_left p.bodies.items (ap (λ n. n == 0) (sym p.bodies.ok.0) ∙ sym c.is_empty.ensures ∙ c.if-is_empty.false) in
    let fit = fits_pending c.args.arena.now.table p.first p.bodies.items some c.requires.pending in
    omega (arith, fit, c.new.ensures)

pub define_structs-requires-clause-fields : goal.define_structs-requires-clause-fields
define_structs-requires-clause-fields c = c.requires.pending.known

pub define_structs-requires-clause-undefined : goal.define_structs-requires-clause-undefined
define_structs-requires-clause-undefined c = λ k le lt. c.requires.pending.undefined k (omega (arith, c.new.ensures, le)) (omega (arith, c.new.ensures, lt))

pub returns-in_err-are_given : goal.returns-in_err-are_given
returns-in_err-are_given c =
    let p = err_from_is_err_and c.from_residual.result c.from_residual.ensures.1 in
    rw p.1 (inl p.2)

pub returns-then-are_given : goal.returns-then-are_given
returns-then-are_given c = (
  rw c.new.ensures at (c.in_ok-are_given.ensures.ok (ap Ok c.if-are_given.true)),
  stays_fit c.args.arena.now.table c.args.pending.now.first c.args.pending.now.bodies.items (rw c.new.ensures at (c.in_ok-are_given.ensures.within (ap Ok c.if-are_given.true))),
)

pub give_each-requires-clause-pending : goal.give_each-requires-clause-pending
give_each-requires-clause-pending c =
    let kept = c.in_ok-are_given.ensures.kept (λ e. (let no = c.if-are_given.false in cc)) in
    let same = ap (λ v. v.items) (c.replace-given.ensures.value ∙ kept.1) in
    subst (λ (a : Lists). ArePending a.table c.args.pending.now.first c.replace-given.result.items) (sym kept.0)
    (subst (ArePending c.args.arena.now.table c.args.pending.now.first) (sym same) c.requires.pending)

pub give_each-requires-clause-few : goal.give_each-requires-clause-few
give_each-requires-clause-few c =
    let kept = c.in_ok-are_given.ensures.kept (λ e. (let no = c.if-are_given.false in cc)) in
    let same = ap (λ v. length v.items) (c.replace-given.ensures.value ∙ kept.1) in
    omega (arith, same, c.requires.few)

pub returns : goal.returns
returns c =
    let kept = c.in_ok-are_given.ensures.kept (λ e. (let no = c.if-are_given.false in cc)) in
    let before = c.args.pending.now in
    let made : ◌≡◌ {A = Pending} (record { first = c.args.pending.now.first; at = c.args.pending.now.at; bodies = c.replace-given.result }) c.args.pending.now =
    ap (λ v. record { first = before.first; at = before.at; bodies = v }) (c.replace-given.ensures.value ∙ kept.1) in
    subst (λ (a : Lists). Gives a c.args.pending.now c.give_each.result c.give_each.new.arena) kept.0
    (subst (λ (q : Pending). Gives c.define_structs.new.self q c.give_each.result c.give_each.new.arena) made c.give_each.ensures)
