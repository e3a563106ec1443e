use Rattle.std.proofs.Common.{Some, ◌-◌, inl, refl, sym, ap, subst, ◌∙◌, arith, length}
use Rattle.std.proofs.lemmas.Result.{err_from_is_err_and}
use Rattle.type_table.specs.Types.{KnowsBody}
use Rattle.type_table.proofs.Given.{types-given}
use Rattle.module_arena.specs.Lists.{Lists}
use Rattle.type_read.specs.Listed.{IsUndefined}
use Rattle.type_read.specs.Pending.{held}
use Rattle.type_read.proofs.Putting.{finished_none, put_broken, put_spent}
use Rattle.type_read.proofs.pending.put_body.Goals as goal

pub give-requires-clause-few : goal.give-requires-clause-few
give-requires-clause-few c =
    let place = c.requires.counted.place in
    omega (arith, place, c.is_counted.ensures)

pub returns-in_err-give-clause-puts : goal.returns-in_err-give-clause-puts
returns-in_err-give-clause-puts c =
    let p = err_from_is_err_and c.from_residual.result c.from_residual.ensures.1 in
    rw (p.1, p.2) (inl c.in_err-give.ensures)

pub define_struct-requires-clause-undefined : goal.define_struct-requires-clause-undefined
define_struct-requires-clause-undefined c =
    subst (λ (a : Lists). IsUndefined a c.new.result) (sym c.in_ok-give.ensures.0) (subst (IsUndefined (held c.args.arena.now c.args.pending.now)) (sym c.new.ensures) c.requires.undefined)

pub define_struct-requires-clause-fields : goal.define_struct-requires-clause-fields
define_struct-requires-clause-fields c =
    let same = ap (λ (a : Lists). length a.table.types) c.in_ok-give.ensures.0 ∙ ap length (types-given c.args.arena.now.table c.args.pending.now.first c.args.pending.now.bodies.items) in
    subst (λ n. KnowsBody n (Some c.args.body)) (sym same) c.requires.fields

pub returns-in_err-define_struct-clause-puts : goal.returns-in_err-define_struct-clause-puts
returns-in_err-define_struct-clause-puts c =
    let p = err_from_is_err_and c.from_residual-in_err-define_struct.result c.from_residual-in_err-define_struct.ensures.1 in
    rw p.1 (inl (inl (p.2 ∙ c.in_err-define_struct.ensures)))

pub returns-then-is_broken-clause-puts : goal.returns-then-is_broken-clause-puts
returns-then-is_broken-clause-puts c =
    let added = rw c.new.ensures at c.in_ok-define_struct.ensures in
    put_broken c.args.arena.now c.args.pending.now c.args.number c.args.body c.args.reader.now c.define_struct.new.reader c.give.new.arena c.define_struct.new.arena c.give.new.pending c.finish.result
    c.in_ok-give.ensures.0 c.in_ok-give.ensures.1 (sym c.is_broken.ensures ∙ c.if-is_broken.true) added c.finish.ensures.told

pub returns-in_ok-push-in-Ok-clause-puts : goal.returns-in_ok-push-in-Ok-clause-puts
returns-in_ok-push-in-Ok-clause-puts c = (refl, record { first = refl; at = refl; bodies_are = c.in_ok-push-in-Ok.ensures.items }, finished_none c.args.reader.now c.in-Ok.ensures.told)

pub returns-in_err-push-in-Ok-clause-puts : goal.returns-in_err-push-in-Ok-clause-puts
returns-in_err-push-in-Ok-clause-puts c =
    let p = err_from_is_err_and c.from_residual-in_err-push-in-Ok.result c.from_residual-in_err-push-in-Ok.ensures.1 in
    rw p.1 (inl (inl p.2))

pub give-requires-in-Err-clause-few : goal.give-requires-in-Err-clause-few
give-requires-in-Err-clause-few c =
    let place = c.requires.counted.place in
    omega (arith, place, c.is_counted.ensures)

pub returns-in_err-give-in-Err-clause-puts : goal.returns-in_err-give-in-Err-clause-puts
returns-in_err-give-in-Err-clause-puts c =
    let p = err_from_is_err_and c.from_residual-in_err-give-in-Err.result c.from_residual-in_err-give-in-Err.ensures.1 in
    rw (p.1, p.2) (inl c.in_err-give-in-Err.ensures)

pub returns-in_ok-give-in-Err-clause-puts : goal.returns-in_ok-give-in-Err-clause-puts
returns-in_ok-give-in-Err-clause-puts c =
    put_spent c.args.arena.now c.args.pending.now c.args.number c.args.body c.args.reader.now c.give-in-Err.new.arena c.give-in-Err.new.pending c.in-Err.fault c.in_ok-give-in-Err.ensures.1 (sym c.is_broken.ensures ∙ c.if-is_broken.false) c.in-Err.ensures.told
