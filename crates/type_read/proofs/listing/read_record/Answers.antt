use Rattle.std.proofs.Common.{◌≡◌, ◌+◌, ◌⊎◌, inl, inr, false, nat_eq, sym, subst, refl, ◌∙◌, arith}
use Rattle.std.specs.Prelude.{Err}
use Rattle.std.proofs.lemmas.Bool.{ne_eqb}
use Rattle.std.proofs.lemmas.Result.{err_from_is_err_and}
use Rattle.record_table.specs.Codes.{kind_view}
use Rattle.record_table.specs.TypeRecords.{of_kind}
use Rattle.record_read.specs.Faults.{Answers}
use Rattle.type_read.specs.declared.pending.Pending.{Pending}
use Rattle.type_read.specs.Listed.{IsMore, IsOn}
use Rattle.type_read.specs.Pending.{HoldsFit, PutsRecord, RefusesHeld}
use Rattle.type_read.proofs.Waiting.{as_struct, as_type, type_put, type_refused}
use Rattle.type_read.proofs.listing.read_record.Goals as goal

pub returns-then-code-eq-DEFINE-clause-answers : goal.returns-then-code-eq-DEFINE-clause-answers
returns-then-code-eq-DEFINE-clause-answers c = λ all s operands on number texts later so_far.
    let here = rw c.if-code-eq-DEFINE.true at so_far in
    as_struct s c.args.code operands (λ answer. PutsRecord c.args.arena.now c.read_struct_record.new.arena c.args.pending.now c.read_struct_record.new.pending c.args.names all later s answer (c.args.defined + 1)) c.if-code-eq-DEFINE.true (c.in_ok-read_struct_record.ensures.answers all s operands on number texts later here)

pub returns-in_err-read_struct_record-clause-answers : goal.returns-in_err-read_struct_record-clause-answers
returns-in_err-read_struct_record-clause-answers c = λ all s operands on number texts later so_far.
    let p = err_from_is_err_and c.from_residual.result c.from_residual.ensures.1 in
    let here = rw c.if-code-eq-DEFINE.true at so_far in
    rw (p.1, p.2) (as_struct s c.args.code operands
    (λ answer. RefusesHeld c.args.arena.now c.args.pending.now c.in_err-read_struct_record.field-0.0 ⊎ (HoldsFit c.args.arena.now c.args.pending.now × Answers {B = Unit {0}} (λ _ _. ⊥) answer (Err c.in_err-read_struct_record.field-0.0)))
    c.if-code-eq-DEFINE.true (c.in_err-read_struct_record.ensures.answers all s operands on number texts later here))

-- what pends is given in front of each other record
pub give-requires-clause-few : goal.give-requires-clause-few
give-requires-clause-few c =
    let place = c.requires.counted.place in
    omega (arith, place, c.is_counted.ensures)

pub returns-in_err-give-clause-answers : goal.returns-in_err-give-clause-answers
returns-in_err-give-clause-answers c = λ all s operands on number texts later so_far.
    let p = err_from_is_err_and c.from_residual-in_err-give.result c.from_residual-in_err-give.ensures.1 in
    rw (p.1, p.2) (inl c.in_err-give.ensures)

pub returns-in_ok-read_type_record-in-Some-clause-answers : goal.returns-in_ok-read_type_record-in-Some-clause-answers
returns-in_ok-read_type_record-in-Some-clause-answers c = λ all s operands on number texts later so_far.
    let other : nat_eq c.args.code 7 ≡ false = ne_eqb c.args.code 7 c.if-code-eq-DEFINE.false in
    let here = rw other at so_far in
    let given = c.in_ok-give.ensures in
    let there = subst (λ a. IsOn a c.args.names all c.args.reader.now operands s) (sym given.0) on in
    let reads = c.in_ok-read_type_record-in-Some.ensures.reads in
    let none : Pending = record { first = c.args.defined; at = c.at.result; bodies = c.new.result } in
    as_type s c.args.code operands (kind_view c.in-Some.kind) (λ answer. PutsRecord c.args.arena.now c.read_type_record.new.arena c.args.pending.now none c.args.names all later s answer c.args.defined) (sym c.in-Some.ensures)
    (type_put c.args.arena.now c.read_type_record.new.arena c.args.pending.now none c.args.names all later s (of_kind s operands (kind_view c.in-Some.kind)) c.args.defined given.1 here number
    refl (c.at.ensures ∙ reads.2 ∙ on.at) c.new.ensures.items
    (c.in_ok-read_type_record-in-Some.ensures.answers c.args.names all s operands there number later here))

pub returns-in_err-read_type_record-in-Some-clause-answers : goal.returns-in_err-read_type_record-in-Some-clause-answers
returns-in_err-read_type_record-in-Some-clause-answers c = λ all s operands on number texts later so_far.
    let p = err_from_is_err_and c.from_residual-in_err-read_type_record-in-Some.result c.from_residual-in_err-read_type_record-in-Some.ensures.1 in
    let other : nat_eq c.args.code 7 ≡ false = ne_eqb c.args.code 7 c.if-code-eq-DEFINE.false in
    let here = rw other at so_far in
    let given = c.in_ok-give.ensures in
    let there = subst (λ a. IsOn a c.args.names all c.args.reader.now operands s) (sym given.0) on in
    rw (p.1, p.2) (as_type s c.args.code operands (kind_view c.in-Some.kind)
    (λ answer. RefusesHeld c.args.arena.now c.args.pending.now c.in_err-read_type_record-in-Some.field-0.0
    ⊎ (HoldsFit c.args.arena.now c.args.pending.now × Answers {B = Unit {0}} (λ _ _. ⊥) answer (Err c.in_err-read_type_record-in-Some.field-0.0)))
    (sym c.in-Some.ensures)
    (type_refused c.args.arena.now c.args.pending.now (λ _ listed. IsMore _ c.args.names all later s listed) (of_kind s operands (kind_view c.in-Some.kind)) c.in_err-read_type_record-in-Some.field-0.0 given.1
    (c.in_err-read_type_record-in-Some.ensures.answers c.args.names all s operands there number later here)))

pub returns-in-None-clause-answers : goal.returns-in-None-clause-answers
returns-in-None-clause-answers c = λ all s operands on number texts later so_far.
    let other : nat_eq c.args.code 7 ≡ false = ne_eqb c.args.code 7 c.if-code-eq-DEFINE.false in
    let given = c.in_ok-give.ensures in
    inr (given.1, rw (sym c.in-None.ensures, other) refl)
