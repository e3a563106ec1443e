use Rattle.std.proofs.Common.{None, nat_eq, refl, sym, ap, arith, ◌∙◌}
use Rattle.record_table.specs.Faults.{also}
use Rattle.record_read.specs.Reader.{Reader}
use Rattle.record_read.proofs.OnOrder.Numbered.{also_at, number_told, version_known, version_strange}
use Rattle.record_read.proofs.OnOrder.Recorded.{stays_two}
use Rattle.record_read.proofs.order.version.end_number.Goals as goal

pub end_part-requires : goal.end_part-requires
end_part-requires c =
    let at = ap (λ (r : Reader). r.at) c.also.ensures in
    let some = c.requires in
    omega (arith, at, some)

pub returns-then-is_foreign-clause-stays : goal.returns-then-is_foreign-clause-stays
returns-then-is_foreign-clause-stays c = record { spent = refl; left = refl; at = refl }

pub returns-then-is_foreign-clause-answers : goal.returns-then-is_foreign-clause-answers
returns-then-is_foreign-clause-answers c = λ s b. rw (version_strange s c.args.last c.args.number b.last_is (sym c.is_foreign.ensures ∙ c.if-is_foreign.true)) refl

pub returns-clause-stays : goal.returns-clause-stays
returns-clause-stays c = stays_two c.args.reader.now _ _ _ c.also.ensures c.end_part.ensures.stays

pub returns-clause-answers : goal.returns-clause-answers
returns-clause-answers c = λ s b.
    rw (version_known s c.args.last c.args.number b.last_is (sym c.is_foreign.ensures ∙ c.if-is_foreign.false))
    (c.end_part.ensures.answers s s (also 5 (nat_eq c.args.number s.texts.version) None) b.last_is (also_at s c.args.reader.now _ _ c.also.ensures b.at) (number_told s _ c.args.last c.args.number c.is_version_of.result c.args.reader.now _ b c.is_version_of.ensures c.also.ensures))
