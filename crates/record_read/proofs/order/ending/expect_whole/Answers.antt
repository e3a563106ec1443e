use Rattle.std.proofs.Common.{refl, sym, ap, ◌∙◌}
use Rattle.record_read.specs.declared.fault.BitcodeFault.TheVariants as fault
use Rattle.record_read.proofs.OnOrder.Endings.{no_body, no_types, no_version, nothing_missing}
use Rattle.record_read.proofs.order.ending.expect_whole.Goals as goal

pub returns-then-is_bare : goal.returns-then-is_bare
returns-then-is_bare c = λ s same due at. rw (no_version s c.args.last same (sym c.is_bare.ensures ∙ c.if-is_bare.true)) (ap (λ n. fault.BadRecord 8 n 5) (sym at))

pub returns-then-is_untyped : goal.returns-then-is_untyped
returns-then-is_untyped c = λ s same due at.
    rw (no_types s c.args.last same (sym c.is_bare.ensures ∙ c.if-is_bare.false) (sym c.is_untyped.ensures ∙ c.if-is_untyped.true)) (ap (λ n. fault.BadRecord 17 n 5) (sym at))

pub returns-then-is_due : goal.returns-then-is_due
returns-then-is_due c = λ s same due at.
    rw (no_body s c.args.last same (sym c.is_bare.ensures ∙ c.if-is_bare.false) (sym c.is_untyped.ensures ∙ c.if-is_untyped.false) (due ∙ c.if-is_due.true)) (ap (λ n. fault.BadRecord 12 n 5) (sym at))

pub returns : goal.returns
returns c = λ s same due at.
    rw (nothing_missing s c.args.last same (sym c.is_bare.ensures ∙ c.if-is_bare.false) (sym c.is_untyped.ensures ∙ c.if-is_untyped.false) (due ∙ c.if-is_due.false)) refl
