use Rattle.std.proofs.Common.{◌≡◌, ◌++◌, ◌∙◌, List, ℕ, sym, subst}
use Rattle.std.specs.Prelude.{OnOk}
use Rattle.ir_printf.proofs.Short.{short_is}
use Rattle.ir_printf.proofs.text.put_number.Goals as goal

pub returns-then-is_short-clause-ok : goal.returns-then-is_short-clause-ok
returns-then-is_short-clause-ok c =
    subst (λ (bytes : List ℕ). OnOk c.put_short.result (c.put_short.new.into.items ≡ c.args.into.now.items ++ bytes))
    (short_is c.args.conversion.now c.args.bits (sym c.is_short.ensures ∙ c.if-is_short.true)) c.put_short.ensures.ok
