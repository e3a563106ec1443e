use Rattle.std.proofs.Common.{◌++◌, ◌∙◌, List, ℕ, ap}
use Rattle.ir_printf.proofs.Short.{narrow_is}
use Rattle.ir_printf.proofs.text.put_bytes.Goals as goal

pub returns-then-width-eq0-clause-ok : goal.returns-then-width-eq0-clause-ok
returns-then-width-eq0-clause-ok c =
    c.in_ok-extend_from_slice.ensures.items
    ∙ ap (λ (bytes : List ℕ). c.args.into.now.items ++ bytes) (c.precise_bytes.ensures ∙ narrow_is c.args.conversion.now c.args.bytes.now c.if-width-eq0.true)
