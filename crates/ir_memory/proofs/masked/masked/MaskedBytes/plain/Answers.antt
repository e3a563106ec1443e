use Rattle.std.proofs.Common.{◌∙◌, sym, ap, map, Some}
use Rattle.ir_memory.proofs.OnMasked.Puts.{unmarked}
use Rattle.ir_memory.proofs.masked.masked.MaskedBytes.plain.Goals as goal

pub returns : goal.returns
returns c =
    rw (← c.self.view_is) (unmarked _ c.self.inside.bytes.items (c.self.invariant.1 c.if-not-self.false) ∙ ap (map (λ b. Some b)) (sym c.as_slice.ensures.value))
