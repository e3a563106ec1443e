use Rattle.std.proofs.Common.{ap, ◌∙◌, rules}
use Rattle.ir_memory.specs.Masked.Masked.{masked}
use Rattle.ir_memory.proofs.OnMasked.Puts.{zeros}
use Rattle.ir_memory.proofs.masked.masked.MaskedBytes.renewed.Goals as goal

pub returns : goal.returns
returns c =
    ap (λ bs. masked c.in_ok-no_marks.field-0 bs) (search (rules, c.in_ok-resize.ensures.items, c.clear.ensures.items))
    ∙ zeros _ c.args.count c.in_ok-no_marks.ensures.none
