use Rattle.std.proofs.Common.{sym, ap, ◌∙◌, length, arith}
use Rattle.ir_memory.proofs.OnMasked.Puts.{length-masked, put-number}
use Rattle.ir_memory.proofs.masked.masked.MaskedBytes.write_number.Goals as goal

pub clear-requires-clause-within : goal.clear-requires-clause-within
clear-requires-clause-within c =
    let long = sym (length-masked _ _) ∙ ap length c.self.view_is in omega (arith, long, c.self.inside.bytes.ok.0, c.self.inside.bytes.small)

pub clear-requires-clause-small : goal.clear-requires-clause-small
clear-requires-clause-small c =
    let long = sym (length-masked _ _) ∙ ap length c.self.view_is in omega (arith, long, c.self.inside.bytes.ok.0, c.self.inside.bytes.small)

pub put_number-requires-clause-within : goal.put_number-requires-clause-within
put_number-requires-clause-within c =
    let long = sym (length-masked _ _) ∙ ap length c.self.view_is in omega (arith, long, c.self.inside.bytes.ok.0, c.self.inside.bytes.small)

pub returns : goal.returns
returns c =
    let long = sym (length-masked _ _) ∙ ap length c.self.view_is in
    rw (← c.self.view_is, c.put_number.ensures.items)
    (put-number _ _ c.self.inside.bytes.items c.args.at c.args.count c.args.number (omega (arith, long)) c.clear.ensures.marks)
