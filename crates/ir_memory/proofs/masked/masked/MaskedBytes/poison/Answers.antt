use Rattle.std.proofs.Common.{sym, ap, ◌∙◌, length, arith}
use Rattle.ir_memory.proofs.OnMasked.Puts.{length-masked, put-poison}
use Rattle.ir_memory.proofs.masked.masked.MaskedBytes.poison.Goals as goal

pub set_all-requires-clause-within : goal.set_all-requires-clause-within
set_all-requires-clause-within c =
    let long = sym (length-masked _ _) ∙ ap length c.self.view_is in omega (arith, long, c.self.inside.bytes.ok.0, c.self.inside.bytes.small)

pub set_all-requires-clause-small : goal.set_all-requires-clause-small
set_all-requires-clause-small c =
    let long = sym (length-masked _ _) ∙ ap length c.self.view_is in omega (arith, long, c.self.inside.bytes.ok.0, c.self.inside.bytes.small)

pub put_many-requires : goal.put_many-requires
put_many-requires c =
    let long = sym (length-masked _ _) ∙ ap length c.self.view_is in omega (arith, long, c.self.inside.bytes.ok.0, c.self.inside.bytes.small)

pub returns : goal.returns
returns c =
    let long = sym (length-masked _ _) ∙ ap length c.self.view_is in
    rw (← c.self.view_is, c.put_many.ensures.items)
    (put-poison _ _ c.self.inside.bytes.items c.args.at c.args.count (omega (arith, long)) c.set_all.ensures.marks)
