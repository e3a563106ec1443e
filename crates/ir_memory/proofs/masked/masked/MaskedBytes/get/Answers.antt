use Rattle.std.proofs.Common.{sym, ap, ◌∙◌, length, get_or, Some, arith}
use Rattle.ir_memory.specs.Masked.Masked.{unless}
use Rattle.std.proofs.lemmas.List.{get_or_default}
use Rattle.ir_memory.proofs.OnMasked.Puts.{length-masked, got}
use Rattle.ir_memory.proofs.masked.masked.MaskedBytes.get.Goals as goal

pub has-requires : goal.has-requires
has-requires c = let long = sym (length-masked _ _) ∙ ap length c.self.view_is in omega (arith, long, c.self.inside.bytes.ok.0, c.self.invariant)

pub index-requires : goal.index-requires
index-requires c = let long = sym (length-masked _ _) ∙ ap length c.self.view_is in omega (arith, long, c.self.inside.bytes.ok.0)

pub returns-then-has : goal.returns-then-has
returns-then-has c =
    let long = sym (length-masked _ _) ∙ ap length c.self.view_is in
    rw (← c.self.view_is) (sym (got _ c.self.inside.bytes.items c.args.at c.has.result (omega (arith, long)) c.has.ensures ∙ ap (λ t. unless t (get_or c.self.inside.bytes.items c.args.at 0)) c.if-has.true))

pub returns-else-has : goal.returns-else-has
returns-else-has c =
    let long = sym (length-masked _ _) ∙ ap length c.self.view_is in
    let e = got _ c.self.inside.bytes.items c.args.at c.has.result (omega (arith, long)) c.has.ensures ∙ ap (λ t. unless t (get_or c.self.inside.bytes.items c.args.at 0)) c.if-has.false in
    rw (← c.self.view_is) (ap Some (c.index.ensures ∙ get_or_default c.self.inside.bytes.items c.args.at _ 0 (omega (arith, long))) ∙ sym e)
