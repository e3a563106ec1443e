use Rattle.std.proofs.Common.{◌+◌, sym, ap, ◌∙◌, length, arith, Some}
use Rattle.std.specs.Prelude.{slice_range}
use Rattle.ir_memory.specs.Masked.Masked.{number_of_bytes}
use Rattle.ir_memory.proofs.OnMasked.Puts.{length-masked, number-some, number-none}
use Rattle.ir_memory.proofs.masked.masked.MaskedBytes.number.Goals as goal

pub has_any-requires-clause-within : goal.has_any-requires-clause-within
has_any-requires-clause-within c =
    let long = sym (length-masked _ _) ∙ ap length c.self.view_is in omega (arith, long, c.self.inside.bytes.ok.0, c.self.inside.bytes.small)

pub has_any-requires-clause-small : goal.has_any-requires-clause-small
has_any-requires-clause-small c =
    let long = sym (length-masked _ _) ∙ ap length c.self.view_is in omega (arith, long, c.self.inside.bytes.ok.0, c.self.inside.bytes.small)

pub overflow_add-at : goal.overflow_add-at
overflow_add-at c =
    let long = sym (length-masked _ _) ∙ ap length c.self.view_is in omega (arith, long, c.self.inside.bytes.ok.0, c.self.inside.bytes.small)

pub slice_bounds-number_of_bytes-end : goal.slice_bounds-number_of_bytes-end
slice_bounds-number_of_bytes-end c =
    let long = sym (length-masked _ _) ∙ ap length c.self.view_is in omega (arith, long, c.self.inside.bytes.ok.0, c.self.inside.bytes.small)

pub returns-then-has_any-clause-value : goal.returns-then-has_any-clause-value
returns-then-has_any-clause-value c =
    let long = sym (length-masked _ _) ∙ ap length c.self.view_is in
    let one = c.has_any.ensures.some c.if-has_any.true in
    rw (← c.self.view_is) (sym (number-none _ c.self.inside.bytes.items c.args.at c.args.count (omega (arith, long, c.requires.within)) one.0 one.1 one.2))

pub returns-clause-value : goal.returns-clause-value
returns-clause-value c =
    let long = sym (length-masked _ _) ∙ ap length c.self.view_is in
    rw (← c.self.view_is) (ap Some (c.number_of_bytes.ensures.value ∙ ap (λ bs. number_of_bytes (slice_range bs c.args.at (c.args.at + c.args.count))) c.deref.ensures.value) ∙ sym (number-some _ c.self.inside.bytes.items c.args.at c.args.count (omega (arith, long, c.requires.within)) (c.has_any.ensures.none c.if-has_any.false)))
