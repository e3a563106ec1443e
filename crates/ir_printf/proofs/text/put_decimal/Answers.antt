use Rattle.std.proofs.Common.{◌++◌, ◌∙◌, List, ℕ, ap, append_assoc}
use Rattle.ir_printf.proofs.text.put_decimal.Goals as goal

pub returns-in-Ok-clause-ok : goal.returns-in-Ok-clause-ok
returns-in-Ok-clause-ok c =
    let old = c.args.into.now.items in
    c.in-Ok.ensures.items
    ∙ ap (λ (xs : List ℕ). xs ++ c.as_bytes-digits.result.now) c.in_ok-put_front.ensures.ok
    ∙ append_assoc old c.args.front.now c.as_bytes-digits.result.now
    ∙ ap (λ (xs : List ℕ). old ++ (c.args.front.now ++ xs)) (c.as_bytes-digits.ensures.value ∙ c.format.ensures.text)
