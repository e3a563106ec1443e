use Rattle.std.proofs.Common.{◌≡◌, ◌<◌, sym, ap, ◌∙◌, length, get_or, false, Some, None, arith}
use Rattle.ir_memory.proofs.OnMasked.Puts.{length-masked, got}
use Rattle.ir_memory.proofs.masked.masked.MaskedBytes.is_clean.Goals as goal

pub returns : goal.returns
returns c = λ e k within none.
    let bytes = c.self.inside.bytes.items in
    let long = sym (length-masked _ _) ∙ ap length c.self.view_is in
    let lt : k < length bytes = omega (arith, long, within) in
    let known = got c.self.inside.marks bytes k false lt (sym (c.self.invariant.1 e k)) in
    let poison = rw (← c.self.view_is) at none in
    let wrong : Some (get_or bytes k 0) ≡ None = sym known ∙ poison in
    cc
