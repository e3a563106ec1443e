use Rattle.std.proofs.Common.{◌≡◌, ℕ, ◌+◌, List, [], ◌∷◌, ◌++◌, replicate, ap, sym, ◌∙◌, append_assoc}
use Rattle.std.proofs.lemmas.List.{replicate-append-replicate, append-nil}
use Rattle.ir_printf.proofs.text.put_times.Goals as goal

once_more : (front x : List ℕ) (n b : ℕ) → x ≡ front ++ replicate n b → x ++ b ∷ [] ≡ front ++ replicate (n + 1) b
once_more front x n b e = ap (λ y. y ++ b ∷ []) e ∙ append_assoc front (replicate n b) (b ∷ []) ∙ ap (λ y. front ++ y) (replicate-append-replicate n 1 b)

pub times-init : goal.times-init
times-init c = sym (append-nil c.args.text.now)

pub times-preserved : goal.times-preserved
times-preserved c = c.in_ok-push.ensures.ok ∙ once_more c.args.text.now c.times.text c.times.counter c.args.byte c.times.invariant
