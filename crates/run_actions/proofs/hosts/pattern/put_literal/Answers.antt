use Rattle.std.proofs.Common.{◌≡◌, ℕ, List, [], ◌∷◌, ◌++◌, length, get_or, refl, ap, ◌∙◌, arith}
use Rattle.run_actions.proofs.hosts.pattern.put_literal.Goals as goal

-- a list of one byte
only_byte : (bs : List ℕ) → length bs ≡ 1 → get_or bs 0 0 ∷ [] ≡ bs
only_byte [] one = absurd (omega (arith, one))
only_byte (b ∷ []) one = refl
only_byte (b ∷ c ∷ bs) one = absurd (omega (arith, one))

pub returns-then-bytes-eq1-clause-ok : goal.returns-then-bytes-eq1-clause-ok
returns-then-bytes-eq1-clause-ok c =
    c.in_ok-push.ensures.items ∙ ap (λ (bytes : List ℕ). c.args.written.now.items ++ bytes) (only_byte c.args.bytes.now c.if-bytes-eq1.true)
