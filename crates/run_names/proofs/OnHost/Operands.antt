-- What an intrinsic over integers comes to.
use Rattle.std.proofs.Common.{◌≡◌, ℕ, List, [], sym, ap, ◌∙◌}
use Rattle.ir_tables.specs.declared.intrinsic.Intrinsic.{Intrinsic}
use Rattle.ir_eval.specs.declared.value.Scalar.{Scalar}
use Rattle.ir_intrinsics.specs.declared.outcome.Outcome.{Outcome}
use Rattle.ir_intrinsics.specs.Results.{apply_of}
use Rattle.ir_memory.specs.Memory.{Blocks}
use Rattle.run_rules.specs.Answer.{Gives}
use Rattle.run_rules.specs.Host.{evaluates, operand_at, outcome_leaves}

pub evaluated : (which : Intrinsic) (width : ℕ) (arguments : List Scalar) (m : Blocks) (a b c : Scalar) (o : Outcome) → a ≡ operand_at arguments 0 → b ≡ operand_at arguments 1 → c ≡ operand_at arguments 2
    → o ≡ apply_of which width a b c → evaluates which width arguments m ≡ Gives (outcome_leaves o) m []
evaluated which width arguments m a b c o first second third is =
    sym (
    ap (λ o. Gives (outcome_leaves o) m [])
    (is ∙ ap (λ x. apply_of which width x b c) first ∙ ap (λ y. apply_of which width (operand_at arguments 0) y c) second
    ∙ ap (λ z. apply_of which width (operand_at arguments 0) (operand_at arguments 1) z) third)
    )
