use Rattle.std.proofs.Common.{[], ◌∷◌, subst}
use Rattle.module_arena.specs.Valid.{TheModule, Test}
use Rattle.module_arena.specs.View as view
use Rattle.entry_verify.specs.declared.types.judged.Check.{Check}
use Rattle.entry_verify.specs.Types.Judged.{Judged, asks}
use Rattle.path_verify.proofs.module_line.judge_module_line.Goals as goal

pub returns : goal.returns
unfolding view.module_of
returns c =
    subst (λ b. Judged (record { entity = TheModule; rule = 1; fact = Test b } ∷ []) c.judge_module.result) c.layout_suits.ensures
    (subst (λ (k : Check). Judged (asks TheModule (k ∷ [])) c.judge_module.result) c.asked.ensures c.judge_module.ensures)
