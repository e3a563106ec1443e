use Rattle.std.proofs.Common.{List, [], ◌∷◌, ap, ◌∙◌, subst}
use Rattle.instruction_verify.proofs.Asked.{demand}
use Rattle.module_arena.specs.Valid.{Demand, InstructionOf}
use Rattle.entry_verify.specs.Types.Judged.{Judged, asks}
use Rattle.instruction_verify.proofs.first.judge_ending_first.Goals as goal

pub returns : goal.returns
returns c values blocks =
    let entity = InstructionOf c.args.number c.args.function.now in
    let fact = c.ending_fact-fact.ensures values blocks in
    subst (λ (ds : List Demand). Judged ds c.judge_instruction.result)
    (ap (asks entity) (λ j. c.asked.ensures j ∷ c.asked-2.ensures j ∷ [])
    ∙ (λ j. demand entity 5 (fact j).takes_no_intrinsic ∷ demand entity 6 (fact j).types_suit ∷ []))
    c.judge_instruction.ensures
