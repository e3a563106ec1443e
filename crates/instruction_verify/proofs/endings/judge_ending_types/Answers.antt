use Rattle.std.proofs.Common.{List, [], ◌∷◌, refl, ap, ◌∙◌, subst}
use Rattle.module_arena.specs.Changes.{function_in}
use Rattle.module_arena.specs.Valid.{Demand, InstructionOf}
use Rattle.entry_verify.specs.Types.Judged.{Judged, asks}
use Rattle.instruction_verify.proofs.Asked.{demand}
use Rattle.instruction_verify.proofs.endings.judge_ending_types.Goals as goal

pub returns : goal.returns
returns c values blocks =
    let a = c.args.judge.now in
    let f = function_in a c.args.function.now in
    let entity = InstructionOf c.args.number c.args.function.now.name in
    let fact = c.ending_fact-fact.ensures values blocks in
    subst (λ (ds : List Demand). Judged ds c.judge_instruction.result)
    (ap (asks entity) (λ j. c.asked.ensures j ∷ c.asked-2.ensures j ∷ [])
    ∙ (λ j. demand entity 17 (c.in_ok-suits.ensures f values blocks refl j) ∷ demand entity 18 (fact j).fits ∷ []))
    c.judge_instruction.ensures
