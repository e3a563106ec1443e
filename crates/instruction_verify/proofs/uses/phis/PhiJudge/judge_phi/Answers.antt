use Rattle.std.proofs.Common.{List, [], ◌∷◌, ap, ◌∙◌, subst}
use Rattle.module_arena.specs.Valid.{Demand, InstructionOf, ask}
use Rattle.entry_verify.specs.Types.Judged.{Judged, asks}
use Rattle.instruction_verify.proofs.OnUses.Named.{names_apart}
use Rattle.instruction_verify.proofs.OnUses.PhisTold.{suits_told}
use Rattle.instruction_verify.proofs.uses.phis.PhiJudge.judge_phi.Goals as goal

pub returns-clause-judged : goal.returns-clause-judged
returns-clause-judged c a g block r apart_values told name behind =
    let f = c.args.function.now in
    let i = c.args.instruction.now in
    let to = c.args.site.block in
    let entity = InstructionOf c.args.site.number f.name in
    let classes = c.args.classes.now in
    let suits =
    c.in_ok-suits.ensures.suits
    ∙ suits_told a f apart_values (names_apart a f g r) classes told c.requires.targets to c.requires.block block name c.args.site.before c.args.behind_phis behind i c.requires.known c.requires.classes in
    subst (λ (ds : List Demand). Judged ds c.judge_instruction.result)
    (ap (asks entity) (λ j. c.asked.ensures j ∷ []) ∙ (λ j. ask entity 9 (suits j) ∷ []))
    c.judge_instruction.ensures
