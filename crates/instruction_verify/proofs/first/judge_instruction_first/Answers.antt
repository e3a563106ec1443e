use Rattle.std.proofs.Common.{◌&&◌, List, [], ◌∷◌, sym, ap, ◌∙◌, subst}
use Rattle.entry_verify.proofs.OnConstants.ConstantsKnown.{own_structs}
use Rattle.instruction_verify.proofs.Asked.{demand}
use Rattle.module_arena.specs.Valid.{Demand, InstructionOf}
use Rattle.type_table.specs.Types.{Types, structs}
use Rattle.entry_verify.specs.Types.Judged.{Judged, asks}
use Rattle.instruction_verify.specs.ArenaOperands.{instruction_in}
use Rattle.instruction_verify.specs.Parts.{own_types_suit}
use Rattle.instruction_verify.proofs.Within.{types_within, written_within}
use Rattle.instruction_verify.proofs.first.judge_instruction_first.Goals as goal

pub own_types_suit-own-requires-clause-operands : goal.own_types_suit-own-requires-clause-operands
own_types_suit-own-requires-clause-operands c = types_within c.args.judge.now c.types.result.now c.types.ensures c.args.instruction.now c.requires

pub own_types_suit-own-requires-clause-written : goal.own_types_suit-own-requires-clause-written
own_types_suit-own-requires-clause-written c = written_within c.args.judge.now c.types.result.now c.types.ensures c.args.instruction.now c.requires

pub returns : goal.returns
returns c values blocks =
    let a = c.args.judge.now in
    let entity = InstructionOf c.args.number c.args.function.now in
    let o = (instruction_in a values blocks c.args.instruction.now).operation in
    let fact = c.instruction_fact-fact.ensures values blocks in
    let free = c.callee_takes_no_intrinsic-free.ensures values blocks in
    let written = c.callee_types_suit-written.ensures values blocks in
    let own = c.own_types_suit-own.ensures a values blocks c.types.ensures ∙ ap (λ (t : Types). own_types_suit (structs t) o) c.types.ensures ∙ ap (λ s. own_types_suit s o) (sym (own_structs a)) in
    subst (λ (ds : List Demand). Judged ds c.judge_instruction.result)
    (ap (asks entity) (λ j. c.asked.ensures j ∷ c.asked-2.ensures j ∷ c.asked-3.ensures j ∷ [])
    ∙ (λ j.
    demand entity 5 ((fact j).takes_no_intrinsic && free j)
    ∷ demand entity 6 ((fact j).types_suit && (written j && own j))
    ∷ demand entity 7 (c.instruction_alignment_suits.ensures a values blocks j)
    ∷ []))
    c.judge_instruction.ensures
