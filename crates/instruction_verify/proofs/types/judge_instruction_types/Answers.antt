use Rattle.std.proofs.Common.{List, [], ◌∷◌, sym, ap, ◌∙◌, subst}
use Rattle.entry_verify.proofs.OnConstants.ConstantsKnown.{own_structs}
use Rattle.module_arena.specs.Valid.{Demand, InstructionOf}
use Rattle.module_arena.specs.ValueRules as rules
use Rattle.type_table.specs.Types.{Types, structs}
use Rattle.entry_verify.specs.Types.Judged.{Judged, asks}
use Rattle.instruction_verify.specs.ArenaOperands.{instruction_in}
use Rattle.instruction_verify.proofs.Asked.{demand}
use Rattle.instruction_verify.proofs.Within.{types_within, written_within}
use Rattle.instruction_verify.proofs.types.judge_instruction_types.Goals as goal

pub arithmetic_suits-arithmetic-requires : goal.arithmetic_suits-arithmetic-requires
arithmetic_suits-arithmetic-requires c = types_within c.args.judge.now c.types-types.result.now c.types-types.ensures c.args.instruction.now c.requires

pub cast_suits-cast-requires-clause-operands : goal.cast_suits-cast-requires-clause-operands
cast_suits-cast-requires-clause-operands c = types_within c.args.judge.now c.types-types.result.now c.types-types.ensures c.args.instruction.now c.requires

pub address_suits-address-requires : goal.address_suits-address-requires
address_suits-address-requires c = types_within c.args.judge.now c.types-types.result.now c.types-types.ensures c.args.instruction.now c.requires

pub part_suits-part-requires : goal.part_suits-part-requires
part_suits-part-requires c = types_within c.args.judge.now c.types-types.result.now c.types-types.ensures c.args.instruction.now c.requires

pub cast_suits-cast-requires-clause-written : goal.cast_suits-cast-requires-clause-written
cast_suits-cast-requires-clause-written c = written_within c.args.judge.now c.types-types.result.now c.types-types.ensures c.args.instruction.now c.requires

pub returns : goal.returns
returns c values blocks =
    let a = c.args.judge.now in
    let entity = InstructionOf c.args.number c.args.function.now in
    let o = (instruction_in a values blocks c.args.instruction.now).operation in
    let same = c.types-types.ensures in
    let part = c.part_suits-part.ensures a values blocks same ∙ ap (λ (t : Types). rules.part_suits (structs t) o) same ∙ ap (λ s. rules.part_suits s o) (sym (own_structs a)) in
    let element = c.element_address_suits.ensures values blocks ∙ ap (λ s. rules.element_address_suits s o) (sym (own_structs a)) in
    subst (λ (ds : List Demand). Judged ds c.judge_instruction.result)
    (ap (asks entity) (λ j. c.asked.ensures j ∷ c.asked-2.ensures j ∷ c.asked-3.ensures j ∷ c.asked-4.ensures j ∷ c.asked-5.ensures j ∷ [])
    ∙ (λ j.
    demand entity 12 (c.arithmetic_suits-arithmetic.ensures a values blocks same j)
    ∷ demand entity 13 (c.cast_suits-cast.ensures a values blocks same j)
    ∷ demand entity 14 (c.address_suits-address.ensures a values blocks same j)
    ∷ demand entity 15 (element j)
    ∷ demand entity 16 (part j)
    ∷ []))
    c.judge_instruction.ensures
