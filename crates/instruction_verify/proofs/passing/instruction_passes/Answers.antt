use Rattle.std.proofs.Common.{◌&&◌, sym, ap, ◌∙◌}
use Rattle.std.proofs.lemmas.Bool.{and_parts}
use Rattle.entry_verify.proofs.OnConstants.ConstantsKnown.{own_structs}
use Rattle.module_arena.specs.ValueRules as rules
use Rattle.type_table.specs.Types.{Types, structs}
use Rattle.instruction_verify.specs.ArenaOperands.{instruction_in}
use Rattle.instruction_verify.specs.Parts.{own_types_suit}
use Rattle.instruction_verify.proofs.Within.{types_within, written_within}
use Rattle.instruction_verify.proofs.passing.instruction_passes.Goals as goal

pub own_types_suit-own-requires-clause-operands : goal.own_types_suit-own-requires-clause-operands
own_types_suit-own-requires-clause-operands c = types_within c.args.judge.now c.types-types.result.now c.types-types.ensures c.args.instruction.now c.requires

pub own_types_suit-own-requires-clause-written : goal.own_types_suit-own-requires-clause-written
own_types_suit-own-requires-clause-written c = written_within c.args.judge.now c.types-types.result.now c.types-types.ensures c.args.instruction.now c.requires

pub arithmetic_suits-arithmetic-requires : goal.arithmetic_suits-arithmetic-requires
arithmetic_suits-arithmetic-requires c = types_within c.args.judge.now c.types-types.result.now c.types-types.ensures c.args.instruction.now c.requires

pub cast_suits-cast-requires-clause-operands : goal.cast_suits-cast-requires-clause-operands
cast_suits-cast-requires-clause-operands c = types_within c.args.judge.now c.types-types.result.now c.types-types.ensures c.args.instruction.now c.requires

pub cast_suits-cast-requires-clause-written : goal.cast_suits-cast-requires-clause-written
cast_suits-cast-requires-clause-written c = written_within c.args.judge.now c.types-types.result.now c.types-types.ensures c.args.instruction.now c.requires

pub address_suits-address-requires : goal.address_suits-address-requires
address_suits-address-requires c = types_within c.args.judge.now c.types-types.result.now c.types-types.ensures c.args.instruction.now c.requires

pub part_suits-part-requires : goal.part_suits-part-requires
part_suits-part-requires c = types_within c.args.judge.now c.types-types.result.now c.types-types.ensures c.args.instruction.now c.requires

pub returns-clause-first : goal.returns-clause-first
returns-clause-first c values blocks function number e =
    let a = c.args.judge.now in
    let o = (instruction_in a values blocks c.args.instruction.now).operation in
    let fact = c.instruction_fact-fact.ensures values blocks in
    let free = c.callee_takes_no_intrinsic-free.ensures values blocks in
    let written = c.callee_types_suit-written.ensures values blocks in
    let own = c.own_types_suit-own.ensures a values blocks c.types-types.ensures ∙ ap (λ (t : Types). own_types_suit (structs t) o) c.types-types.ensures ∙ ap (λ s. own_types_suit s o) (sym (own_structs a)) in
    let aligned = c.instruction_alignment_suits-aligned.ensures a values blocks in
    let first = (and_parts _ _ e).0 in
    let others = and_parts _ _ (and_parts _ _ first).1 in
    let five = sym (λ j. (fact j).takes_no_intrinsic && free j) ∙ (and_parts _ _ first).0 in
    let six = sym (λ j. (fact j).types_suit && (written j && own j)) ∙ others.0 in
    (five, (six, (sym aligned ∙ others.1, tt)))

pub returns-clause-types : goal.returns-clause-types
returns-clause-types c values blocks function number e =
    let a = c.args.judge.now in
    let o = (instruction_in a values blocks c.args.instruction.now).operation in
    let same = c.types-types.ensures in
    let element = c.element_address_suits-element.ensures values blocks ∙ ap (λ s. rules.element_address_suits s o) (sym (own_structs a)) in
    let part = c.part_suits-part.ensures a values blocks same ∙ ap (λ (t : Types). rules.part_suits (structs t) o) same ∙ ap (λ s. rules.part_suits s o) (sym (own_structs a)) in
    let twelve = and_parts _ _ (and_parts _ _ (and_parts _ _ e).1).0 in
    let thirteen = and_parts _ _ twelve.1 in
    let fourteen = and_parts _ _ thirteen.1 in
    let fifteen = and_parts _ _ fourteen.1 in
    let first = sym (c.arithmetic_suits-arithmetic.ensures a values blocks same) ∙ twelve.0 in
    let second = sym (c.cast_suits-cast.ensures a values blocks same) ∙ thirteen.0 in
    let third = sym (c.address_suits-address.ensures a values blocks same) ∙ fourteen.0 in
    (first, (second, (third, (sym element ∙ fifteen.0, (sym part ∙ fifteen.1, tt)))))

pub returns-clause-fits : goal.returns-clause-fits
returns-clause-fits c values blocks e =
    let fact = c.instruction_fact-fact.ensures values blocks in
    sym (λ j. (fact j).fits) ∙ (and_parts _ _ (and_parts _ _ e).1).1
