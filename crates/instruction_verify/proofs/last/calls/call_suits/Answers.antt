use Rattle.std.proofs.Common.{length, sym, subst, ap, ◌∙◌}
use Rattle.type_table.specs.Types.{structs, trees}
use Rattle.module_arena.specs.ValueRules as values
use Rattle.module_arena.specs.View.{constants_of, inst_view}
use Rattle.module_arena.specs.declared.instruction.Call.{Call}
use Rattle.module_arena.specs.declared.instruction.Inst as the_inst
use Rattle.module_arena.specs.declared.instruction.Inst.TheVariants as inst
use Rattle.instruction_verify.specs.Last.CallsById.{HasUses}
use Rattle.instruction_verify.proofs.OnLast.CallsTold.{no_call}
use Rattle.instruction_verify.proofs.last.calls.call_suits.Goals as goal

pub called_suits-requires-clause-known : goal.called_suits-requires-clause-known
called_suits-requires-clause-known c =
    let a = c.args.judge.now in
    let values = length c.args.value_types.now in
    subst (λ (k : Call). HasUses a values (inst.Call k)) (sym c.get.ensures) (subst (λ (i : the_inst.Inst). HasUses a values i) c.in-Call.is c.requires.known)

pub returns-in-Call : goal.returns-in-Call
returns-in-Call c f vs bs told =
    let a = c.args.judge.now in
    let suits = λ (i : the_inst.Inst). values.call_suits (structs a.table) f (inst_view (trees a.table) (constants_of a) vs bs i).result (inst_view (trees a.table) (constants_of a) vs bs i).operation in
    c.called_suits.ensures f vs bs told
    ∙ ap (λ (k : Call). suits (inst.Call k)) c.get.ensures
    ∙ ap suits (sym c.in-Call.is)

pub returns-in_default : goal.returns-in_default
returns-in_default c f vs bs told =
    let a = c.args.judge.now in
    no_call (structs a.table) f _ (trees a.table) (constants_of a) vs bs c.args.instruction.now c.in_default.not-Call
