use Rattle.std.proofs.Common.{Some, [], sym, ap, ◌∙◌, All, subst}
use Rattle.std.proofs.lemmas.List.Elements.{All-head}
use Rattle.module_arena.specs.InstructionRules.{callee_types_suit}
use Rattle.module_arena.specs.Mentions.{bare_values_of}
use Rattle.module_arena.specs.Operations.{callee}
use Rattle.module_arena.specs.View.{module_of}
use Rattle.module_arena.specs.declared.instruction.Call.{Call}
use Rattle.instruction_verify.specs.ArenaOperands.{HasConstant, instruction_in, value_in}
use Rattle.instruction_verify.proofs.CalleesTold.{no_callee}
use Rattle.instruction_verify.proofs.callees.callee_types_suit.Goals as goal

pub called_types_suit-requires : goal.called_types_suit-requires
called_types_suit-requires c =
    let a = c.args.judge.now in
    subst (λ (k : Call). HasConstant a k.callee) (sym c.get.ensures) (All-head (HasConstant a) c.in-Call.call.callee [] (subst (λ i. All (HasConstant a) (bare_values_of i)) c.in-Call.is c.requires))

pub returns-in-Call : goal.returns-in-Call
returns-in-Call c values blocks =
    let a = c.args.judge.now in
    let m = module_of a in
    c.called_types_suit.ensures values blocks
    ∙ ap (λ (k : Call). callee_types_suit m.structs (Some (value_in a values blocks k.callee))) c.get.ensures
    ∙ ap (λ i. callee_types_suit m.structs (callee (instruction_in a values blocks i).operation)) (sym c.in-Call.is)

pub returns-in_default : goal.returns-in_default
returns-in_default c values blocks =
    let a = c.args.judge.now in
    let m = module_of a in
    ap (callee_types_suit m.structs) (no_callee a values blocks c.args.instruction.now c.in_default.not-Call)
