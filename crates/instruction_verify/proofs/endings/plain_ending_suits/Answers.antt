use Rattle.std.proofs.Common.{sym, ap, ◌∙◌}
use Rattle.std.proofs.lemmas.Bool.{false≢true}
use Rattle.type_table.specs.Types.{Types, tree}
use Rattle.module_arena.specs.Same.{same_type}
use Rattle.module_arena.specs.TypeTests.{is_integer_of, is_void}
use Rattle.module_arena.specs.ValueRules as rules
use Rattle.instruction_verify.specs.ArenaOperands.{ending_in}
use Rattle.instruction_verify.proofs.endings.plain_ending_suits.Goals as goal

pub returns-in-ReturnVoid : goal.returns-in-ReturnVoid
returns-in-ReturnVoid c f values blocks e passes =
    let a = c.args.judge.now in
    sym (c.is_void.ensures ∙ ap (λ (u : Types). is_void (tree u c.args.returns)) c.types-types.ensures ∙ ap is_void (sym e) ∙ ap (λ x. rules.ending_suits f (ending_in a values blocks x)) (sym c.in-ReturnVoid.is))
    ∙ passes

pub returns-in-Return : goal.returns-in-Return
returns-in-Return c f values blocks e passes =
    let a = c.args.judge.now in
    sym (c.same_type.ensures ∙ ap (λ (u : Types). same_type (tree u c.in-Return.operand.ty) (tree u c.args.returns)) c.types-types.ensures ∙ ap (same_type (tree a.table c.in-Return.operand.ty)) (sym e) ∙ ap (λ x. rules.ending_suits f (ending_in a values blocks x)) (sym c.in-Return.is))
    ∙ passes

pub returns-in-Branch : goal.returns-in-Branch
returns-in-Branch c f values blocks e passes =
    let a = c.args.judge.now in
    sym (c.is_integer_of.ensures ∙ ap (λ (u : Types). is_integer_of 1 (tree u c.in-Branch.condition.ty)) c.types-types.ensures ∙ ap (λ x. rules.ending_suits f (ending_in a values blocks x)) (sym c.in-Branch.is))
    ∙ passes

pub returns-in-Switch : goal.returns-in-Switch
returns-in-Switch c f values blocks e passes = absurd (false≢true passes)

pub returns-in-Jump : goal.returns-in-Jump
returns-in-Jump c f values blocks e passes =
    let a = c.args.judge.now in
    ap (λ x. rules.ending_suits f (ending_in a values blocks x)) c.in-Jump.is

pub returns-in-Unreachable : goal.returns-in-Unreachable
returns-in-Unreachable c f values blocks e passes =
    let a = c.args.judge.now in
    ap (λ x. rules.ending_suits f (ending_in a values blocks x)) c.in-Unreachable.is
