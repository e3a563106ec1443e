use Rattle.std.proofs.Common.{◌&&◌, List, All, nat_eq, sym, ap, ◌∙◌, subst}
use Rattle.std.specs.Prelude.{flat_map}
use Rattle.std.specs.List.{list_all}
use Rattle.std.proofs.lemmas.List.Elements.{All-tail}
use Rattle.ir_tables.specs.Table.{is_distinct}
use Rattle.module_arena.specs.Mentions.{end_operands_of}
use Rattle.module_arena.specs.declared.instruction.Case.{Case}
use Rattle.instruction_verify.specs.Parts.{is_case_at, numbers_at}
use Rattle.instruction_verify.proofs.CasesTold.{cases_known}
use Rattle.instruction_verify.proofs.SwitchTold.{if_ok, switch_told}
use Rattle.type_table.specs.Types.{Types, tree}
use Rattle.module_arena.specs.Same.{same_type}
use Rattle.module_arena.specs.TypeTests.{is_integer, is_integer_of, is_void}
use Rattle.module_arena.specs.ValueRules as rules
use Rattle.instruction_verify.specs.ArenaOperands.{HasCase, HasOperand, ending_in}
use Rattle.instruction_verify.proofs.endings.ending_suits.Goals as goal

pub returns-in-ReturnVoid : goal.returns-in-ReturnVoid
returns-in-ReturnVoid c f values blocks e =
    let a = c.args.judge.now in
    c.is_void.ensures ∙ ap (λ (u : Types). is_void (tree u c.args.returns)) c.types-types.ensures ∙ ap is_void (sym e) ∙ ap (λ x. rules.ending_suits f (ending_in a values blocks x)) (sym c.in-ReturnVoid.is)

pub returns-in-Return : goal.returns-in-Return
returns-in-Return c f values blocks e =
    let a = c.args.judge.now in
    c.same_type.ensures ∙ ap (λ (u : Types). same_type (tree u c.in-Return.operand.ty) (tree u c.args.returns)) c.types-types.ensures ∙ ap (same_type (tree a.table c.in-Return.operand.ty)) (sym e) ∙ ap (λ x. rules.ending_suits f (ending_in a values blocks x)) (sym c.in-Return.is)

pub returns-in-Branch : goal.returns-in-Branch
returns-in-Branch c f values blocks e =
    let a = c.args.judge.now in
    c.is_integer_of.ensures ∙ ap (λ (u : Types). is_integer_of 1 (tree u c.in-Branch.condition.ty)) c.types-types.ensures ∙ ap (λ x. rules.ending_suits f (ending_in a values blocks x)) (sym c.in-Branch.is)

pub returns-in-Jump : goal.returns-in-Jump
returns-in-Jump c f values blocks e =
    let a = c.args.judge.now in
    ap (λ x. rules.ending_suits f (ending_in a values blocks x)) (sym c.in-Jump.is)

pub returns-in-Unreachable : goal.returns-in-Unreachable
returns-in-Unreachable c f values blocks e =
    let a = c.args.judge.now in
    ap (λ x. rules.ending_suits f (ending_in a values blocks x)) (sym c.in-Unreachable.is)

pub switch_suits-requires-clause-cases : goal.switch_suits-requires-clause-cases
switch_suits-requires-clause-cases c =
    let a = c.args.judge.now in
    subst (λ (cs : List Case). All (HasCase a) cs) (sym c.as_slice.ensures)
    (cases_known a c.in-Switch.cases (All-tail (HasOperand a) c.in-Switch.value _ (subst (λ e. All (HasOperand a) (end_operands_of e)) c.in-Switch.is c.requires.known)))

pub returns-in-Switch : goal.returns-in-Switch
returns-in-Switch c =
    let a = c.args.judge.now in
    let t = tree a.table c.in-Switch.value.ty in
    if_ok _ _ c.switch_suits.result c.switch_suits.ensures (λ suits told f values blocks e.
    told
    ∙ ap (λ (cs : List Case). is_integer t && (list_all (is_case_at a c.in-Switch.value.ty) cs && is_distinct nat_eq (flat_map (numbers_at a) cs))) c.as_slice.ensures
    ∙ switch_told a values blocks f c.in-Switch.value c.in-Switch.otherwise c.in-Switch.cases
    ∙ ap (λ x. rules.ending_suits f (ending_in a values blocks x)) (sym c.in-Switch.is))
