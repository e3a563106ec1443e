use Rattle.std.proofs.Common.{◌<◌, ◌&&◌, List, [], All, length, map, sym, ap, ◌∙◌, subst}
use Rattle.std.proofs.lemmas.List.Elements.{All-head, All-tail}
use Rattle.type_table.specs.Types.{Types, structs, tree}
use Rattle.module_arena.specs.Constants.{indices_fit}
use Rattle.module_arena.specs.Mentions.{operands_of, types_of}
use Rattle.module_arena.specs.TypeTests.{is_pointer}
use Rattle.module_arena.specs.ValueRules.{element_address_suits}
use Rattle.module_arena.specs.declared.instruction.Operand.{Operand}
use Rattle.instruction_verify.specs.ArenaOperands.{HasOperand, index_in, instruction_in}
use Rattle.instruction_verify.proofs.ElementsTold.{indices_listed}
use Rattle.instruction_verify.proofs.NothingAsked.{no_element}
use Rattle.instruction_verify.proofs.elements.element_address_suits.Goals as goal

pub is_pointer-pointer-requires : goal.is_pointer-pointer-requires
is_pointer-pointer-requires c =
    let a = c.args.judge.now in
    let known = subst (λ i. All (HasOperand a) (operands_of i)) c.in-GetElementPtr.is c.requires.operands_known in
    subst (λ (u : Types). c.in-GetElementPtr.base.ty < length u.types) (sym c.types.ensures) (All-head (HasOperand a) c.in-GetElementPtr.base c.in-GetElementPtr.indices known).0

pub indices_fit-requires-clause-source : goal.indices_fit-requires-clause-source
indices_fit-requires-clause-source c =
    let a = c.args.judge.now in
    All-head (λ ty. ty < length a.table.types) c.in-GetElementPtr.source [] (subst (λ i. All (λ ty. ty < length a.table.types) (types_of i)) c.in-GetElementPtr.is c.requires.types_known)

pub indices_fit-requires-clause-known : goal.indices_fit-requires-clause-known
indices_fit-requires-clause-known c =
    let a = c.args.judge.now in
    let known = subst (λ i. All (HasOperand a) (operands_of i)) c.in-GetElementPtr.is c.requires.operands_known in
    subst (λ (os : List Operand). All (HasOperand a) os) (sym c.as_slice.ensures) (All-tail (HasOperand a) c.in-GetElementPtr.base c.in-GetElementPtr.indices known)

pub returns-in-GetElementPtr : goal.returns-in-GetElementPtr
returns-in-GetElementPtr c values blocks =
    let a = c.args.judge.now in
    let s = structs a.table in
    let source = tree a.table c.in-GetElementPtr.source in
    let base = c.is_pointer-pointer.ensures ∙ ap (λ (u : Types). is_pointer (tree u c.in-GetElementPtr.base.ty)) c.types.ensures in
    let fit = c.indices_fit.ensures values blocks
    ∙ ap (λ (os : List Operand). indices_fit s source (map (index_in a values blocks) os)) c.as_slice.ensures
    ∙ ap (indices_fit s source) (indices_listed a values blocks c.in-GetElementPtr.indices) in
    (λ j. base j && fit j) ∙ ap (λ i. element_address_suits s (instruction_in a values blocks i).operation) (sym c.in-GetElementPtr.is)

pub returns-in_default : goal.returns-in_default
returns-in_default c values blocks = no_element c.args.judge.now values blocks (structs c.args.judge.now.table) c.args.instruction.now c.in_default.not-GetElementPtr
