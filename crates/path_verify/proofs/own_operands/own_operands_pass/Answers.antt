use Rattle.std.proofs.Common.{◌&&◌, ◌∷◌, [], List, All, length, true, sym, ap, ◌∙◌, subst}
use Rattle.std.specs.List.{list_all}
use Rattle.std.proofs.lemmas.Bool.{false≢true}
use Rattle.std.proofs.lemmas.List.Elements.{All-tail}
use Rattle.module_arena.specs.Known.{HasOperand}
use Rattle.module_arena.specs.declared.instruction.Call.{Call}
use Rattle.module_arena.specs.declared.instruction.Choice.{Choice}
use Rattle.module_arena.specs.declared.instruction.Insertion.{Insertion}
use Rattle.module_arena.specs.declared.instruction.Operand.{Operand}
use Rattle.path_rows.specs.Operands.{operands_of}
use Rattle.path_verify.specs.Ready.{operand_passes}
use Rattle.path_verify.proofs.own_operands.own_operands_pass.Goals as goal

pub operands_pass-others-requires-clause-known : goal.operands_pass-others-requires-clause-known
operands_pass-others-requires-clause-known c =
    let a = c.args.judge.now in
    let known = HasOperand (length a.table.types) (length a.constants) (length c.args.types.now) in
    subst (λ (os : List Operand). All known os) (sym c.as_slice.ensures)
    (All-tail known c.in-GetElementPtr.base c.in-GetElementPtr.indices (subst (λ i. All known (operands_of i)) c.in-GetElementPtr.is c.requires.known))

pub returns-in-Phi : goal.returns-in-Phi
returns-in-Phi c passes = absurd (false≢true passes)

pub returns-in-Binary : goal.returns-in-Binary
returns-in-Binary c passes =
    let p = operand_passes c.args.judge.now.table c.args.types.now c.args.given in
    ap (λ i. list_all p (operands_of i)) c.in-Binary.is
    ∙ sym c.pair_passes.ensures ∙ passes

pub returns-in-Compare : goal.returns-in-Compare
returns-in-Compare c passes =
    let p = operand_passes c.args.judge.now.table c.args.types.now c.args.given in
    ap (λ i. list_all p (operands_of i)) c.in-Compare.is
    ∙ sym c.pair_passes-in-Compare.ensures ∙ passes

pub returns-in-Convert : goal.returns-in-Convert
returns-in-Convert c passes =
    let p = operand_passes c.args.judge.now.table c.args.types.now c.args.given in
    ap (λ i. list_all p (operands_of i)) c.in-Convert.is
    ∙ (let here = sym c.operand_passes.ensures ∙ passes in λ j. here j && true)

pub returns-in-Freeze : goal.returns-in-Freeze
returns-in-Freeze c passes =
    let p = operand_passes c.args.judge.now.table c.args.types.now c.args.given in
    ap (λ i. list_all p (operands_of i)) c.in-Freeze.is
    ∙ (let here = sym c.operand_passes-in-Freeze.ensures ∙ passes in λ j. here j && true)

pub returns-in-Load : goal.returns-in-Load
returns-in-Load c passes =
    let p = operand_passes c.args.judge.now.table c.args.types.now c.args.given in
    ap (λ i. list_all p (operands_of i)) c.in-Load.is
    ∙ (let here = sym c.operand_passes-in-Load.ensures ∙ passes in λ j. here j && true)

pub returns-in-ExtractValue : goal.returns-in-ExtractValue
returns-in-ExtractValue c passes =
    let p = operand_passes c.args.judge.now.table c.args.types.now c.args.given in
    ap (λ i. list_all p (operands_of i)) c.in-ExtractValue.is
    ∙ (let here = sym c.operand_passes-in-ExtractValue.ensures ∙ passes in λ j. here j && true)

pub returns-in-Select : goal.returns-in-Select
returns-in-Select c passes =
    let p = operand_passes c.args.judge.now.table c.args.types.now c.args.given in
    ap (λ i. list_all p (operands_of i)) c.in-Select.is
    ∙ sym (ap (λ (k : Choice). list_all p (k.condition ∷ k.first ∷ k.second ∷ [])) c.get-choice.ensures) ∙ sym c.operands_pass.ensures ∙ passes

pub returns-in-Store : goal.returns-in-Store
returns-in-Store c passes =
    let p = operand_passes c.args.judge.now.table c.args.types.now c.args.given in
    ap (λ i. list_all p (operands_of i)) c.in-Store.is
    ∙ sym c.operands_pass-in-Store.ensures ∙ passes

pub returns-in-Alloca : goal.returns-in-Alloca
returns-in-Alloca c passes =
    let p = operand_passes c.args.judge.now.table c.args.types.now c.args.given in
    ap (λ i. list_all p (operands_of i)) c.in-Alloca.is
    ∙ c.count_passes.ensures passes

pub returns-in-GetElementPtr : goal.returns-in-GetElementPtr
returns-in-GetElementPtr c passes =
    let p = operand_passes c.args.judge.now.table c.args.types.now c.args.given in
    ap (λ i. list_all p (operands_of i)) c.in-GetElementPtr.is
    ∙ ap (λ (os : List Operand). p c.in-GetElementPtr.base && list_all p os) (sym c.as_slice.ensures)
    ∙ (λ j. sym c.operand_passes-in-GetElementPtr.ensures j && sym c.operands_pass-others.ensures j)
    ∙ passes

pub returns-in-Call : goal.returns-in-Call
returns-in-Call c passes =
    let p = operand_passes c.args.judge.now.table c.args.types.now c.args.given in
    ap (λ i. list_all p (operands_of i)) c.in-Call.is
    ∙ ap (λ (os : List Operand). list_all p os) (sym (c.as_slice-in-Call.ensures ∙ ap (λ (k : Call). k.arguments) c.get.ensures))
    ∙ sym c.operands_pass-in-Call.ensures
    ∙ passes

pub returns-in-InsertValue : goal.returns-in-InsertValue
returns-in-InsertValue c passes =
    let p = operand_passes c.args.judge.now.table c.args.types.now c.args.given in
    ap (λ i. list_all p (operands_of i)) c.in-InsertValue.is
    ∙ sym (ap (λ (k : Insertion). list_all p (k.aggregate ∷ k.part ∷ [])) c.get-insertion.ensures) ∙ sym c.operands_pass-in-InsertValue.ensures ∙ passes
