use Rattle.std.proofs.Common.{length, ap, subst}
use Rattle.module_arena.specs.declared.instruction.Inst.{Inst}
use Rattle.record_write.proofs.OnOperands.Chain.{reworded}
use Rattle.bitcode_write.specs.Lines.Ids.{KnowsParts}
use Rattle.bitcode_write.specs.Lines.Parts.{choice_operands, call_operands, insertion_operands}
use Rattle.bitcode_write.proofs.OnLines.Lines.{incoming_known, indices_known, call_known}
use Rattle.bitcode_write.proofs.lines.instruction.put_parts.Goals as goal

pub put_phi-requires-clause-incoming : goal.put_phi-requires-clause-incoming
put_phi-requires-clause-incoming c =
    let a = c.args.numbering.now in
    incoming_known (length a.constants) c.in-Phi.incoming (subst (λ (i : Inst). KnowsParts a c.args.function.now i) c.in-Phi.is c.requires).values

pub put_steps-requires-clause-indices : goal.put_steps-requires-clause-indices
put_steps-requires-clause-indices c =
    let a = c.args.numbering.now in
    indices_known a c.in-GetElementPtr.base c.in-GetElementPtr.indices (subst (λ (i : Inst). KnowsParts a c.args.function.now i) c.in-GetElementPtr.is c.requires).operands

pub put_call-requires : goal.put_call-requires
put_call-requires c =
    let a = c.args.numbering.now in
    rw c.get-in-Call.ensures (call_known a c.args.function.now c.in-Call.call (subst (λ (i : Inst). KnowsParts a c.args.function.now i) c.in-Call.is c.requires))

pub returns-in-Binary : goal.returns-in-Binary
returns-in-Binary c = λ body stands.
    let a = c.args.numbering.now in
    let f = c.args.function.now in
    let here = rw c.in-Binary.is at stands in
    rw c.in-Binary.is (c.put_both.ensures f body here.0 here.1)

pub returns-in-Compare : goal.returns-in-Compare
returns-in-Compare c = λ body stands.
    let a = c.args.numbering.now in
    let f = c.args.function.now in
    let here = rw c.in-Compare.is at stands in
    rw c.in-Compare.is (c.put_compare.ensures f body here.0 here.1)

pub returns-in-Convert : goal.returns-in-Convert
returns-in-Convert c = λ body stands.
    let a = c.args.numbering.now in
    let f = c.args.function.now in
    let here = rw c.in-Convert.is at stands in
    rw c.in-Convert.is (c.put_convert.ensures f body here)

pub returns-in-Select : goal.returns-in-Select
returns-in-Select c = λ body stands.
    let a = c.args.numbering.now in
    let f = c.args.function.now in
    let here = rw c.in-Select.is at stands in
    rw c.in-Select.is (reworded _ _ _ _ _ (c.put_choice.ensures f (rw c.get.ensures here)) (ap (choice_operands a f) c.get.ensures))

pub returns-in-Freeze : goal.returns-in-Freeze
returns-in-Freeze c = λ body stands.
    let a = c.args.numbering.now in
    let f = c.args.function.now in
    let here = rw c.in-Freeze.is at stands in
    rw c.in-Freeze.is (c.put_operand.ensures f body here)

pub returns-in-Phi : goal.returns-in-Phi
returns-in-Phi c = λ body stands.
    let a = c.args.numbering.now in
    let f = c.args.function.now in
    let here = rw c.in-Phi.is at stands in
    rw c.in-Phi.is (c.put_phi.ensures f body here)

pub returns-in-Load : goal.returns-in-Load
returns-in-Load c = λ body stands.
    let a = c.args.numbering.now in
    let f = c.args.function.now in
    let here = rw c.in-Load.is at stands in
    rw c.in-Load.is (c.put_load.ensures f body here.0 here.1)

pub returns-in-Store : goal.returns-in-Store
returns-in-Store c = λ body stands.
    let a = c.args.numbering.now in
    let f = c.args.function.now in
    let here = rw c.in-Store.is at stands in
    rw c.in-Store.is (c.put_store.ensures f body here.0 here.1 here.2)

pub returns-in-Alloca : goal.returns-in-Alloca
returns-in-Alloca c = λ body stands.
    let a = c.args.numbering.now in
    let f = c.args.function.now in
    let here = rw c.in-Alloca.is at stands in
    rw c.in-Alloca.is (c.put_alloca.ensures f body here.0 here.1)

pub returns-in-GetElementPtr : goal.returns-in-GetElementPtr
returns-in-GetElementPtr c = λ body stands.
    let a = c.args.numbering.now in
    let f = c.args.function.now in
    let here = rw c.in-GetElementPtr.is at stands in
    rw c.in-GetElementPtr.is (c.put_steps.ensures f body here.0 here.1)

pub returns-in-Call : goal.returns-in-Call
returns-in-Call c = λ body stands.
    let a = c.args.numbering.now in
    let f = c.args.function.now in
    let here = rw c.in-Call.is at stands in
    rw c.in-Call.is (reworded _ _ _ _ _ (c.put_call.ensures body (rw c.get-in-Call.ensures here)) (ap (call_operands a f) c.get-in-Call.ensures))

pub returns-in-ExtractValue : goal.returns-in-ExtractValue
returns-in-ExtractValue c = λ body stands.
    let a = c.args.numbering.now in
    let f = c.args.function.now in
    let here = rw c.in-ExtractValue.is at stands in
    rw c.in-ExtractValue.is (c.put_extraction.ensures f body here)

pub returns-in-InsertValue : goal.returns-in-InsertValue
returns-in-InsertValue c = λ body stands.
    let a = c.args.numbering.now in
    let f = c.args.function.now in
    let here = rw c.in-InsertValue.is at stands in
    rw c.in-InsertValue.is (reworded _ _ _ _ _ (c.put_insertion.ensures f body (rw c.get-in-InsertValue.ensures here.0) (rw c.get-in-InsertValue.ensures here.1)) (ap (insertion_operands a f) c.get-in-InsertValue.ensures))
