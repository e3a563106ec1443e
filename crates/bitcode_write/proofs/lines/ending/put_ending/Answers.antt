use Rattle.std.proofs.Common.{◌∷◌, List, ℕ, sym, ap, subst, ◌∙◌}
use Rattle.std.proofs.lemmas.List.{append-nil}
use Rattle.module_arena.specs.declared.instruction.Ending as the_ending
use Rattle.bitcode_write.specs.Lines.Ids.{KnowsEnd}
use Rattle.record_write.proofs.OnOperands.Chain.{reworded}
use Rattle.record_write.proofs.OnOperands.Inside.{block_spelled}
use Rattle.bitcode_write.specs.Lines.Parts.{switch_operands}
use Rattle.bitcode_write.proofs.OnLines.Ends.{EndStands, cases_known, end_stands, switch_spelled}
use Rattle.bitcode_write.proofs.lines.ending.put_ending.Goals as goal

pub put_switch-requires-clause-cases : goal.put_switch-requires-clause-cases
put_switch-requires-clause-cases c =
    let a = c.args.numbering.now in
    rw c.as_slice.ensures (cases_known a c.in-Switch.value c.in-Switch.otherwise c.in-Switch.cases (subst (λ (e : the_ending.Ending). KnowsEnd a e) c.in-Switch.is c.requires))

pub returns-in-ReturnVoid : goal.returns-in-ReturnVoid
returns-in-ReturnVoid c = λ f is. rw c.in-ReturnVoid.is c.put_number.ensures

pub returns-in-Return : goal.returns-in-Return
returns-in-Return c = λ f is.
    let here = subst (EndStands c.args.numbering.now f) c.in-Return.is (end_stands c.args.numbering.now f c.args.ending.now is) in
    rw c.in-Return.is (c.put_some.ensures f is.body here)

pub returns-in-Jump : goal.returns-in-Jump
returns-in-Jump c = λ f is.
    let here = subst (EndStands c.args.numbering.now f) c.in-Jump.is (end_stands c.args.numbering.now f c.args.ending.now is) in
    rw c.in-Jump.is (reworded _ _ _ _ _ c.put_jump.ensures (ap (λ (l : List ℕ). 0 ∷ l) (block_spelled c.args.numbering.now f c.in-Jump.to is.body here)))

pub returns-in-Branch : goal.returns-in-Branch
returns-in-Branch c = λ f is.
    let here = subst (EndStands c.args.numbering.now f) c.in-Branch.is (end_stands c.args.numbering.now f c.args.ending.now is) in
    rw c.in-Branch.is (c.put_branch.ensures f is.body here.0 here.1 here.2)

pub returns-in-Switch : goal.returns-in-Switch
returns-in-Switch c = λ f is.
    let a = c.args.numbering.now in
    let here = subst (EndStands a f) c.in-Switch.is (end_stands a f c.args.ending.now is) in
    rw c.in-Switch.is (reworded _ _ _ _ _ (c.put_switch.ensures f is.body here.0 here.1 (rw c.as_slice.ensures here.2)) (ap (switch_operands a f c.in-Switch.value c.in-Switch.otherwise) c.as_slice.ensures ∙ switch_spelled a f c.in-Switch.value c.in-Switch.otherwise c.in-Switch.cases))

pub returns-in-Unreachable : goal.returns-in-Unreachable
returns-in-Unreachable c = λ f is. rw c.in-Unreachable.is (sym (append-nil c.args.operands.now.items))
