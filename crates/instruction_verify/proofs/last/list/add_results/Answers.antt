use Rattle.std.proofs.Common.{List, flat_map, sym, ap, subst, arith}
use Rattle.std.proofs.lemmas.List.{take_all}
use Rattle.module_arena.specs.declared.instruction.Inst.{Inst}
use Rattle.instruction_verify.specs.Last.Given.{HasTypes, given}
use Rattle.instruction_verify.proofs.OnLast.Behind.{given_next, grows_both, grows_none, grows_told}
use Rattle.instruction_verify.proofs.last.list.add_results.Goals as goal

pub add_result-requires : goal.add_result-requires
add_result-requires c = subst (HasTypes c.args.types.now) (sym c.instruction-item.is) (c.requires c.instructions.instruction-index c.instruction-item.result (omega arith))

pub instructions-init : goal.instructions-init
instructions-init c = grows_none c.args.types.now _

pub instructions-preserved : goal.instructions-preserved
instructions-preserved c =
    let t = c.args.types.now in
    grows_told t (given_next (given t) c.args.instructions.now c.instructions.instruction-index c.instruction-item.result (omega arith) c.instruction-item.is) (grows_both t c.instructions.invariant c.in_ok-add_result.ensures)

pub returns : goal.returns
returns c =
    let t = c.args.types.now in
    grows_told t (ap (λ (is : List Inst). flat_map (given t) is) (take_all c.instructions.instruction-index c.args.instructions.now (omega arith))) c.instructions.invariant
