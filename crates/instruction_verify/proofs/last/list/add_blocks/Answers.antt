use Rattle.std.proofs.Common.{List, All, flat_map, sym, ap, subst, arith}
use Rattle.std.proofs.lemmas.List.{take_all}
use Rattle.module_arena.specs.declared.entry.Block.{Block}
use Rattle.module_arena.specs.declared.instruction.Inst.{Inst}
use Rattle.instruction_verify.specs.Last.Given.{HasBlock, HasTypes, given, given_in}
use Rattle.instruction_verify.proofs.OnLast.Behind.{given_next, grows_both, grows_none, grows_told}
use Rattle.instruction_verify.proofs.last.list.add_blocks.Goals as goal

pub add_results-requires : goal.add_results-requires
add_results-requires c =
    let t = c.args.types.now in
    let block = c.block-item.result in
    let known = subst (HasBlock t) (sym c.block-item.is) (c.requires c.parts.block-index block (omega arith)) in
    subst (λ (is : List Inst). All (HasTypes t) is) (sym c.as_slice.ensures) known

pub parts-init : goal.parts-init
parts-init c = grows_none c.args.types.now _

pub parts-preserved : goal.parts-preserved
parts-preserved c =
    let t = c.args.types.now in
    let one = grows_told t (ap (λ (is : List Inst). flat_map (given t) is) c.as_slice.ensures) c.in_ok-add_results.ensures in
    grows_told t (given_next (given_in t) c.args.blocks.now c.parts.block-index c.block-item.result (omega arith) c.block-item.is) (grows_both t c.parts.invariant one)

pub returns : goal.returns
returns c =
    let t = c.args.types.now in
    grows_told t (ap (λ (bs : List Block). flat_map (given_in t) bs) (take_all c.parts.block-index c.args.blocks.now (omega arith))) c.parts.invariant
