use Rattle.std.proofs.Common.{ap, ◌∙◌, arith}
use Rattle.std.specs.Option.{option_map}
use Rattle.type_table.specs.Types.{tree, structs}
use Rattle.instruction_verify.specs.ArenaOperands.{index_in}
use Rattle.instruction_verify.proofs.ElementsTold.{leads_on, leads_nowhere, leads_end}
use Rattle.instruction_verify.proofs.elements.leads_to_part.Goals as goal

pub returns-in-None : goal.returns-in-None
returns-in-None c values blocks =
    let a = c.args.judge.now in
    leads_nowhere (structs a.table) (tree a.table c.indices.ty) (index_in a values blocks) c.args.indices.now c.indices.index-index c.index-item.result (omega arith) c.index-item.is
    (c.part_by.ensures.part values blocks ∙ ap (option_map (tree a.table)) c.in-None.is)
    ∙ c.indices.invariant.left values blocks

pub indices-preserved : goal.indices-preserved
indices-preserved c =
    let a = c.args.judge.now in
    record {
      known = c.in-Some.ensures.known;
      left = λ values blocks.
          leads_on (structs a.table) (tree a.table c.indices.ty) (tree a.table c.in-Some.part) (index_in a values blocks) c.args.indices.now c.indices.index-index c.index-item.result (omega arith) c.index-item.is
          (c.part_by.ensures.part values blocks ∙ ap (option_map (tree a.table)) c.in-Some.is)
          ∙ c.indices.invariant.left values blocks;
    }

pub returns : goal.returns
returns c values blocks =
    let a = c.args.judge.now in
    leads_end (structs a.table) (tree a.table c.indices.ty) (index_in a values blocks) c.args.indices.now c.indices.index-index (omega arith) ∙ c.indices.invariant.left values blocks
