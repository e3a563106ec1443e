use Rattle.std.proofs.Common.{drop}
use Rattle.module_arena.specs.Changes.{function_in}
use Rattle.module_arena.specs.Valid.{blocks_demands}
use Rattle.module_arena.specs.View.{module_of}
use Rattle.entry_verify.proofs.OnTypes.Judging.{Leads}
use Rattle.instruction_verify.specs.Uses.Edges.{MayBeSourced}
use Rattle.path_verify.specs.Ready.{blocks_in}
use Rattle.path_verify.proofs.blocks.judge_blocks.Given as goal

-- who judges the rest of the blocks has judged all of them
abbrev pub invariant-in_order : goal.invariant-in_order
invariant-in_order l =
    let a = l.facts.judge.now in
    let f = l.facts.function.now in
    record {
      sourced : MayBeSourced f l.phis;
      leads : Leads (blocks_demands (module_of a) (function_in a f) l.number (drop l.index (blocks_in a f))) (blocks_demands (module_of a) (function_in a f) 0 (blocks_in a f));
    }
