use Rattle.std.proofs.Common.{◌≡◌, take}
use Rattle.std.specs.List.{list_all}
use Rattle.module_arena.specs.Changes.{function_in}
use Rattle.module_arena.specs.InstructionRules.{is_phi}
use Rattle.module_arena.specs.Valid.{instructions_demands}
use Rattle.module_arena.specs.View.{module_of}
use Rattle.entry_verify.proofs.OnTypes.Judging.{Leads}
use Rattle.instruction_verify.specs.Uses.Edges.{MayBeSourced}
use Rattle.path_verify.specs.Ready.{block_in}
use Rattle.path_verify.proofs.Ordered.{asked_from}
use Rattle.path_verify.proofs.blocks.judge_block.Given as goal

-- who judges the rest of the block has judged all of it, and it is known whether all before are phis
abbrev pub invariant-instructions : goal.invariant-instructions
invariant-instructions l =
    let a = l.facts.judge.now in
    let f = l.facts.function.now in
    let b = block_in a f l.block in
    record {
      sourced : MayBeSourced f l.phis;
      behind : l.behind_phis ≡ list_all is_phi (take l.before b.instructions);
      leads : Leads (asked_from (module_of a) (function_in a f) b l.first b.instructions l.before) (instructions_demands (module_of a) (function_in a f) b 0 l.first b.instructions);
    }
