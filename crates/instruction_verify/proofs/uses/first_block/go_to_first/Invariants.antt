use Rattle.std.proofs.Common.{◌≡◌, false, take}
use Rattle.std.specs.Prelude.{◌==◌}
use Rattle.std.specs.List.{list_any}
use Rattle.module_arena.specs.Mentions.{targets_of}
use Rattle.instruction_verify.proofs.uses.first_block.go_to_first.Given as goal

-- none so far does
abbrev pub invariant-loop-block : goal.invariant-loop-block
invariant-loop-block l = list_any (λ b. list_any (λ t. t == 0) (targets_of b.end)) (take l.block-index l.blocks) ≡ false
