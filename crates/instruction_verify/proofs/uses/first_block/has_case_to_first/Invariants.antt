use Rattle.std.proofs.Common.{◌≡◌, false, take}
use Rattle.std.specs.Prelude.{◌==◌}
use Rattle.std.specs.List.{list_any}
use Rattle.instruction_verify.proofs.uses.first_block.has_case_to_first.Given as goal

-- none so far does
abbrev pub invariant-loop-case : goal.invariant-loop-case
invariant-loop-case l = list_any (λ c. c.target == 0) (take l.case-index l.cases) ≡ false
