use Rattle.std.proofs.Common.{◌≡◌, true, take}
use Rattle.std.specs.List.{list_all}
use Rattle.instruction_verify.specs.Parts.{is_case_at}
use Rattle.instruction_verify.proofs.endings.are_cases_of.Given as goal

abbrev pub invariant-loop-case : goal.invariant-loop-case
invariant-loop-case l = list_all (is_case_at l.judge l.ty) (take l.case-index l.cases) ≡ true
