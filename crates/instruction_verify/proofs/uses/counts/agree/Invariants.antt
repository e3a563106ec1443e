use Rattle.std.proofs.Common.{◌≡◌, true, take}
use Rattle.std.specs.Prelude.{◌==◌, slice_index_or}
use Rattle.std.specs.List.{list_all}
use Rattle.instruction_verify.proofs.uses.counts.agree.Given as goal

-- the first numbers agree
abbrev pub invariant-numbers : goal.invariant-numbers
invariant-numbers l = list_all (λ x. slice_index_or l.here x 0 == slice_index_or l.there x 0) (take l.number-index l.numbers) ≡ true
