use Rattle.std.proofs.Common.{All, take}
use Rattle.ir_base.specs.Name.{IsName}
use Rattle.entry_verify.proofs.entries.targets.see_names.Given as goal

abbrev pub invariant-loop-number : goal.invariant-loop-number
invariant-loop-number l = All (λ v. IsName v.name) (take l.number l.arena.variables)

abbrev pub invariant-loop-place : goal.invariant-loop-place
invariant-loop-place l = All (λ f. IsName f.name) (take l.place l.arena.functions)
