use Rattle.std.proofs.Common.{◌≡◌, drop}
use Rattle.std.specs.List.{find}
use Rattle.module_arena.specs.Functions.{is_too_large, first_too_large}
use Rattle.module_arena.specs.View.{module_of}
use Rattle.path_verify.proofs.sizes.judge_sizes.Given as goal

-- the first that is too large is the first among the rest
abbrev pub invariant-functions : goal.invariant-functions
invariant-functions l = first_too_large (module_of l.arena) ≡ find is_too_large (drop l.number (module_of l.arena).functions)
