use Rattle.std.proofs.Common.{drop, take, ◌+◌, ◌≤◌}
use Rattle.std.specs.Prelude.{flat_map, IfSome}
use Rattle.std.specs.List.{sum_by}
use Rattle.module_arena.specs.Valid.{function_demands}
use Rattle.module_arena.specs.View.{module_of}
use Rattle.entry_verify.proofs.OnTypes.Judging.{Leads}
use Rattle.path_verify.specs.Bodies.{turns_of}
use Rattle.path_verify.specs.Ready.{AreNumbers}
use Rattle.path_verify.proofs.functions.judge_functions.Given as goal

-- who judges the rest has judged all, the turns so far are those of the functions so far, and what is kept are numbers of the constants
abbrev pub invariant-functions : goal.invariant-functions
invariant-functions g l =
    let m = module_of l.judge in
    Leads (flat_map (function_demands m) (drop l.number m.functions)) (flat_map (function_demands m) m.functions) × (l.turns ≤ l.fn.turns + sum_by turns_of (take l.number m.functions)) × IfSome l.kept (λ classes. AreNumbers l.judge classes.items)
