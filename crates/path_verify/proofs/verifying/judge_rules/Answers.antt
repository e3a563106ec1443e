use Rattle.std.proofs.Common.{Err, ◌++◌, subst}
use Rattle.std.specs.List.{flat_map}
use Rattle.std.proofs.lemmas.Result.{err_from_is_err_and}
use Rattle.module_arena.specs.Lists.{Lists}
use Rattle.module_arena.specs.Valid.{module_demands, variable_demands, alias_demands, function_demands}
use Rattle.module_arena.specs.View.{module_of}
use Rattle.entry_verify.specs.Types.Judged.{Judged}
use Rattle.entry_verify.proofs.OnTypes.Judging.{leads_past, fails_first}
use Rattle.path_verify.proofs.verifying.judge_rules.Goals as goal

pub returns-in_err-judge_variables-clause-judged : goal.returns-in_err-judge_variables-clause-judged
returns-in_err-judge_variables-clause-judged g c =
    let m = module_of c.args.arena.now in
    let vs = flat_map (variable_demands m) m.variables in
    let rest = flat_map (alias_demands m) m.aliases ++ flat_map (function_demands m) m.functions in
    let p = err_from_is_err_and c.from_residual-in_err-judge_variables.result c.from_residual-in_err-judge_variables.ensures.1 in
    let judged = subst (λ (x : Lists). Judged {T = Unit {0}} (flat_map (variable_demands (module_of x)) (module_of x).variables) (Err c.in_err-judge_variables.field-0.0)) c.in_ok-judge.ensures c.in_err-judge_variables.ensures in
    rw (p.1, p.2) (leads_past (module_demands m) (vs ++ rest) c.in_ok-judge_module_line.ensures (Err _) (fails_first vs rest _ judged))

pub returns-in_err-judge_aliases-clause-judged : goal.returns-in_err-judge_aliases-clause-judged
returns-in_err-judge_aliases-clause-judged g c =
    let m = module_of c.args.arena.now in
    let vs = flat_map (variable_demands m) m.variables in
    let xs = flat_map (alias_demands m) m.aliases in
    let fs = flat_map (function_demands m) m.functions in
    let p = err_from_is_err_and c.from_residual-in_err-judge_aliases.result c.from_residual-in_err-judge_aliases.ensures.1 in
    let variables = rw c.in_ok-judge.ensures at c.in_ok-judge_variables.ensures in
    let judged = subst (λ (x : Lists). Judged {T = Unit {0}} (flat_map (alias_demands (module_of x)) (module_of x).aliases) (Err c.in_err-judge_aliases.field-0.0)) c.in_ok-judge.ensures c.in_err-judge_aliases.ensures in
    rw (p.1, p.2) (leads_past (module_demands m) (vs ++ (xs ++ fs)) c.in_ok-judge_module_line.ensures (Err _) (leads_past vs (xs ++ fs) variables (Err _) (fails_first xs fs _ judged)))

pub returns-clause-judged : goal.returns-clause-judged
returns-clause-judged g c =
    let m = module_of c.args.arena.now in
    let vs = flat_map (variable_demands m) m.variables in
    let xs = flat_map (alias_demands m) m.aliases in
    let fs = flat_map (function_demands m) m.functions in
    let variables = rw c.in_ok-judge.ensures at c.in_ok-judge_variables.ensures in
    let aliases = rw c.in_ok-judge.ensures at c.in_ok-judge_aliases.ensures in
    let judged = rw c.in_ok-judge.ensures at c.judge_functions.ensures.judged in
    leads_past (module_demands m) (vs ++ (xs ++ fs)) c.in_ok-judge_module_line.ensures c.judge_functions.result (leads_past vs (xs ++ fs) variables c.judge_functions.result (leads_past xs fs aliases c.judge_functions.result judged))
