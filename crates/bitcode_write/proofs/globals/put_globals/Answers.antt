use Rattle.std.proofs.Common.{is_some, map, ◌++◌}
use Rattle.bitcode_write.proofs.Lined.{lines_then, then_put}
use Rattle.bitcode_write.specs.Entries.{alias_of, function_of, variable_of}
use Rattle.module_arena.specs.View.{module_of}
use Rattle.record_write.specs.Operands.Numbered.{indices, texts}
use Rattle.record_table.specs.Records as records
use Rattle.module_arena.specs.Module as m
use Rattle.bitcode_write.proofs.globals.put_globals.Goals as goal

pub returns-clause-put : goal.returns-clause-put
unfolding module_of
returns-clause-put c =
    let a = c.args.numbering.now in
    let vs = map (λ (v : m.Variable). (5, (records.variable (texts a) (indices a)).spell v)) (map (variable_of a) a.variables) in
    let fs = map (λ (f : m.Function). (6, (records.function (texts a) (indices a)).spell (is_some f.body, f))) (map (function_of a) a.functions) in
    let xs = map (λ (x : m.Alias). (7, (records.alias (texts a) (indices a)).spell x)) (map (alias_of a) a.aliases) in
    then_put _ _ _ _ (vs ++ fs) xs
    (lines_then vs fs c.in_ok-put_variables.ensures.put c.in_ok-put_functions.ensures.put)
    c.put_aliases.ensures.put
