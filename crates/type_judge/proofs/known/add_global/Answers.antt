use Rattle.std.proofs.Common.{subst, [], ◌++◌, map, Option}
use Rattle.std.specs.List.{cons_option}
use Rattle.std.proofs.lemmas.Result.{on_ok_weaker}
use Rattle.ir_terminals.specs.declared.values.PlacedName.{PlacedName}
use Rattle.type_judge.specs.Gathered.{AreGlobals}
use Rattle.type_judge.proofs.known.add_global.Goals as goal

pub returns-in-Some : goal.returns-in-Some
returns-in-Some c names are =
    on_ok_weaker c.add.result
    (λ added. subst (λ (o : Option PlacedName). AreGlobals c.add.new.self (names ++ map (λ (n : PlacedName). n.name) (cons_option o []))) c.in-Some.ensures added)
    (c.add.ensures names are)
