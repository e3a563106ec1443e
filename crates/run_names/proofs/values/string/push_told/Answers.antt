use Rattle.std.proofs.Common.{◌≡◌, ℕ, List, ◌++◌, Ok, Option, sym, subst}
use Rattle.std.specs.Prelude.{IfErr, OnOk}
use Rattle.run_rules.specs.Printing.{string_for}
use Rattle.run_names.specs.Values.Answer.{IsRefusal}
use Rattle.run_names.proofs.values.string.push_told.Goals as goal

pub returns-in-None-clause-ok : goal.returns-in-None-clause-ok
returns-in-None-clause-ok c =
    let m = c.args.memory.now in
    let p = c.args.pointer in
    subst (λ (most : Option ℕ). OnOk c.push_whole.result ((bytes : List ℕ) × (string_for m most p ≡ Ok bytes) × (c.push_whole.new.into.items ≡ c.args.into.now.items ++ bytes)))
    (sym c.in-None.is) c.push_whole.ensures.ok

pub returns-in-None-clause-why : goal.returns-in-None-clause-why
returns-in-None-clause-why c =
    subst (λ (most : Option ℕ). IfErr c.push_whole.result (IsRefusal (string_for c.args.memory.now most c.args.pointer))) (sym c.in-None.is) c.push_whole.ensures.why
