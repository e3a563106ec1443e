use Rattle.std.proofs.Common.{sym, ap, ◌∙◌}
use Rattle.std.specs.Option.{option_map}
use Rattle.module_arena.specs.EntryRules.{lists_constructors}
use Rattle.module_arena.specs.View.{constant_at, constants_of, module_of}
use Rattle.entry_verify.proofs.entries.llvm_lists.lists_constructors.Goals as goal

pub returns-in-None : goal.returns-in-None
returns-in-None c =
    let a = c.args.judge.now in
    ap (λ o. lists_constructors (module_of a) (option_map (constant_at (constants_of a)) o)) (sym c.in-None.is)

pub returns-in-Some : goal.returns-in-Some
returns-in-Some c =
    let a = c.args.judge.now in
    c.list_at.ensures ∙ ap (λ o. lists_constructors (module_of a) (option_map (constant_at (constants_of a)) o)) (sym c.in-Some.is)
