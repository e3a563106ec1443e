use Rattle.std.proofs.Common.{true, sym, ap, ◌∙◌}
use Rattle.std.specs.Option.{option_map, option_map_or}
use Rattle.type_table.specs.Types.{tree}
use Rattle.module_arena.specs.EntryRules.{takes_no_intrinsic}
use Rattle.module_arena.specs.View.{constant_at, constants_of, module_of}
use Rattle.entry_verify.proofs.entries.initialisers.initialiser_takes_no_intrinsic.Goals as goal

pub returns-in-Some : goal.returns-in-Some
returns-in-Some c =
    let a = c.args.judge.now in
    let t = tree a.table c.args.ty in
    c.takes_no_intrinsic.ensures t ∙ ap (λ o. option_map_or (takes_no_intrinsic (module_of a) t) (option_map (constant_at (constants_of a)) o) true) (sym c.in-Some.is)
