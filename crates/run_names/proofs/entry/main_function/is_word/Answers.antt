use Rattle.std.proofs.Common.{ap, sym, ◌∙◌}
use Rattle.module_arena.specs.TypeTests.{is_integer_of}
use Rattle.type_table.specs.Types.{names, trees}
use Rattle.module_arena.proofs.HostTypesAgree.{tree_here}
use Rattle.run_names.proofs.entry.main_function.is_word.Goals as goal

pub returns : goal.returns
returns c =
    let t = c.args.types.now in
    c.is_integer.ensures (names t) (trees t) ∙ ap (is_integer_of 32) (sym (tree_here t c.args.ty c.get.result.now c.type_count-count.ensures.good c.get.ensures))
