use Rattle.module_arena.specs.Changes.{with_function}
use Rattle.module_arena.specs.Known.{counts}
use Rattle.item_build.proofs.OnTypes.Declaring.{memory_alone, few_functions_still}
use Rattle.item_build.proofs.OnTypes.Growing.{grows_not}
use Rattle.entry_copy.proofs.adding.add_function.Goals as goal

pub entry_out_of_memory-requires : goal.entry_out_of_memory-requires
entry_out_of_memory-requires c =
    let b = c.args.into.now.arena in
    let f = c.args.function in
    memory_alone b f.name (counts (with_function b f)) c.in-Err.fault c.in-Err.ensures.fault c.requires.free (few_functions_still b b (grows_not b) f c.requires.few)
