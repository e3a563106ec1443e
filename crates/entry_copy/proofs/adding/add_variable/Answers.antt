use Rattle.module_arena.specs.Changes.{with_variable}
use Rattle.module_arena.specs.Known.{counts}
use Rattle.item_build.proofs.OnTypes.Declaring.{memory_alone, few_still}
use Rattle.item_build.proofs.OnTypes.Growing.{grows_not}
use Rattle.entry_copy.proofs.adding.add_variable.Goals as goal

pub entry_out_of_memory-requires : goal.entry_out_of_memory-requires
entry_out_of_memory-requires c =
    let b = c.args.into.now.arena in
    let v = c.args.variable in
    memory_alone b v.name (counts (with_variable b v)) c.in-Err.fault c.in-Err.ensures.fault c.requires.free (few_still b b (grows_not b) v c.requires.few)
