use Rattle.module_arena.specs.Changes.{with_alias}
use Rattle.module_arena.specs.Known.{counts}
use Rattle.item_build.proofs.OnTypes.Declaring.{memory_alone, few_aliases_still}
use Rattle.item_build.proofs.OnTypes.Growing.{grows_not}
use Rattle.entry_copy.proofs.adding.add_alias.Goals as goal

pub entry_out_of_memory-requires : goal.entry_out_of_memory-requires
entry_out_of_memory-requires c =
    let b = c.args.into.now.arena in
    let x = c.args.alias in
    memory_alone b x.name (counts (with_alias b x)) c.in-Err.fault c.in-Err.ensures.fault c.requires.free (few_aliases_still b b (grows_not b) x c.requires.few)
