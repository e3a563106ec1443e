use Rattle.module_arena.proofs.Accesses.{access_else}
use Rattle.entry_copy.proofs.instructions.InstMoved.moved.Goals as goal

pub moved_access-requires : goal.moved_access-requires
moved_access-requires c = access_else c.args.self.now c.in_default.not-Binary c.in_default.not-Compare c.in_default.not-Convert c.in_default.not-Select c.in_default.not-Freeze c.in_default.not-Phi c.in_default.not-Call c.in_default.not-ExtractValue c.in_default.not-InsertValue
