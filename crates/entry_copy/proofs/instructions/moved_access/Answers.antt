use Rattle.module_arena.proofs.Accesses.{no_other_access}
use Rattle.entry_copy.proofs.instructions.moved_access.Goals as goal

pub unreachable-requires : goal.unreachable-requires
unreachable-requires c = no_other_access c.args.inst.now c.requires c.in_default.not-Load c.in_default.not-Store c.in_default.not-Alloca c.in_default.not-GetElementPtr
