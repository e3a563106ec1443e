use Rattle.std.proofs.Common.{◌≡◌, ◌≤◌, length}
use Rattle.module_arena.specs.Module.{Bytes}
use Rattle.item_build.specs.Types.Stands.{Grows}
use Rattle.entry_copy.specs.Copies.{CopiesTypes, CopiesConstants}
use Rattle.entry_copy.specs.Tables.{with_constants}
use Rattle.entry_copy.proofs.copier.Copier.copy_constants.Given as goal

abbrev pub invariant-constants : goal.invariant-constants
invariant-constants l = record {
  here : length l.self.constants ≡ l.number;
  upto : l.number ≤ length l.from.constants;
  grows : Grows l.fn.into.arena l.into.arena;
  others : l.self ≡ with_constants l.fn.self l.self.constants;
  types : (structs : Bytes → Bytes) → CopiesTypes structs l.from l.fn.into.arena l.fn.self → CopiesTypes structs l.from l.into.arena l.self;
  copies : (structs globals : Bytes → Bytes) → CopiesTypes structs l.from l.fn.into.arena l.fn.self → CopiesConstants structs globals l.from l.fn.into.arena l.fn.self
      → CopiesConstants structs globals l.from l.into.arena l.self;
}
