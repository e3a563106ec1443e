use Rattle.std.proofs.Common.{◌≡◌, ◌≤◌, length, max}
use Rattle.type_table.specs.Tree.{Structs}
use Rattle.module_arena.specs.Module.{Bytes}
use Rattle.item_build.specs.Types.Fitting.{AreWithin}
use Rattle.item_build.specs.Types.Stands.{Grows}
use Rattle.entry_copy.specs.Copies.{CopiesTypes, AllFit}
use Rattle.entry_copy.specs.Tables.{with_types}
use Rattle.entry_copy.proofs.copier.Copier.copy_types.Given as goal

abbrev pub invariant-types : goal.invariant-types
invariant-types l = record {
  here : length l.self.types ≡ l.number;
  past : length l.fn.self.types ≤ l.number;
  upto : l.number ≤ max (length l.fn.self.types) l.count;
  grows : Grows l.fn.into.arena l.into.arena;
  others : l.self ≡ with_types l.fn.self l.self.types;
  copies : (structs : Bytes → Bytes) → CopiesTypes structs l.from l.fn.into.arena l.fn.self → CopiesTypes structs l.from l.into.arena l.self;
  within : (structs : Bytes → Bytes) (whole : Structs) → CopiesTypes structs l.from l.fn.into.arena l.fn.self → AllFit structs whole l.from → AreWithin whole l.fn.into.arena → AreWithin whole l.into.arena;
}
