use Rattle.std.proofs.Common.{◌≤◌, length}
use Rattle.item_build.specs.Types.Stands.{Grows}
use Rattle.module_linker.specs.Ids.Constants.{AreCopiedTo}
use Rattle.module_linker.proofs.ids.constants.copy_constants.Given as goal

-- the constants of the first parts are copied
abbrev pub invariant-parts : goal.invariant-parts
invariant-parts l = record {
  upto : l.part ≤ length l.parts;
  grows : Grows l.fn.into.arena l.into.arena;
  copied : AreCopiedTo l.parts l.part l.into.arena l.copiers;
}
