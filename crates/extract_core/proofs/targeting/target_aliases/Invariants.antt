use Rattle.std.proofs.Common.{◌≡◌, ◌≤◌, ◌++◌, map, take, drop, length}
use Rattle.module_arena.specs.View.{module_of}
use Rattle.item_build.specs.Types.Declarations.{AreUntargeted, without_target}
use Rattle.extract_core.specs.declared.fates.fates.Fates.{Fates}
use Rattle.extract_core.specs.Fates.Fates.{alias_as, made}
use Rattle.extract_core.specs.Entries.NewIds.{HaveNewIds}
use Rattle.extract_core.specs.Defining.Filling.{with_aliases}
use Rattle.extract_core.proofs.targeting.target_aliases.Given as goal

abbrev pub invariant-aliases : goal.invariant-aliases
invariant-aliases l = record {
  upto : l.number ≤ length l.from.aliases;
  next : l.next ≡ length (made alias_as (take l.number l.fates) (take l.number (module_of l.from).aliases));
  before : l.next ≤ l.number;
  joined : module_of l.into.arena ≡ with_aliases (module_of l.fn.into.arena)
      (made alias_as (take l.number l.fates) (take l.number (module_of l.from).aliases)
      ++ map without_target (made alias_as (drop l.number l.fates) (drop l.number (module_of l.from).aliases)));
  untargeted : AreUntargeted l.next l.into.arena;
  ids : (all : Fates) → HaveNewIds l.from all l.fn.into.arena l.copier → HaveNewIds l.from all l.into.arena l.copier;
}
