use Rattle.std.proofs.Common.{◌≡◌, ◌≤◌, ◌<◌, ℕ, List, length}
use Rattle.type_table.specs.Types.{structs}
use Rattle.module_arena.specs.Lists.{Lists}
use Rattle.module_arena.specs.Module.{Bytes, Module}
use Rattle.module_arena.specs.View.{module_of}
use Rattle.link_rules.specs.Linked.{link_result}
use Rattle.item_build.specs.Types.Holding.{entries}
use Rattle.entry_copy.specs.Copies.{CopiesTypes}
use Rattle.entry_copy.specs.Tables.{Tables, new_struct, with_types}
use Rattle.item_build.specs.Partly.{IsDone, with_structs}
use Rattle.module_linker.specs.Parts.Bodies.{IsMaking}
use Rattle.module_linker.specs.Parts.Named.{KeepsDone}
use Rattle.module_linker.proofs.parts.part.copy_part.Given as goal

abbrev pub invariant-copied : goal.invariant-copied
invariant-copied l = record {
  upto : l.number ≤ length l.from.table.types;
  copied : l.number ≤ length l.copier.types;
  making : (ms : List Module) (i : ℕ) → IsMaking ms i l.from l.fn.into.arena l.fn.copier → IsMaking ms i l.from l.into.arena l.copier;
  joined : module_of l.into.arena ≡ with_structs (module_of l.fn.into.arena) (structs l.into.arena.table);
  unchanged : entries l.into.arena ≡ entries l.fn.into.arena;
  others : l.copier ≡ with_types l.fn.copier l.copier.types;
  still : (naming : Bytes → Bytes) (a : Lists) (t : Tables) → CopiesTypes naming a l.fn.into.arena t → CopiesTypes naming a l.into.arena t;
  kept : (ms : List Module) (i : ℕ) → IsMaking ms i l.from l.fn.into.arena l.fn.copier → KeepsDone ms l.fn.into.arena l.into.arena;
}

abbrev pub invariant-defined : goal.invariant-defined
invariant-defined l = record {
  upto : l.number ≤ length l.from.table.structs;
  copied : length l.from.table.types ≤ length l.copier.types;
  making : (ms : List Module) (i : ℕ) → IsMaking ms i l.from l.fn.into.arena l.fn.copier → IsMaking ms i l.from l.into.arena l.copier;
  joined : module_of l.into.arena ≡ with_structs (module_of l.fn.into.arena) (structs l.into.arena.table);
  unchanged : entries l.into.arena ≡ entries l.fn.into.arena;
  others : l.copier ≡ with_types l.fn.copier l.copier.types;
  still : (naming : Bytes → Bytes) (a : Lists) (t : Tables) → CopiesTypes naming a l.fn.into.arena t → CopiesTypes naming a l.into.arena t;
  kept : (ms : List Module) (i : ℕ) → IsMaking ms i l.from l.fn.into.arena l.fn.copier → KeepsDone ms l.fn.into.arena l.into.arena;
  done : (ms : List Module) (i id : ℕ) → IsMaking ms i l.from l.fn.into.arena l.fn.copier → id < l.number → IsDone (link_result ms).structs l.into.arena (new_struct l.fn.copier id);
}
