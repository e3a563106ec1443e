-- Says how the code of `define_symbols` reads: the linked module while its declared entries get their definitions.
use Rattle.std.specs.Prelude.{ℕ, List, ◌++◌, map, take, drop, Option, Some, None}
use Rattle.linkage_rules.specs.Globals.{Global, OfVariable, OfFunction, OfAlias}
use Rattle.module_arena.specs.Changes.{initialised, targeted, defined}
use Rattle.module_arena.specs.Module.{Block, Constant, Module}
use Rattle.module_arena.specs.declared.entry.GlobalId.{GlobalId}
use Rattle.module_arena.specs.declared.entry.GlobalId.TheVariants as global
use Rattle.link_rules.specs.Linked.{linked_globals}
use Rattle.module_linker.specs.Stages.Declared.{bare, with_globals}
use Rattle.module_linker.specs.Stages.Ground.{ground}

-- the module of which the first so many entries are defined, and all others declared
abbrev pub filled_to : ℕ → List Module → Module
filled_to count parts = with_globals (ground parts) (take count (linked_globals parts) ++ map bare (drop count (linked_globals parts)))

-- the variable with that number has this initialiser, where there is one
abbrev pub with_initialiser : Module → ℕ → Option Constant → Module
with_initialiser m number None = m
with_initialiser m number (Some c) = initialised m number c

-- the function with that number has these blocks, where there are some
abbrev pub with_blocks : Module → ℕ → Option (List Block) → Module
with_blocks m number None = m
with_blocks m number (Some blocks) = defined m number (λ f. blocks)

-- the entry with that id is defined as this one is. No entry has the id of another kind, so the last lines are never used
abbrev pub defined_as : Module → GlobalId → Global → Module
defined_as m (global.Variable id) (OfVariable v) = with_initialiser m id v.initialiser
defined_as m (global.Function id) (OfFunction f) = with_blocks m id f.body
defined_as m (global.Alias id) (OfAlias a) = targeted m id a.target
defined_as m id g = m
