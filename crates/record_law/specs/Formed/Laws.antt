-- For `trees_stand_for_well_formed`: the law of what is read. It names no code: it is of the definitions of `record_table` alone.
use Rattle.bit_tree.specs.Stream.{StreamTree}
use Rattle.module_arena.specs.Module.{Module}
use Rattle.module_arena.specs.WellFormed.{IsWellFormed}
use Rattle.record_table.specs.Records.{StandFor}

-- a module that a tree stands for is well formed
abbrev pub TreesStandForWellFormed : Type 0
TreesStandForWellFormed = (tree : StreamTree) (m : Module) → StandFor tree m → IsWellFormed m
