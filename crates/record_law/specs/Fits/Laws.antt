-- For `modules_fit` and `written_trees_stand`: the law of modules that fit.
use Rattle.bit_stream.specs.Writer.{begun}
use Rattle.bit_tree.specs.Written.{tree_of}
use Rattle.module_arena.specs.Module.{Module}
use Rattle.module_arena.specs.Valid.{IsValid}
use Rattle.module_arena.specs.WellFormed.{IsWellFormed}
use Rattle.record_table.specs.Records.{StandFor}
use Rattle.record_table.specs.Spelling.{written_module}
use Rattle.record_law.specs.FittingModules.{ModuleFits}

-- a well-formed and valid module fits
abbrev pub ModulesFit : Type 0
ModulesFit = (m : Module) → IsWellFormed m → IsValid m → ModuleFits m

-- and is what the tree that is written of it stands for
abbrev pub WrittenTreesStand : Type 0
WrittenTreesStand = (m : Module) → IsWellFormed m → IsValid m → StandFor (tree_of begun (written_module m)) m
