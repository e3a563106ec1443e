-- What is told where parts are not linked.
use Rattle.std.proofs.Common.{List}
use Rattle.linkage_rules.specs.Resolved.{IsFault}
use Rattle.linkage_rules.specs.declared.conflict.SymbolFault.{SymbolFault}
use Rattle.linkage_rules.specs.declared.conflict.SymbolFault.TheVariants as symbols
use Rattle.module_arena.specs.Module.{Module}
use Rattle.module_linker.specs.Faults.{HasFault, of_symbols}

-- a conflict of symbols is one of linking
pub conflict_told : (parts : List Module) (fault : SymbolFault) → IsFault parts fault → HasFault parts (of_symbols fault)
conflict_told parts (symbols.Conflict kind name i j) h = h
conflict_told parts symbols.Memory h = tt
