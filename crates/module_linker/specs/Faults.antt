-- For `link`: why parts are not linked.
use Rattle.std.specs.Prelude.{◌≡◌, List, ⊤, Some, None}
use Rattle.linkage_rules.specs.Conflicts.{first_conflict}
use Rattle.linkage_rules.specs.declared.conflict.SymbolFault.{SymbolFault}
use Rattle.linkage_rules.specs.declared.conflict.SymbolFault.TheVariants as symbols
use Rattle.module_arena.specs.Module.{Module}
use Rattle.module_linker.specs.declared.fault.LinkFault.{LinkFault}
use Rattle.module_linker.specs.declared.fault.LinkFault.TheVariants.{Conflict, TooMany, Memory}
use Rattle.link_rules.specs.Counts.{too_many}

-- The parts have this first conflict, or they have none and this is the first count past its limit; or memory is wanting.
abbrev pub HasFault : List Module → LinkFault → Type 0
HasFault parts (Conflict kind name i j) = first_conflict parts ≡ Some (record { kind = kind; name = name; one = i; other = j })
HasFault parts (TooMany kind number) = (first_conflict parts ≡ None) × (too_many parts ≡ Some (record { kind = kind; number = number }))
HasFault parts Memory = ⊤

-- why the symbols of parts were not resolved, told of linking
abbrev pub of_symbols : SymbolFault → LinkFault
of_symbols (symbols.Conflict kind name i j) = Conflict kind name i j
of_symbols symbols.Memory = Memory
