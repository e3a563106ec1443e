-- For `choose` and `extract`: why they refuse.
use Rattle.std.specs.Prelude.{◌≡◌, ⊤, Some}
use Rattle.module_arena.specs.Module.{Module}
use Rattle.extract_rules.specs.declared.selection.ExtractFault.{ExtractFault}
use Rattle.extract_rules.specs.declared.selection.ExtractFault.TheVariants.{NoSuchSymbol, Memory}
use Rattle.extract_rules.specs.declared.selection.Selection.{Selection}
use Rattle.extract_rules.specs.Selected.{no_such_symbol}

-- a name is told exactly where it is the first that is not there
abbrev pub HasFault : Module → Selection → ExtractFault → Type 0
HasFault m s (NoSuchSymbol name) = no_such_symbol m s ≡ Some name
HasFault m s Memory = ⊤
