-- For `modules_are_read_back`: what a variable or an alias must be so that its record is read back.
use Rattle.std.specs.Prelude.{[], bytes_eq}
use Rattle.std.specs.List.{AllByRecursion}
use Rattle.type_table.specs.declared.measure.TheConstants.{NESTING_LIMIT}
use Rattle.module_arena.specs.Module.{Variable, AliasType, PlainType, FunctionType, Alias}
use Rattle.record_table.specs.Fields.{Texts, Numbering}
use Rattle.record_table.specs.Listed.{IsListed, IsType, IsName, IsAlignment}
use Rattle.record_table.specs.FittingConstants.{Fits}
use Rattle.record_table.specs.FittingLines.{IfSome}

-- a variable
abbrev pub VariableFits : Texts → Numbering → Variable → Type 0
VariableFits texts k v = IsName texts v.name × IsType k v.ty × IsAlignment v.alignment × IfSome (λ c. Fits k c NESTING_LIMIT v.ty) v.initialiser

-- what type an alias is said to have
abbrev pub AliasTypeFits : Numbering → AliasType → Type 0
AliasTypeFits k (PlainType t) = IsType k t
AliasTypeFits k (FunctionType s) = IsType k s.returns × AllByRecursion (IsType k) s.parameters

-- it is of a variable or function
abbrev pub AliasFits : Texts → Numbering → Alias → Type 0
AliasFits texts k a = IsName texts a.name × AliasTypeFits k a.ty × IsListed bytes_eq k.targets [] a.target
