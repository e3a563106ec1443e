use Rattle.std.proofs.Common.{take}
use Rattle.module_linker.specs.Ids.Filing.{IsFiledUnder}
use Rattle.module_linker.proofs.ids.filing.file.Given as goal

-- the first entries have the new id
abbrev pub invariant-entries : goal.invariant-entries
invariant-entries l = IsFiledUnder l.initial.ids (take l.entry-index l.entries) l.new l.ids
