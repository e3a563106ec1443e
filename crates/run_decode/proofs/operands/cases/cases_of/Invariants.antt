use Rattle.std.proofs.Common.{map, take}
use Rattle.run_decode.specs.Flat.Grown.{Adds}
use Rattle.run_decode.specs.Operands.Endings.{AreMeant, case_from}
use Rattle.run_decode.proofs.operands.cases.cases_of.Given as goal

-- the cases so far are meant
abbrev pub invariant-cases : goal.invariant-cases
invariant-cases l = record {
  grows : Adds l.fn.pools l.pools;
  cases : AreMeant l.pools l.done.items (map (case_from l.scope l.from) (take l.case-index l.cases));
}
