use Rattle.ir_tables.proofs.IntrinsicNames.{IsNoneOf}
use Rattle.ir_tables.proofs.intrinsic.Intrinsic.of_name.Given as goal

-- the name is of none of those that were tried
abbrev pub invariant-loop-which : goal.invariant-loop-which
invariant-loop-which l = IsNoneOf l.which-index l.name
