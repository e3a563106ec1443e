use Rattle.std.proofs.Common.{suc, arith}
use Rattle.ir_printer.proofs.alias.put_alias_type.Goals as goal

pub put_function_type-requires-clause-parameters : goal.put_function_type-requires-clause-parameters
put_function_type-requires-clause-parameters g c = let all = rw c.in-Function.is at c.requires in rw c.as_slice.ensures (λ k d lt. all (suc k) d (omega (arith, lt)))
