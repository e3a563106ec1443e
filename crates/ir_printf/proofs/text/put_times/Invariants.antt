use Rattle.std.proofs.Common.{◌≡◌, ◌++◌, replicate}
use Rattle.ir_printf.proofs.text.put_times.Given as goal

abbrev pub invariant-times : goal.invariant-times
invariant-times l = l.text ≡ l.initial.text ++ replicate l.counter l.byte
