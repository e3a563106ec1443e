use Rattle.run_names.proofs.OnValues.Bytes.{IsPartRead}
use Rattle.run_names.proofs.values.string.push_bytes.Given as goal

abbrev pub invariant-bytes : goal.invariant-bytes
invariant-bytes l = IsPartRead l.memory l.fn.pointer l.most l._read l.place l.initial.into.items l.into.items
