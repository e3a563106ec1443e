use Rattle.std.proofs.Common.{◌≡◌, drop}
use Rattle.ir_memory.specs.Answer.{Keeps}
use Rattle.run_initial.specs.Initial.Fresh.{put}
use Rattle.ir_run.proofs.Rows.{row_from}
use Rattle.ir_run.proofs.arguments.put_pointers.Given as goal

-- the other pointers complete all
abbrev pub invariant-pointers : goal.invariant-pointers
invariant-pointers l = record {
  put : put l.block (row_from l.place (drop l.place l.pointers)) l.memory ≡ put l.block (row_from 0 l.pointers) l.fn.memory;
  kept : Keeps l.fn.memory l.memory;
}
