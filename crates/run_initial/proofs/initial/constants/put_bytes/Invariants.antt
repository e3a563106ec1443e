use Rattle.std.proofs.Common.{◌≡◌, ◌+◌, drop}
use Rattle.ir_memory.specs.Answer.{Keeps}
use Rattle.run_initial.specs.Initial.Constants.{bytes_at}
use Rattle.run_initial.specs.Initial.Fresh.{put}
use Rattle.run_initial.proofs.initial.constants.put_bytes.Given as goal

-- the other bytes complete all
abbrev pub invariant-bytes : goal.invariant-bytes
invariant-bytes l = record {
  put : put l.target.block (bytes_at (l.target.offset + l.place) (drop l.place l.bytes)) l.memory ≡ put l.target.block (bytes_at l.target.offset l.bytes) l.fn.memory;
  kept : Keeps l.fn.memory l.memory;
}
