use Rattle.run_initial.specs.Initial.Constants.{bytes_at}
use Rattle.run_initial.specs.Initial.Fresh.{put}
use Rattle.run_initial.proofs.OnInitial.Puts.{stored_then, wants_memory}
use Rattle.ir_run.proofs.arguments.fill_string.Goals as goal

pub wanting_memory-requires : goal.wanting_memory-requires
wanting_memory-requires c = wants_memory (put c.args.block (bytes_at 0 c.args.bytes.now) c.args.memory.now) c.put_bytes.new.memory c.put_bytes.result c.requires.well c.put_bytes.ensures.put

pub returns-clause-put : goal.returns-clause-put
returns-clause-put c =
    stored_then (put c.args.block (bytes_at 0 c.args.bytes.now) c.args.memory.now) c.put_bytes.new.memory c.put_bytes.result c.wanting_memory.result c.wanting_memory.ensures c.put_bytes.ensures.put
