use Rattle.run_initial.specs.Initial.Fresh.{put}
use Rattle.run_initial.proofs.OnInitial.Puts.{stored_then, wants_memory}
use Rattle.ir_run.proofs.Rows.{row_from}
use Rattle.ir_run.proofs.arguments.fill_row.Goals as goal

pub wanting_memory-requires : goal.wanting_memory-requires
wanting_memory-requires c =
    wants_memory (put c.args.block (row_from 0 c.args.pointers.now) c.args.memory.now) c.put_pointers.new.memory c.put_pointers.result c.requires.well c.put_pointers.ensures.put

pub returns-clause-put : goal.returns-clause-put
returns-clause-put c =
    stored_then (put c.args.block (row_from 0 c.args.pointers.now) c.args.memory.now) c.put_pointers.new.memory c.put_pointers.result c.wanting_memory.result c.wanting_memory.ensures c.put_pointers.ensures.put
