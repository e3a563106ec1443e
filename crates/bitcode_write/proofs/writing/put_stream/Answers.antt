use Rattle.bitcode_write.proofs.TableBytes.{producer_bytes, table_bytes}
use Rattle.bitcode_write.proofs.Whole.{blocks_put}
use Rattle.module_arena.specs.View.{module_of}
use Rattle.bitcode_write.proofs.writing.put_stream.Goals as goal

pub put_byte_block-requires-clause-bytes : goal.put_byte_block-requires-clause-bytes
put_byte_block-requires-clause-bytes c = producer_bytes

pub put_byte_block-requires-2-clause-bytes : goal.put_byte_block-requires-2-clause-bytes
put_byte_block-requires-2-clause-bytes c =
    rw c.table.ensures (table_bytes (module_of c.args.numbering.now) c.requires.well_formed)

pub returns-clause-put : goal.returns-clause-put
returns-clause-put c =
    blocks_put _ (module_of c.args.numbering.now) c.table.result.now _ _ _ _
    c.in_ok-put_byte_block.ensures.put.put c.in_ok-put_byte_block-2.ensures.put.put
    c.table.ensures c.put_module_block.ensures.put
