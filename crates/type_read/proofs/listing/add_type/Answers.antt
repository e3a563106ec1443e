use Rattle.type_table.specs.Types.{with_type}
use Rattle.type_read.proofs.Adding.{added, refused}
use Rattle.type_read.proofs.listing.add_type.Goals as goal

pub returns-in-Ok : goal.returns-in-Ok
returns-in-Ok c = added (with_type c.args.arena.now.table c.args.ty) c.args.arena.now _ _ c.in-Ok.ensures.ok c.are_within.ensures.within

pub returns-in-Err : goal.returns-in-Err
returns-in-Err c = refused (with_type c.args.arena.now.table c.args.ty) c.args.arena.now c.add_type.new.self c.args.reader.now _ c.in-Err.fault _ c.in-Err.ensures.fault c.refuse.ensures
