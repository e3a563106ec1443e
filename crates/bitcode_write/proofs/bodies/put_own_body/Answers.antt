use Rattle.std.proofs.Common.{List, subst, sym}
use Rattle.bit_tree.specs.Written.{no_more}
use Rattle.bitcode_write.proofs.Lined.{none_put}
use Rattle.bitcode_write.proofs.Viewed.{no_lines}
use Rattle.bitcode_write.specs.Put.{Puts}
use Rattle.record_table.specs.Spelling.{Line, put_bodies}
use Rattle.bitcode_write.proofs.bodies.put_own_body.Goals as goal

pub returns-in-None-clause-put : goal.returns-in-None-clause-put
returns-in-None-clause-put c =
    let w = c.args.out.now.writer in
    subst (λ (ls : List (List Line)). Puts w (put_bodies ls no_more) w) (sym (no_lines c.args.numbering.now c.args.function.now c.in-None.is)) (none_put w c.requires.ready)
