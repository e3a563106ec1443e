use Rattle.std.proofs.Common.{arith, sym}
use Rattle.path_verify.proofs.PiecesTold.{length_found, length_whole}
use Rattle.path_verify.proofs.layout_text.piece_length.Goals as goal

pub returns-in-Some : goal.returns-in-Some
returns-in-Some c =
    let found = c.in-Some.ensures in
    sym (length_found c.args.separator c.args.text.now c.in-Some.place found.0.high found.1 (λ j l. found.0.before j (omega arith) l))

pub returns-in-None : goal.returns-in-None
returns-in-None c = sym (length_whole c.args.separator c.args.text.now (λ j l. c.in-None.ensures j (omega arith) l))
