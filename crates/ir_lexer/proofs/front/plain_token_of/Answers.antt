use Rattle.std.proofs.Common.{◌<◌, length, arith}
use Rattle.std.proofs.lemmas.Bool.Decides.{nat_tests}
use Rattle.ir_lexer.proofs.Plain.{mark_next}
use Rattle.ir_lexer.proofs.front.plain_token_of.Goals as goal

pub returns-in-Mark-clause-token : goal.returns-in-Mark-clause-token
returns-in-Mark-clause-token c =
    let some : 0 < length c.args.text.now = grind (arith, nat_tests) in
    mark_next c.args.text.now c.class_of.result some c.class_of.ensures c.in-Mark.is
