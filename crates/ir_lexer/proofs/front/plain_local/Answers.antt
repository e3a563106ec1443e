use Rattle.std.proofs.Common.{◌≡◌, ◌∙◌, sym, drop, true, arith}
use Rattle.std.proofs.lemmas.Bool.Decides.{nat_tests}
use Rattle.ir_base.proofs.Pieces.{rest_whole}
use Rattle.ir_lexer.specs.Class.{starts_name, starts_with}
use Rattle.ir_lexer.proofs.Plain.{local_plain, named_next, unnamed_next}
use Rattle.ir_lexer.proofs.front.plain_local.Goals as goal

pub returns-then-digits-gt0-clause-token : goal.returns-then-digits-gt0-clause-token
returns-then-digits-gt0-clause-token c =
    (unnamed_next c.args.text.now c.run_of-digits.result c.requires.begins c.run_of-digits.ensures.count (grind (arith, nat_tests))).0

pub returns-clause-token : goal.returns-clause-token
returns-clause-token c =
    let s = c.args.text.now in
    let name : starts_with starts_name (drop 1 s) ≡ true = rw (rest_whole 1 s) at (sym c.begins.ensures ∙ c.if-not-begins.false) in
    (named_next s c.run_of-name.result c.requires.begins c.run_of-name.ensures.count name).0

pub returns-clause-plain : goal.returns-clause-plain
returns-clause-plain c =
    let s = c.args.text.now in
    let name : starts_with starts_name (drop 1 s) ≡ true = rw (rest_whole 1 s) at (sym c.begins.ensures ∙ c.if-not-begins.false) in
    local_plain s _ c.requires.begins (named_next s c.run_of-name.result c.requires.begins c.run_of-name.ensures.count name).1
