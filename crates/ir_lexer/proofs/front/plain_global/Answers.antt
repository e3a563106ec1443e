use Rattle.std.proofs.Common.{◌≡◌, ◌∙◌, sym, drop, true}
use Rattle.ir_base.proofs.Pieces.{rest_whole}
use Rattle.ir_lexer.specs.Class.{starts_name, starts_with}
use Rattle.ir_lexer.proofs.Plain.{global_next}
use Rattle.ir_lexer.proofs.front.plain_global.Goals as goal

pub returns : goal.returns
returns c =
    let s = c.args.text.now in
    let name : starts_with starts_name (drop 1 s) ≡ true = rw (rest_whole 1 s) at (sym c.begins.ensures ∙ c.if-not-begins.false) in
    let k = global_next s c.run_of-name.result c.requires.begins c.run_of-name.ensures.count name in
    record { token = k.0; plain = k.1 }
