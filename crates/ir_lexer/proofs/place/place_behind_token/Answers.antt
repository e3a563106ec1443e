use Rattle.std.proofs.Common.{sym, ◌∙◌}
use Rattle.ir_lexer.proofs.Lines.{after_in_line, token_in_line}
use Rattle.ir_lexer.proofs.place.place_behind_token.Goals as goal

pub returns-else-has_string : goal.returns-else-has_string
returns-else-has_string c =
    c.place_in_line.ensures ∙ sym (after_in_line c.args.place c.args.spelling.now (token_in_line c.args.kind c.args.spelling.now c.requires.token (sym c.has_string.ensures ∙ c.if-has_string.false)))
