use Rattle.std.proofs.Common.{sym, ◌∙◌}
use Rattle.ir_lexer.proofs.QuotedTokens.{token_quoted}
use Rattle.ir_lexer.proofs.names.name_text.Goals as goal

pub unquote-requires : goal.unquote-requires
unquote-requires c = token_quoted c.args.kind c.args.spelling.now c.requires (sym c.is_quoted.ensures ∙ c.if-is_quoted.true)
