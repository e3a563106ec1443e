use Rattle.ir_lexer.proofs.QuotedTokens.{spelled_name}
use Rattle.ir_lexer.proofs.names.name_of.Goals as goal

pub unwrap-requires : goal.unwrap-requires
unwrap-requires c = c.from_text.ensures.name.1 (spelled_name c.args.kind c.args.spelling.now c.in_ok-text.text c.requires.named c.requires.token c.in_ok-text.ensures)
