use Rattle.ir_terminals.proofs.Classes.{word_else}
use Rattle.ir_terminals.proofs.terminal.Terminal.code.Goals as goal

pub word_code-requires : goal.word_code-requires
word_code-requires c = word_else c.args.self c.in_default.not-Other c.in_default.not-Label c.in_default.not-Integer c.in_default.not-GlobalName c.in_default.not-Local c.in_default.not-Quoted c.in_default.not-ByteString c.in_default.not-MetaName c.in_default.not-MetaNumber c.in_default.not-MetaMark c.in_default.not-Group c.in_default.not-Equals c.in_default.not-Comma c.in_default.not-OpenParenthesis c.in_default.not-CloseParenthesis c.in_default.not-OpenBracket c.in_default.not-CloseBracket c.in_default.not-OpenBrace c.in_default.not-CloseBrace c.in_default.not-Less c.in_default.not-Greater c.in_default.not-Dots
