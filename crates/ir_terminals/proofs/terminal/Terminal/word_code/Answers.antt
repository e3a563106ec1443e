use Rattle.ir_terminals.proofs.Classes.{listed_else}
use Rattle.ir_terminals.proofs.terminal.Terminal.word_code.Goals as goal

pub listed_code-requires : goal.listed_code-requires
listed_code-requires c = listed_else c.args.self c.requires c.in_default.not-SourceFilename c.in_default.not-Target c.in_default.not-DataLayout c.in_default.not-Triple c.in_default.not-Type c.in_default.not-Opaque c.in_default.not-Global c.in_default.not-Constant c.in_default.not-Declare c.in_default.not-Define c.in_default.not-Attributes c.in_default.not-Distinct c.in_default.not-Section c.in_default.not-Align c.in_default.not-X c.in_default.not-To c.in_default.not-LabelWord c.in_default.not-Void c.in_default.not-Ptr c.in_default.not-IntegerType
