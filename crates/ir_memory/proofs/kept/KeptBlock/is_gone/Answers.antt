use Rattle.std.proofs.Common.{rules}
use Rattle.ir_memory.proofs.Paged.{gone_block}
use Rattle.ir_memory.proofs.kept.KeptBlock.is_gone.Goals as goal

pub returns-in-Stack-clause-gone : goal.returns-in-Stack-clause-gone
returns-in-Stack-clause-gone c = λ _. search (rules, gone_block)
