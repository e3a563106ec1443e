use Rattle.command_line.proofs.WholeLine.{command_is, usage_is, command_answers, usage_answers, is_judged}
use Rattle.command_line.proofs.words.read_words.Goals as goal

pub returns-clause-command : goal.returns-clause-command
returns-clause-command c = command_is c.args.words.now c.read.result c.read.ensures

pub returns-clause-usage : goal.returns-clause-usage
returns-clause-usage c = usage_is c.args.words.now c.read.result c.read.ensures

pub returns-clause-is_command : goal.returns-clause-is_command
returns-clause-is_command c = command_answers c.args.words.now c.read.result c.read.ensures

pub returns-clause-is_usage : goal.returns-clause-is_usage
returns-clause-is_usage c = usage_answers c.args.words.now c.read.result c.read.ensures

pub returns-clause-judged : goal.returns-clause-judged
returns-clause-judged c = is_judged c.args.words.now
