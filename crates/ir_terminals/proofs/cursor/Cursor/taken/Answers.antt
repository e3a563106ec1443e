use Rattle.ir_terminals.proofs.Fronts.{tokens_few}
use Rattle.ir_terminals.proofs.cursor.Cursor.taken.Goals as goal

pub returns-clause-few : goal.returns-clause-few
returns-clause-few c = tokens_few c.args.self.now.text
