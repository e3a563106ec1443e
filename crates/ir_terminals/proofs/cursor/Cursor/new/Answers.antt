use Rattle.ir_terminals.proofs.Fronts.{tokens_few, starts_at, whole_text}
use Rattle.ir_terminals.proofs.cursor.Cursor.new.Goals as goal

pub invariant_of-result : goal.invariant_of-result
invariant_of-result c = starts_at _ _ _ c.requires (rw c.new-lexer.ensures at c.next_front.ensures)

pub returns-clause-tokens : goal.returns-clause-tokens
returns-clause-tokens c = whole_text c.args.text.now

pub returns-clause-few : goal.returns-clause-few
returns-clause-few c = tokens_few c.args.text.now
