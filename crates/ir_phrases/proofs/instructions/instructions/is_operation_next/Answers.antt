use Rattle.std.proofs.Common.{◌∙◌}
use Rattle.ir_terminals.specs.Position.{tokens_left}
use Rattle.ir_phrases.specs.Instructions.Instructions.{operation_classes}
use Rattle.ir_phrases.proofs.OnInstructions.Firsts.{begun}
use Rattle.ir_phrases.proofs.instructions.instructions.is_operation_next.Goals as goal

pub returns-in-Some : goal.returns-in-Some
returns-in-Some c = c.begins_operation.ensures ∙ begun operation_classes c.in-Some.terminal (tokens_left c.args.cursor.now) c.in-Some.ensures
