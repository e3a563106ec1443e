use Rattle.std.proofs.Common.{refl, [], ◌∷◌}
use Rattle.ir_terminals.specs.Terminal.{predicate_class}
use Rattle.ir_terminals.specs.Values.{predicate_in}
use Rattle.ir_terminals.specs.declared.terminal.Terminal.TheVariants as terminals
use Rattle.ir_terminals.proofs.Taking.{took_terminal}
use Rattle.ir_terminals.proofs.cursor.Cursor.predicate.Goals as goal

pub returns : goal.returns
returns c =
    took_terminal (predicate_class ∷ []) predicate_in (terminals.Predicate c.in-Some-Predicate.predicate) _ c.args.self.now _ refl refl (rw c.in-Some-Predicate.field-0-is at c.in-Some-Predicate.ensures) c.advance.ensures
