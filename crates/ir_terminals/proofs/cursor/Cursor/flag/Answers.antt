use Rattle.std.proofs.Common.{refl, [], ◌∷◌}
use Rattle.ir_terminals.specs.Terminal.{flag_class}
use Rattle.ir_terminals.specs.Values.{flag_in}
use Rattle.ir_terminals.specs.declared.terminal.Terminal.TheVariants as terminals
use Rattle.ir_terminals.proofs.Taking.{took_terminal}
use Rattle.ir_terminals.proofs.cursor.Cursor.flag.Goals as goal

pub returns : goal.returns
returns c =
    took_terminal (flag_class ∷ []) flag_in (terminals.Flag c.in-Some-Flag.flag) _ c.args.self.now _ refl refl (rw c.in-Some-Flag.field-0-is at c.in-Some-Flag.ensures) c.advance.ensures
