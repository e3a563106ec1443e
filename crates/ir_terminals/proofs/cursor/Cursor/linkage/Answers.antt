use Rattle.std.proofs.Common.{refl, [], ◌∷◌}
use Rattle.ir_terminals.specs.Terminal.{linkage_class}
use Rattle.ir_terminals.specs.Values.{linkage_in}
use Rattle.ir_terminals.specs.declared.terminal.Terminal.TheVariants as terminals
use Rattle.ir_terminals.proofs.Taking.{took_terminal}
use Rattle.ir_terminals.proofs.cursor.Cursor.linkage.Goals as goal

pub returns : goal.returns
returns c =
    took_terminal (linkage_class ∷ []) linkage_in (terminals.Linkage c.in-Some-Linkage.linkage) _ c.args.self.now _ refl refl (rw c.in-Some-Linkage.field-0-is at c.in-Some-Linkage.ensures) c.advance.ensures
