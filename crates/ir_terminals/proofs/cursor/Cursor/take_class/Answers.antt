use Rattle.std.proofs.Common.{sym, ◌∙◌, [], ◌∷◌}
use Rattle.ir_terminals.specs.Terminal.{code}
use Rattle.ir_terminals.proofs.Taking.{took_place}
use Rattle.ir_terminals.proofs.cursor.Cursor.take_class.Goals as goal

pub returns : goal.returns
returns c =
    took_place (code c.args.wanted ∷ []) _ c.args.self.now _ (sym c.is_class_next.ensures ∙ c.if-not-is_class_next.false) c.place-place.ensures c.advance.ensures
