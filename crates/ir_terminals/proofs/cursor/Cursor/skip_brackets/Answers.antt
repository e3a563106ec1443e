use Rattle.std.proofs.Common.{◌≡◌, [], ◌∷◌, true, sym, ◌∙◌}
use Rattle.ir_terminals.specs.PhraseRows.Row.{begins}
use Rattle.ir_terminals.specs.Position.{tokens_left}
use Rattle.ir_terminals.specs.Role.{class}
use Rattle.ir_terminals.specs.Terminal.{code}
use Rattle.ir_terminals.proofs.Opened.{opened_so}
use Rattle.ir_terminals.proofs.cursor.Cursor.skip_brackets.Goals as goal

pub returns : goal.returns
returns c =
    let next : begins class (code c.args.opening ∷ []) (tokens_left c.args.self.now) ≡ true = sym c.is_class_next.ensures ∙ c.if-not-is_class_next.false in
    rw (opened_so c.args.opening (tokens_left c.args.self.now) next) c.skip_any_brackets.ensures
