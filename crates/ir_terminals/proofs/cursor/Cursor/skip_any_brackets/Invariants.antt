use Rattle.std.proofs.Common.{◌≡◌, [], length}
use Rattle.ir_terminals.specs.PhraseRows.Row.{run_machine}
use Rattle.ir_terminals.specs.Brackets.{nearest_first, role, step_by}
use Rattle.ir_terminals.specs.Position.{tokens_left}
use Rattle.ir_terminals.specs.Role.{terminal}
use Rattle.ir_terminals.proofs.cursor.Cursor.skip_any_brackets.Given as goal

-- the tokens so far left these brackets open
abbrev pub invariant-tokens : goal.invariant-tokens
invariant-tokens l = record {
  run : run_machine (λ open_ones t. step_by open_ones (role (terminal t.token))) [] (tokens_left l.fn.self) ≡ run_machine (λ open_ones t. step_by open_ones (role (terminal t.token))) (nearest_first l.unclosed.items) (tokens_left l.self);
  limits : l.self.limits ≡ l.fn.self.limits;
  text : l.self.text ≡ l.fn.self.text;
}

abbrev pub decreases-tokens : goal.decreases-tokens
decreases-tokens l = length (tokens_left l.self)
