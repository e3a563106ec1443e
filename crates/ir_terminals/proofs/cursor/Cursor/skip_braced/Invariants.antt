use Rattle.std.proofs.Common.{◌≡◌, length, true, false}
use Rattle.ir_terminals.specs.PhraseRows.Row.{run_machine}
use Rattle.ir_terminals.specs.Brackets.{brace_step}
use Rattle.ir_terminals.specs.Position.{tokens_left}
use Rattle.ir_terminals.specs.Role.{terminal}
use Rattle.ir_terminals.proofs.cursor.Cursor.skip_braced.Given as goal

-- the tokens so far opened the brace
abbrev pub invariant-tokens : goal.invariant-tokens
invariant-tokens l = record {
  run : run_machine (λ opened t. brace_step opened (terminal t.token)) false (tokens_left l.fn.self) ≡ run_machine (λ opened t. brace_step opened (terminal t.token)) true (tokens_left l.self);
  limits : l.self.limits ≡ l.fn.self.limits;
  text : l.self.text ≡ l.fn.self.text;
}

abbrev pub decreases-tokens : goal.decreases-tokens
decreases-tokens l = length (tokens_left l.self)
