use Rattle.std.proofs.Common.{true, false, refl, ap, ◌∙◌}
use Rattle.ir_terminals.specs.Brackets.{brace_step}
use Rattle.ir_terminals.specs.Position.{Position}
use Rattle.ir_terminals.specs.declared.terminal.Terminal.TheVariants.{OpenBrace, CloseBrace}
use Rattle.ir_terminals.proofs.Machines.{went_on, ended, shorter}
use Rattle.ir_terminals.proofs.RowsRead.{other_goes_on}
use Rattle.ir_terminals.proofs.cursor.Cursor.skip_braced.Goals as goal

pub tokens-init : goal.tokens-init
tokens-init c = record {
  run = went_on brace_step false true OpenBrace c.args.self.now c.advance.new.self (rw c.in-Some-OpenBrace.field-0-is at c.in-Some-OpenBrace.ensures) refl c.advance.ensures;
  limits = ap (λ (p : Position). p.limits) c.advance.ensures;
  text = ap (λ (p : Position). p.text) c.advance.ensures;
}

pub returns-in-CloseBrace : goal.returns-in-CloseBrace
returns-in-CloseBrace c =
    let i = c.tokens.invariant in
    let n = c.advance-in-CloseBrace.ensures in
    (i.run ∙ ended brace_step true tt CloseBrace c.tokens.self c.advance-in-CloseBrace.new.self (rw c.in-CloseBrace.is at c.in-Some.ensures) refl n, ap (λ (p : Position). p.limits) n ∙ i.limits, ap (λ (p : Position). p.text) n ∙ i.text)

pub tokens-smaller : goal.tokens-smaller
tokens-smaller c =
    shorter c.in-Some.terminal c.tokens.self c.advance-in_default-terminal-2.new.self c.in-Some.ensures c.advance-in_default-terminal-2.ensures

pub tokens-preserved : goal.tokens-preserved
tokens-preserved c =
    let i = c.tokens.invariant in
    let n = c.advance-in_default-terminal-2.ensures in
    let on = other_goes_on c.in-Some.terminal c.in_default-terminal-2.not-CloseBrace c.in_default-terminal-2.not-OpenBrace in
    record {
      run = i.run ∙ went_on brace_step true true c.in-Some.terminal c.tokens.self c.advance-in_default-terminal-2.new.self c.in-Some.ensures on n;
      limits = ap (λ (p : Position). p.limits) n ∙ i.limits;
      text = ap (λ (p : Position). p.text) n ∙ i.text;
    }
