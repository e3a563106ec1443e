use Rattle.std.proofs.Common.{ap, ◌∙◌}
use Rattle.ir_terminals.specs.Brackets.{role, step_by}
use Rattle.ir_terminals.specs.Position.{Position}
use Rattle.ir_terminals.proofs.Machines.{went_on, ended, shorter}
use Rattle.ir_terminals.proofs.cursor.Cursor.skip_any_brackets.Goals as goal

pub tokens-smaller : goal.tokens-smaller
tokens-smaller c = shorter c.in-Some.terminal c.tokens.self c.advance.new.self c.in-Some.ensures c.advance.ensures

pub tokens-preserved : goal.tokens-preserved
tokens-preserved c =
    let i = c.tokens.invariant in
    let n = c.advance.ensures in
    let on = rw (c.role_of.ensures, c.in-On.is) at c.in_ok-turn.ensures.step in
    record {
      run = i.run ∙ went_on (λ open_ones x. step_by open_ones (role x)) _ _ c.in-Some.terminal c.tokens.self c.advance.new.self c.in-Some.ensures on n;
      limits = ap (λ (p : Position). p.limits) n ∙ i.limits;
      text = ap (λ (p : Position). p.text) n ∙ i.text;
    }

pub returns-in-Ends : goal.returns-in-Ends
returns-in-Ends c =
    let i = c.tokens.invariant in
    let n = c.advance-in-Ends.ensures in
    let on = rw (c.role_of.ensures, c.in-Ends.is) at c.in_ok-turn.ensures.step in
    (i.run ∙ ended (λ open_ones x. step_by open_ones (role x)) _ tt c.in-Some.terminal c.tokens.self c.advance-in-Ends.new.self c.in-Some.ensures on n, ap (λ (p : Position). p.limits) n ∙ i.limits, ap (λ (p : Position). p.text) n ∙ i.text)
