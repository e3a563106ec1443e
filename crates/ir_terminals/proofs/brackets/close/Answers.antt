use Rattle.std.proofs.Common.{sym, ◌∙◌, arith}
use Rattle.std.proofs.lemmas.Bool.Decides.{nat_tests}
use Rattle.ir_terminals.proofs.Stacks.{closes_inner, closes_another}
use Rattle.ir_terminals.proofs.brackets.close.Goals as goal

pub returns-else-is_empty : goal.returns-else-is_empty
returns-else-is_empty c =
    closes_inner _ _ c.in-Some.last c.args.bracket c.in-Some.ensures.items (sym c.eq.ensures ∙ c.if-eq.true) (grind (arith, nat_tests))

pub returns-in_default : goal.returns-in_default
returns-in_default c = closes_another _ _ c.in-Some.last c.args.bracket c.in-Some.ensures.items (sym c.eq.ensures ∙ c.if-eq.false)
