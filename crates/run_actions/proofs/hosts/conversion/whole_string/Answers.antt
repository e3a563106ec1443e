use Rattle.std.proofs.Common.{◌≡◌, ℕ, Option, None, Ok, sym, subst}
use Rattle.std.specs.Prelude.{IfSome}
use Rattle.run_rules.specs.Printing.{string_for}
use Rattle.run_actions.proofs.OnHosts.Put.{on_some}
use Rattle.run_actions.proofs.hosts.conversion.whole_string.Goals as goal

pub returns-in-None-clause-told : goal.returns-in-None-clause-told
returns-in-None-clause-told c =
    subst (λ (most : Option ℕ). IfSome c.plain_string.result (λ bytes. string_for c.args.memory.now most c.args.string ≡ Ok bytes.now)) (sym c.in-None.is) c.plain_string.ensures

pub returns-in-None-clause-plain : goal.returns-in-None-clause-plain
returns-in-None-clause-plain c = on_some c.plain_string.result (c.args.conversion.now.precision ≡ None) c.in-None.is
