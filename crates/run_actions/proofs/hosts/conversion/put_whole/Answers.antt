use Rattle.std.proofs.Common.{◌++◌, ◌∙◌, List, ℕ, ap}
use Rattle.run_actions.proofs.OnHosts.Put.{whole_is}
use Rattle.run_actions.proofs.hosts.conversion.put_whole.Goals as goal

pub returns-then-width-eq0-clause-ok : goal.returns-then-width-eq0-clause-ok
returns-then-width-eq0-clause-ok c =
    c.in_ok-extend_from_slice.ensures.items
    ∙ ap (λ (bytes : List ℕ). c.args.written.now.items ++ bytes) (whole_is c.args.conversion.now c.args.bytes.now c.requires.bytes c.requires.plain c.if-width-eq0.true)
