use Rattle.std.proofs.Common.{◌≡◌, List, length, nat_eq, ap, subst, arith}
use Rattle.run_rules.specs.State.{Due}
use Rattle.run_acts.specs.Said.{IsLast}
use Rattle.run_acts.proofs.Listed.{last_told}
use Rattle.run_acts.proofs.due.DueCalls.is_empty.Goals as goal

pub returns : goal.returns
returns c =
    let s = c.self.inside in
    let many : c.len.result ≡ length s.calls.items = omega (arith, c.len.ensures, s.calls.ok.0) in
    subst (λ (ds : List Due). IsLast ds (nat_eq s.made c.len.result)) c.self.view_is
    (last_told s.calls.items s.made (nat_eq s.made c.len.result) (omega (arith, c.self.invariant, s.calls.ok.0)) (ap (nat_eq s.made) many))
