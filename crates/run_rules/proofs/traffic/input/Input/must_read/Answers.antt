use Rattle.std.proofs.Common.{arith, ap, ◌∙◌}
use Rattle.std.proofs.lemmas.Bool.Decides.{nat_tests}
use Rattle.run_rules.specs.Traffic.Input.{Waiting}
use Rattle.run_rules.proofs.OnTraffic.Buffers.{same_place}
use Rattle.run_rules.proofs.traffic.input.Input.must_read.Goals as goal

-- where the places differ a byte waits
pub returns-else-self : goal.returns-else-self
returns-else-self c =
    let u = c.self.inside in
    let differ = c.if-self.false in (
      λ h. grind (arith, nat_tests),
      λ w. absurd (differ (same_place u.at u.end u.bytes.items c.self.invariant.0 (omega (arith, c.self.invariant.1, u.bytes.ok.0)) (ap (λ (v : Waiting). v.unused) c.self.view_is ∙ w.0))),
    )
