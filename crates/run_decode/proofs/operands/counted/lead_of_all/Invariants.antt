use Rattle.std.proofs.Common.{◌≡◌, ◌+◌, ◌*◌, ◌≤◌, drop, length}
use Rattle.type_table.specs.declared.measure.TheConstants.{SIZE_LIMIT}
use Rattle.run_decode.specs.declared.operands.counted.TheConstants.{NO_SIGN_BELOW}
use Rattle.run_decode.specs.Operands.Open.{led_by}
use Rattle.run_decode.proofs.operands.counted.lead_of_all.Given as goal

-- with the steps that are left it is what all lead over, and so many steps have not made it much
abbrev pub invariant-leads : goal.invariant-leads
invariant-leads l = record {
  led : l.all + led_by (drop l.step-index l.steps) ≡ led_by l.steps;
  near : l.all ≤ l.step-index * (NO_SIGN_BELOW * SIZE_LIMIT);
  within : l.step-index ≤ length l.steps;
}
