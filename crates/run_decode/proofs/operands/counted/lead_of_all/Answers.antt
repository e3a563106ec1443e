use Rattle.std.proofs.Common.{zero-add, refl, arith}
use Rattle.std.proofs.lemmas.Int.{ints}
use Rattle.run_decode.specs.Operands.Open.{led_by}
use Rattle.run_decode.proofs.OnOperands.Summed.{led_all, led_more}
use Rattle.run_decode.proofs.operands.counted.lead_of_all.Goals as goal

pub leads-init : goal.leads-init
leads-init c = record { led = zero-add (led_by c.args.steps.now); near = omega arith; within = omega arith }

pub leads-preserved : goal.leads-preserved
leads-preserved c =
    let lt = c.leads-test.true in
    let more = c.lead-bytes.ensures.near in
    let near = c.leads.invariant.near in
    record {
      led = led_more c.args.steps.now c.leads.step-index _ _ c.leads.all c.lead-bytes.result lt refl c.lead-bytes.ensures.value c.leads.invariant.led;
      near = omega (arith, more, near);
      within = omega (arith, lt);
    }

pub returns-clause-value : goal.returns-clause-value
returns-clause-value c =
    let all = led_all c.args.steps.now c.leads.step-index c.leads.all (omega arith) c.leads.invariant.led in
    let near = c.leads.invariant.near in
    let within = c.leads.invariant.within in
    omega (arith, ints, all, near, within)

pub returns-clause-near : goal.returns-clause-near
returns-clause-near c =
    let all = led_all c.args.steps.now c.leads.step-index c.leads.all (omega arith) c.leads.invariant.led in
    let near = c.leads.invariant.near in
    let within = c.leads.invariant.within in
    omega (arith, all, near, within)
