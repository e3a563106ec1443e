use Rattle.std.proofs.Common.{◌≡◌, length, ap₂, arith, ◌∙◌}
use Rattle.extract_rules.proofs.Adding.{take_whole}
use Rattle.extract_core.specs.Fates.Fates.{fates_of}
use Rattle.extract_core.proofs.OnFates.ByFates.{fates_pushed}
use Rattle.extract_core.proofs.fates.fates.fates_of.Goals as goal

pub loop-number-preserved : goal.loop-number-preserved
loop-number-preserved c =
    fates_pushed c.args.kept.now c.args.named.now c.loop-number.number c.at.result.now c.at-in-loop-number.result.now c.loop-number.fates c.push.new.self c.fate_of-fate.result
    c.at.ensures c.at-in-loop-number.ensures c.loop-number.invariant c.in_ok-push.ensures.ok c.fate_of-fate.ensures

pub returns : goal.returns
returns c =
    let kept = c.args.kept.now in
    let named = c.args.named.now in
    let n = c.loop-number.number in
    let end : n ≡ length kept = omega (arith, c.loop-number-test.false, c.loop-number.auto.number-end, c.len-number-end.ensures) in
    let past : n ≡ length named = omega (arith, end, c.requires) in
    c.loop-number.invariant ∙ ap₂ fates_of (take_whole kept n end) (take_whole named n past)
