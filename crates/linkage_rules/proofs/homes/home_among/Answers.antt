use Rattle.std.proofs.Common.{◌≡◌, ◌+◌, ◌-◌, ◌<◌, length, sym, ap, arith, le_refl}
use Rattle.std.proofs.lemmas.Option.{slice_get-get_or}
use Rattle.linkage_rules.specs.Grouped.{home_among}
use Rattle.linkage_rules.specs.Ids.{modules}
use Rattle.linkage_rules.proofs.Steps.{drop_whole, home_back}
use Rattle.linkage_rules.proofs.homes.home_among.Goals as goal

pub back-init : goal.back-init
back-init c = record {
  within = le_refl _;
  known = tt;
  home = sym (ap (home_among (modules c.args.parts.now)) (drop_whole c.args.ids.now));
}

pub back-preserved : goal.back-preserved
back-preserved c =
    let ids = c.args.ids.now in
    let k = c.back.index in
    let some : 0 < k = c.back-test.true in
    let within = c.back.invariant.within in
    let inside : k - 1 < length ids = omega (arith, some, within) in
    let next : k - 1 + 1 ≡ k = omega (arith, some) in
    record {
      within = omega (arith, within);
      known = c.better-best.ensures.home;
      home = home_back (modules c.args.parts.now) ids k (k - 1) _ _ _ next (slice_get-get_or ids (k - 1) _ inside) c.better-best.ensures.better c.back.invariant.home;
    }
