use Rattle.std.proofs.Common.{◌≡◌, ℕ, ◌-◌, map, ap, arith}
use Rattle.std.specs.List.{range_with_len}
use Rattle.run_rules.specs.Action.{Held}
use Rattle.run_actions.specs.declared.stack.origin.Origin.TheVariants as origin
use Rattle.run_decode.proofs.OnScopes.Gained.{gains_one, gains_same, place_more}
use Rattle.run_decode.proofs.scopes.leaves.push_places.Goals as goal

pub places-preserved : goal.places-preserved
places-preserved c =
    place_more c.args.into.now.items c.places.into.items c.push.new.self.items c.args.begin c.places.place (omega arith) c.places.invariant
    (gains_one c.places.into.items c.push.new.self.items (origin.Held c.places.place) c.in_ok-push.ensures.items)

pub returns : goal.returns
returns c =
    let all : c.places.place - c.args.begin ≡ c.args.end - c.args.begin = omega arith in
    gains_same c.args.into.now.items c.places.into.items _ _ (ap (λ (n : ℕ). map Held (range_with_len c.args.begin n)) all) c.places.invariant
