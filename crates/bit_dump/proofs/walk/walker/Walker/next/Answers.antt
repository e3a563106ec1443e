use Rattle.std.proofs.Common.{sym, ap, ◌∙◌}
use Rattle.bit_dump.specs.Walk.Walker.{Walker}
use Rattle.bit_dump.proofs.OnWalk.PlainRecords.{plain_place, plain_read, waiting_read}
use Rattle.bit_dump.proofs.OnWalk.Walked.{walked, still_bare, place_at, left_at, plain_walked}
use Rattle.bit_dump.proofs.walk.walker.Walker.next.Goals as goal

pub behind-place-requires : goal.behind-place-requires
behind-place-requires c = waiting_read c.self.inside.waiting c.self.inside.inner _ (c.self.invariant.read c.if-self.false)

pub returns-in-Some-clause-walks : goal.returns-in-Some-clause-walks
returns-in-Some-clause-walks c =
    let unspent = c.if-self.false in
    let spent = ap (λ (w : Walker). w.spent) (sym c.self.view_is) ∙ unspent in
    let placed = place_at c.self.inside.scope _ c.behind-place.result c.self.inside.kept.start c.self.inside.kept.abbreviation c.behind-place.ensures (c.self.invariant.place unspent) in
    let left = left_at c.args.self.now c.self.inside.spent c.self.inside.scope.scope _ c.behind-place.result (ap (λ (w : Walker). w.left) (sym c.self.view_is)) unspent c.behind-place.ensures in
    rw spent (plain_walked c.args.self.now c.self.inside.spent c.self.inside.scope.scope c.behind-place.result c.in-Some.plain.inner c.in-Some.plain.head c.self.inside.kept.abbreviation unspent c.in-Some.ensures.within c.in-Some.ensures.other c.in-Some.ensures.head placed.ahead left)

pub invariant_of-self : goal.invariant_of-self
invariant_of-self c =
    let placed = place_at c.self.inside.scope _ c.behind-place.result c.self.inside.kept.start c.self.inside.kept.abbreviation c.behind-place.ensures (c.self.invariant.place c.if-self.false) in
    record {
      place = λ _. plain_place c.self.inside.scope c.behind-place.result c.in-Some.plain.inner c.in-Some.plain.head c.self.inside.kept.start c.self.inside.kept.abbreviation c.in-Some.ensures.within c.in-Some.ensures.other c.in-Some.ensures.head placed;
      read = λ _. plain_read c.self.inside.scope c.behind-place.result c.in-Some.plain.inner c.in-Some.plain.head c.self.inside.kept.start c.self.inside.kept.abbreviation c.in-Some.ensures.within c.in-Some.ensures.other c.in-Some.ensures.head placed;
    }

pub advance-requires : goal.advance-requires
advance-requires c = place_at c.self.inside.scope _ c.behind-place.result c.self.inside.kept.start c.self.inside.kept.abbreviation c.behind-place.ensures (c.self.invariant.place c.if-self.false)

pub returns-clause-walks : goal.returns-clause-walks
returns-clause-walks c =
    let unspent = c.if-self.false in
    let spent = ap (λ (w : Walker). w.spent) (sym c.self.view_is) ∙ unspent in
    let placed = place_at c.self.inside.scope _ c.behind-place.result c.self.inside.kept.start c.self.inside.kept.abbreviation c.behind-place.ensures (c.self.invariant.place unspent) in
    let left = left_at c.args.self.now c.self.inside.spent c.self.inside.scope.scope _ c.behind-place.result (ap (λ (w : Walker). w.left) (sym c.self.view_is)) unspent c.behind-place.ensures in
    rw spent (walked c.args.self.now c.in_ok-arrival.arrival.event c.self.inside.scope.scope c.advance.new.scope.scope c.behind-place.result c.advance.new.cursor _ _ _ _ placed.ahead left c.in_ok-arrival.ensures.gave)

pub returns-clause-bare : goal.returns-clause-bare
returns-clause-bare c = still_bare c.in_ok-arrival.arrival.event _ _ _ _ _ c.in_ok-arrival.ensures.bare
