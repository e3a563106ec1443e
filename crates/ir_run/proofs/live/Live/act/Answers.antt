use Rattle.std.proofs.Common.{◌≡◌, true, false, sym, ◌∙◌, subst}
use Rattle.std.specs.Prelude.{IfOk, OnErr}
use Rattle.run_acts.specs.declared.next.Next.{Next}
use Rattle.run_acts.specs.Acting.{is_outer_here}
use Rattle.run_acts.proofs.AskedCalls.{if_ok}
use Rattle.ir_run.specs.Living.{Acts, IsLive, Living, may_want_in}
use Rattle.ir_run.specs.Stretch.{LeavesOff, Walks}
use Rattle.ir_run.specs.declared.stretch.StretchEnd.{StretchEnd}
use Rattle.ir_run.proofs.Stretches.{acts_one, acts_stop, acts_with, live_one, live_with, walks_from, went_one}
use Rattle.ir_run.proofs.live.Live.act.Goals as goal

-- ---- a call, or a return

pub crosses-requires-clause-live : goal.crosses-requires-clause-live
crosses-requires-clause-live c =
    let steps = c.requires.live.0 in
    let written = c.clear.new.self.items in
    (steps, subst (λ (x : Living). IsLive steps (record x { written = written })) (sym c.self.view_is) (live_with steps written c.args.self.now c.requires.live.1), c.requires.live.2)

pub cross-requires-clause-outer : goal.cross-requires-clause-outer
cross-requires-clause-outer c = sym c.if-crosses.ensures

pub cross-requires-clause-live : goal.cross-requires-clause-live
cross-requires-clause-live c =
    let steps = c.requires.live.0 in
    let written = c.clear.new.self.items in
    (steps, subst (λ (x : Living). IsLive steps (record x { written = written })) (sym c.self.view_is) (live_with steps written c.args.self.now c.requires.live.1), c.requires.live.2)

pub returns-then-crosses-clause-acted : goal.returns-then-crosses-clause-acted
returns-then-crosses-clause-acted c =
    let old = c.args.self.now in
    let last = c.cross.new.self in
    let written = c.clear.new.self.items in
    if_ok c.cross.result (λ (next : Next). Acts next (record old { written = written }) last) (λ (next : Next). Acts next old last) (λ next a. acts_with written old last next a)
    (subst (λ (x : Living). IfOk c.cross.result (λ (next : Next). Acts next (record x { written = written }) last)) c.self.view_is c.cross.ensures.acted)

pub returns-then-crosses-clause-live : goal.returns-then-crosses-clause-live
returns-then-crosses-clause-live c = λ steps h.
    let written = c.clear.new.self.items in
    c.cross.ensures.live steps (subst (λ (x : Living). IsLive steps (record x { written = written })) (sym c.self.view_is) (live_with steps written c.args.self.now h))

pub returns-then-crosses-clause-wants : goal.returns-then-crosses-clause-wants
returns-then-crosses-clause-wants c = subst (λ (x : Living). OnErr c.cross.result (may_want_in x ≡ true)) c.self.view_is c.cross.ensures.wants

pub returns-then-crosses-clause-kept : goal.returns-then-crosses-clause-kept
returns-then-crosses-clause-kept c = subst (λ (x : Living). OnErr c.cross.result (c.cross.new.self.program.lists ≡ x.program.lists)) c.self.view_is c.cross.ensures.kept

-- ---- any other

-- the instruction ends the run
pub returns-in-Stops-clause-acted : goal.returns-in-Stops-clause-acted
returns-in-Stops-clause-acted c =
    let s = c.go_one-stretch.result in
    let old = c.args.self.now in
    let new = c.go_one-stretch.new.self in
    let written = c.clear.new.self.items in
    let walks = walks_from s written old new (subst (λ (x : Living). Walks s (record x { written = written }) new) c.self.view_is c.go_one-stretch.ensures.walks) in
    let few = subst (λ (e : StretchEnd). LeavesOff 1 s.count e new.program new.stack) c.in-Stops.is c.go_one-stretch.ensures.further in
    acts_stop old new s walks c.in-Stops.stop c.in-Stops.is few

-- it goes on
pub returns-in-Waits-clause-acted : goal.returns-in-Waits-clause-acted
returns-in-Waits-clause-acted c =
    let s = c.go_one-stretch.result in
    let old = c.args.self.now in
    let new = c.go_one-stretch.new.self in
    let written = c.clear.new.self.items in
    let walks = walks_from s written old new (subst (λ (x : Living). Walks s (record x { written = written }) new) c.self.view_is c.go_one-stretch.ensures.walks) in
    let inner = subst (λ (x : Living). is_outer_here x.program x.stack ≡ false) c.self.view_is (sym c.if-crosses.ensures) in
    let one = went_one old new s walks c.in-Waits.is c.go_one-stretch.ensures.few c.go_one-stretch.ensures.further c.requires.frames inner in
    acts_one old new s walks c.in-Waits.is one (c.go_one-stretch.ensures.written ∙ c.clear.ensures.items)

pub returns-in-Waits-clause-live : goal.returns-in-Waits-clause-live
returns-in-Waits-clause-live c = λ steps h.
    let s = c.go_one-stretch.result in
    let old = c.args.self.now in
    let new = c.go_one-stretch.new.self in
    let written = c.clear.new.self.items in
    let walks = walks_from s written old new (subst (λ (x : Living). Walks s (record x { written = written }) new) c.self.view_is c.go_one-stretch.ensures.walks) in
    let inner = subst (λ (x : Living). is_outer_here x.program x.stack ≡ false) c.self.view_is (sym c.if-crosses.ensures) in
    let one = went_one old new s walks c.in-Waits.is c.go_one-stretch.ensures.few c.go_one-stretch.ensures.further c.requires.frames inner in
    let live = subst (λ (x : Living). IsLive steps (record x { written = written })) (sym c.self.view_is) (live_with steps written old h) in
    live_one steps s.count s.end new c.in-Waits.is one (c.go_one-stretch.ensures.live steps live)
