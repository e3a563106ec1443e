use Rattle.std.proofs.Common.{◌≡◌, ℕ, suc, length, inr, refl, ap, subst, ◌∙◌, arith}
use Rattle.bit_dump.specs.Walk.Walker.{piece_of}
use Rattle.std.proofs.lemmas.Result.{err_from_is_err_and}
use Rattle.bit_dump.specs.Dumped.{Counted}
use Rattle.bit_dump.proofs.Telling.{begins, goes_on, wants_more, halts, closes}
use Rattle.bit_dump.proofs.judged.tell_all.Goals as goal

pub telling-init : goal.telling-init
telling-init g c = record {
  told = λ bytes whole h. begins bytes whole (g.S.Sink.taken c.args.sink.now)
      c.args.walker.now.left c.args.outline.now h.tree h.stream h.left_is h.told_is;
  faults = refl;
  unspent = c.requires;
}

pub returns-in_err-next : goal.returns-in_err-next
returns-in_err-next g c =
    let p = err_from_is_err_and c.from_residual.result c.from_residual.ensures.1 in
    record {
      told = λ bytes whole h. rw (p.1, p.2)
          (inr (wants_more bytes whole (g.S.Sink.taken c.args.sink.now)
          (g.S.Sink.taken c.telling.sink) c.telling.walker.left c.telling.outline
          (c.telling.invariant.told bytes whole h)));
      counted = rw (p.1, p.2) c.telling.invariant.faults;
    }

pub returns-in-None : goal.returns-in-None
returns-in-None g c =
    let gave = rw (c.telling.invariant.unspent, c.in-None.is) at c.in_ok-next.ensures.walks in
    record {
      told = λ bytes whole h. closes bytes whole (g.S.Sink.taken c.args.sink.now)
          (g.S.Sink.taken c.telling.sink) (g.S.Sink.taken c.finish.new.sink) c.telling.outline
          c.telling.walker.left c.finish.result (c.telling.invariant.told bytes whole h) gave.1
          c.finish.ensures.told;
      counted = subst
          (λ (n : ℕ). Counted n (g.S.Sink.faults c.finish.new.sink) c.finish.result)
          c.telling.invariant.faults c.finish.ensures.counted;
    }

pub returns-in_err-tell-in-Some-clause-told : goal.returns-in_err-tell-in-Some-clause-told
returns-in_err-tell-in-Some-clause-told g c = λ bytes whole h.
    let p = err_from_is_err_and c.from_residual-in_err-tell-in-Some.result
    c.from_residual-in_err-tell-in-Some.ensures.1 in
    let gave = rw (c.telling.invariant.unspent, c.in-Some.is) at c.in_ok-next.ensures.walks in
    let so_far = c.telling.invariant.told bytes whole h in
    rw (p.1, p.2) (halts bytes whole (g.S.Sink.taken c.args.sink.now)
    (g.S.Sink.taken c.telling.sink) (g.S.Sink.taken c.tell.new.sink) c.telling.walker.left
    c.next.new.self.left (piece_of c.in-Some.event c.next.new.self) c.telling.outline
    c.tell.new.outline c.in_err-tell-in-Some.field-0.0 so_far gave.1
    (c.in_err-tell-in-Some.ensures.told (g.S.Sink.taken c.args.sink.now) so_far.all so_far.tells))

pub telling-preserved : goal.telling-preserved
telling-preserved g c =
    let gave = rw (c.telling.invariant.unspent, c.in-Some.is) at c.in_ok-next.ensures.walks in
    record {
      told = λ bytes whole h.
          let so_far = c.telling.invariant.told bytes whole h in
          rw c.in_ok-tell-in-Some.ensures.left (goes_on bytes whole
          (g.S.Sink.taken c.args.sink.now) (g.S.Sink.taken c.telling.sink)
          (g.S.Sink.taken c.tell.new.sink) c.telling.walker.left c.next.new.self.left
          (piece_of c.in-Some.event c.next.new.self) c.telling.outline c.tell.new.outline so_far
          gave.1 (c.in_ok-tell-in-Some.ensures.told (g.S.Sink.taken c.args.sink.now) so_far.all
          so_far.tells));
      faults = c.in_ok-tell-in-Some.ensures.counted ∙ c.telling.invariant.faults;
      unspent = c.in_ok-tell-in-Some.ensures.spent ∙ gave.0;
    }

pub telling-smaller : goal.telling-smaller
telling-smaller g c =
    let gave = rw (c.telling.invariant.unspent, c.in-Some.is) at c.in_ok-next.ensures.walks in
    let before : length c.telling.walker.left ≡ suc (length c.next.new.self.left) =
    ap length gave.1 in
    let now : length c.tell.new.walker.left ≡ length c.next.new.self.left =
    ap length c.in_ok-tell-in-Some.ensures.left in
    omega arith
