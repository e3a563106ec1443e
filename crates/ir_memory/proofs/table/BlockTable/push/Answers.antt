use Rattle.std.proofs.Common.{◌≡◌, ◌+◌, subst, sym, arith}
use Rattle.ir_memory.specs.Numbered.{kept_in, IsPaged}
use Rattle.ir_memory.proofs.Numbers.{numbered-push}
use Rattle.ir_memory.proofs.table.BlockTable.push.Goals as goal

pub invariant_of-self : goal.invariant_of-self
invariant_of-self c = (c.self.invariant.0, subst (IsPaged c.self.inside.count) (sym c.in_err-put.ensures.err) c.self.invariant.1)

pub invariant_of-self-2 : goal.invariant_of-self-2
invariant_of-self-2 c =
    let next : c.in_ok-count.count ≡ c.self.inside.count + 1 = grind arith in
    (c.self.invariant.0, subst (λ n. IsPaged n c.put.new.pages.items) (sym next) c.in_ok-put.ensures.paged)

pub returns-clause-pushed : goal.returns-clause-pushed
returns-clause-pushed c =
    let next : c.in_ok-count.count ≡ c.self.inside.count + 1 = grind arith in
    rw (next, ← c.self.view_is) (numbered-push c.self.inside.count (kept_in c.self.inside.pages.items) _ c.args.block c.in_ok-put.ensures.here c.in_ok-put.ensures.others)
