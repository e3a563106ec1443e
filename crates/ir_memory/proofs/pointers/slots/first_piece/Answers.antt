use Rattle.std.proofs.Common.{sym, ◌∙◌, arith}
use Rattle.std.specs.Ordering.{nat_cmp}
use Rattle.std.specs.BTreeMap as tree
use Rattle.ir_memory.proofs.OnPointers.Seen.{first_here, if_none, none_all, none_before, none_more}
use Rattle.ir_memory.proofs.pointers.slots.first_piece.Goals as goal

pub slots-init : goal.slots-init
slots-init c = record { low = omega arith; high = c.end_of-end.ensures.order; none = λ q low high h. absurd (omega (arith, low, h)) }

pub slots-preserved : goal.slots-preserved
slots-preserved c =
    let seen = tree.get nat_cmp c.args.slots.now in
    let i = c.slots.invariant in
    let e = c.in-Some.ensures in
    let met = c.in-Some.met in
    record {
      low = omega (arith, i.low, e.within.0);
      high = omega (arith, e.within.1);
      none = none_more seen c.args.from c.args.to c.slots.next met.0 met.1 i.none e.first e.here (if_none c.first-piece.result c.first-piece.ensures.none (sym c.is_some.ensures ∙ c.if-is_some.false));
    }

pub returns-then-is_some-clause-here : goal.returns-then-is_some-clause-here
returns-then-is_some-clause-here c =
    let met = c.in-Some.met in
    first_here (tree.get nat_cmp c.args.slots.now) met.0 met.1 c.first-piece.result c.in-Some.ensures.here c.first-piece.ensures.slot c.first-piece.ensures.here

pub returns-then-is_some-clause-first : goal.returns-then-is_some-clause-first
returns-then-is_some-clause-first c =
    let met = c.in-Some.met in
    let e = c.in-Some.ensures in
    none_before (tree.get nat_cmp c.args.slots.now) c.args.from c.args.to c.slots.next met.0 met.1 c.slots.invariant.none e.first e.here c.first-piece.result c.first-piece.ensures.within c.first-piece.ensures.slot c.first-piece.ensures.first

pub returns-clause-none : goal.returns-clause-none
returns-clause-none c = none_all (tree.get nat_cmp c.args.slots.now) c.args.from c.args.to c.slots.next c.end_of-end.result c.slots.invariant.none c.in_default.ensures.none c.end_of-end.ensures.behind
