use Rattle.std.proofs.Common.{ℕ, Option, None, refl, sym, arith}
use Rattle.std.specs.Prelude.{if◌then◌else◌}
use Rattle.std.specs.Ordering.{nat_cmp}
use Rattle.std.specs.BTreeMap as tree
use Rattle.ir_memory.specs.declared.pointers.piece.PointerPiece.{PointerPiece}
use Rattle.ir_memory.specs.Pointers.Pieces.{at_slots, is_within}
use Rattle.ir_memory.proofs.OnPointers.Seen.{ahead_more, before, behind, done_all, done_more, either, not_before}
use Rattle.ir_memory.proofs.pointers.slots.clear.Goals as goal

pub slots-init : goal.slots-init
slots-init c =
    let seen = at_slots (tree.get nat_cmp c.args.slots.now) in
    record { low = omega arith; high = c.end_of-end.ensures.order; done = λ q h. sym (before c.args.from c.args.to q None (seen q) (omega (arith, h))); ahead = λ s h. refl }

pub slots-preserved : goal.slots-preserved
slots-preserved c =
    let a = c.args in
    let now = tree.get nat_cmp c.slots.slots in
    let new = tree.get nat_cmp c.hide.new.slots in
    let initial = tree.get nat_cmp a.slots.now in
    let to_be = λ (q : ℕ) (x : Option PointerPiece). if is_within a.from a.to q then None else x in
    let n = c.in-Some.met.0 in
    let i = c.slots.invariant in
    let e = c.in-Some.ensures in
    record {
      low = omega (arith, i.low, e.within.0);
      high = omega (arith, e.within.1);
      done = done_more to_be initial (λ q h. either (is_within a.from a.to q) None) now new c.slots.next n e.within.0 i.done i.ahead e.first c.hide.ensures.here c.hide.ensures.others;
      ahead = ahead_more to_be initial (λ q h. either (is_within a.from a.to q) None) now new c.slots.next n e.within.0 i.ahead c.hide.ensures.others;
    }

pub returns : goal.returns
returns c =
    let a = c.args in
    let to_be = λ (q : ℕ) (x : Option PointerPiece). if is_within a.from a.to q then None else x in
    let i = c.slots.invariant in
    done_all to_be (tree.get nat_cmp a.slots.now) (λ q h. either (is_within a.from a.to q) None) (tree.get nat_cmp c.slots.slots) c.slots.next c.end_of-end.result i.done i.ahead c.in_default.ensures.none
    (λ q h x. behind a.from a.to q None x (not_before q a.to c.end_of-end.result (c.end_of-end.ensures.behind q) h))
