use Rattle.std.proofs.Common.{◌≡◌, ℕ, ◌∙◌, Option, Some, refl, sym, subst, arith}
use Rattle.std.specs.Prelude.{◌≢◌, if◌then◌else◌, IsSome}
use Rattle.std.specs.Ordering.{nat_cmp}
use Rattle.std.specs.BTreeMap as tree
use Rattle.ir_memory.specs.declared.pointers.piece.PointerPiece.{PointerPiece}
use Rattle.ir_memory.specs.Pointers.Pieces.{at_slots, is_within}
use Rattle.ir_memory.proofs.OnPointers.Seen.{ahead_more, before, behind, changed_here, chosen, done_all, done_more, found_empty, not_before, passed}
use Rattle.ir_memory.proofs.pointers.slots.write_all.Goals as goal

pub slots-init : goal.slots-init
slots-init c =
    let seen = at_slots (tree.get nat_cmp c.args.slots.now) in
    record { low = omega arith; high = c.end_of-end.ensures.order; done = λ q h. sym (before c.args.from c.args.to q (tree.get nat_cmp c.args.found.now q) (seen q) (omega (arith, h))); ahead = λ s h. refl }

pub change-requires : goal.change-requires
change-requires c = subst IsSome (sym c.in-Some.ensures.here) refl

pub slots-preserved : goal.slots-preserved
slots-preserved c =
    let a = c.args in
    let now = tree.get nat_cmp c.slots.slots in
    let new = tree.get nat_cmp c.change.new.slots in
    let initial = tree.get nat_cmp a.slots.now in
    let found = tree.get nat_cmp a.found.now in
    let to_be = λ (q : ℕ) (x : Option PointerPiece). if is_within a.from a.to q then found q else x in
    let n = c.in-Some.met.0 in
    let i = c.slots.invariant in
    let e = c.in-Some.ensures in
    let empty = found_empty found initial a.from a.to c.requires.room in
    let others : (s : ℕ) → s ≢ n → new s ≡ now s = λ s m. c.change.ensures s ∙ passed s n (Some c.with.result) (now s) m in
    let here = changed_here now new n c.in-Some.met.1 c.with.result to_be e.here (c.change.ensures n ∙ chosen n n (Some c.with.result) (now n) refl) c.with.ensures in
    record {
      low = omega (arith, i.low, e.within.0);
      high = omega (arith, e.within.1);
      done = done_more to_be initial empty now new c.slots.next n e.within.0 i.done i.ahead e.first here others;
      ahead = ahead_more to_be initial empty now new c.slots.next n e.within.0 i.ahead others;
    }

pub returns : goal.returns
returns c =
    let a = c.args in
    let found = tree.get nat_cmp a.found.now in
    let to_be = λ (q : ℕ) (x : Option PointerPiece). if is_within a.from a.to q then found q else x in
    let initial = tree.get nat_cmp a.slots.now in
    let i = c.slots.invariant in
    done_all to_be initial (found_empty found initial a.from a.to c.requires.room) (tree.get nat_cmp c.slots.slots) c.slots.next c.end_of-end.result i.done i.ahead c.in_default.ensures.none
    (λ q h x. behind a.from a.to q (found q) x (not_before q a.to c.end_of-end.result (c.end_of-end.ensures.behind q) h))
