use Rattle.std.proofs.Common.{ℕ, ◌+◌, ◌*◌, ◌∙◌, Option, None, get_or, ap, arith}
use Rattle.std.specs.Prelude.{if◌then◌else◌}
use Rattle.std.specs.Ordering.{nat_cmp}
use Rattle.std.specs.BTreeMap as tree
use Rattle.std.proofs.lemmas.List.{length-set}
use Rattle.ir_memory.specs.declared.pointers.piece.PointerPiece.{PointerPiece}
use Rattle.ir_memory.specs.Pointers.Pieces.{is_within}
use Rattle.ir_memory.proofs.OnPointers.Places.{place_more, place_ahead}
use Rattle.ir_memory.proofs.pointers.slot.PieceSlot.with.Goals as goal

pub places-preserved : goal.places-preserved
places-preserved c =
    let a = c.args in
    let here = λ (j : ℕ). is_within a.from a.to (8 * a.number + j) in
    let found = tree.get nat_cmp a.found.now in
    let k = c.places.k in
    record {
      long = length-set c.places.pieces k _ ∙ c.places.invariant.long;
      done =
          place_more c.places.pieces (λ (j : ℕ). if here j then found (8 * a.number + j) else get_or a.self.pieces j None) k c.found_within.result (omega (arith, c.places.invariant.long)) c.places.invariant.done
          (c.found_within.ensures ∙ ap (λ (p : Option PointerPiece). if here k then found (8 * a.number + k) else p) (c.places.invariant.ahead k (omega arith)));
      ahead = place_ahead c.places.pieces a.self.pieces k _ c.places.invariant.ahead;
    }
