use Rattle.std.proofs.Common.{ℕ, ◌∙◌, Some, refl, arith}
use Rattle.std.proofs.lemmas.List.{length-set}
use Rattle.ir_memory.proofs.OnPointers.Places.{place_more}
use Rattle.ir_memory.proofs.pointers.slot.PieceSlot.whole.Goals as goal

pub places-preserved : goal.places-preserved
places-preserved c = record {
  long = length-set c.places.pieces c.places.k _ ∙ c.places.invariant.long;
  done = place_more c.places.pieces (λ (j : ℕ). Some (record { pointer = c.args.pointer; place = j })) c.places.k _ (omega (arith, c.places.invariant.long)) c.places.invariant.done refl;
}
