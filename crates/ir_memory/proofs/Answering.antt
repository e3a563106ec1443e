-- What a refused call answers, and that what was stored is loaded.
use Rattle.std.proofs.Common.{◌≡◌, ◌∙◌, ℕ, zero, suc, ◌+◌, ◌<◌, ◌≤◌, List, [], ◌∷◌, length, get_or, ap, sym, subst, refl, arith, Option, Some, Result, Ok, Err, Bool, true, false, not, ◌&&◌, if◌then◌else◌}
use Rattle.std.specs.Prelude.{slice_get, IsOk}
use Rattle.std.specs.Result.{IsErr, IsErrAnd}
use Rattle.ir_tables.specs.declared.undefined_kind.UndefinedKind.{UndefinedKind}
use Rattle.ir_tables.specs.declared.undefined_kind.UndefinedKind.TheVariants.{Overlap}
use Rattle.ir_eval.specs.declared.value.Pointer.{Pointer}
use Rattle.ir_eval.specs.declared.value.Scalar.{Scalar}
use Rattle.ir_memory.specs.declared.pointers.piece.PointerPiece.{PointerPiece}
use Rattle.ir_memory.proofs.OnMasked.Placed.{length-placed}
use Rattle.ir_memory.specs.declared.fault.MemoryFault.{MemoryFault}
use Rattle.ir_memory.specs.declared.fault.MemoryFault.TheVariants.{Undefined, Memory}
use Rattle.ir_memory.specs.declared.leaf.Leaf.{Leaf}
use Rattle.ir_memory.specs.declared.access.BlockPlace.{BlockPlace}
use Rattle.ir_memory.specs.declared.kept.KeptBlock.{KeptBlock}
use Rattle.ir_memory.specs.MemoryBlock.{MemoryBlock, written}
use Rattle.ir_memory.specs.Memory.{Blocks, access, changed, cells_at, cells_of, put, overlap, copied, copied_at}
use Rattle.ir_memory.specs.Cell.{size, leaf_cells, read}
use Rattle.ir_memory.specs.Given.{IsLeaf, Fits, IsKnown, IsBlock}
use Rattle.ir_memory.specs.Answer.{Answers}
use Rattle.ir_memory.specs.Seen.{over, cells, seen, all_seen, ended_block, IsSound}
use Rattle.ir_memory.proofs.Changed.{length-all, seen-read}
use Rattle.ir_memory.proofs.Fills.{copied-some}
use Rattle.ir_memory.proofs.ReadBack.{sliced-written, read-spelled, length-spelled}

pub undefined : {T : Type 0} (expected : Result Blocks UndefinedKind) (old new : Blocks) (r : Result T MemoryFault) (kind : UndefinedKind) → IsErr r → IsErrAnd r (λ t. t ≡ Undefined kind) → expected ≡ Err kind → new ≡ old → Answers expected old new r
undefined {T = T} expected old new (Ok x) kind is gives e same = cc
undefined {T = T} expected old new (Err fault) kind is gives e same = subst (λ t. Answers {T = T} expected old new (Err t)) (sym gives) (e, same)

pub wanting : {T : Type 0} (expected : Result Blocks UndefinedKind) (old new : Blocks) (r : Result T MemoryFault) → IsErr r → IsErrAnd r (λ t. t ≡ Memory) → IsOk expected → new ≡ old → Answers expected old new r
wanting {T = T} expected old new (Ok x) is gives fine same = cc
wanting {T = T} expected old new (Err fault) is gives fine same = subst (λ t. Answers {T = T} expected old new (Err t)) (sym gives) (fine, same)

pub refused : {T E : Type 0} (r : Result T E) (e : E) → IsErr r → IsErrAnd r (λ t. t ≡ e) → r ≡ Err e
refused (Ok x) e is gives = cc
refused (Err f) e is gives = ap (λ t. Err t) gives

-- a known pointer's block is one of the table
pub known-within : (p : ℕ → Option PointerPiece) (kept : List KeptBlock) (pointer : Pointer) (i : ℕ) → IsKnown (all_seen p kept) pointer → pointer.block ≡ Some i → i < length kept
known-within p kept pointer i known is =
    let below : i < length (all_seen p kept) = subst (λ b. IsBlock (length (all_seen p kept)) b) is known in omega (arith, below, length-all p kept)

changed-there : (f : MemoryBlock → MemoryBlock) (bs : List MemoryBlock) (i : ℕ) (d : MemoryBlock) → i < length bs → slice_get (changed i f bs) i ≡ Some (f (get_or bs i d))
changed-there f [] i d h = absurd (omega (arith, h))
changed-there f (b ∷ bs) zero d h = refl
changed-there f (b ∷ bs) (suc i) d h = changed-there f bs i d (omega (arith, h))

-- what was stored is read back
pub stored-back : (p : ℕ → Option PointerPiece) (kept : List KeptBlock) (next : ℕ) (place : BlockPlace) (leaf : Leaf) (value : Scalar) → IsSound p kept next → place.index < length kept → place.offset + size leaf ≤ (get_or kept place.index ended_block).size → IsLeaf leaf → Fits leaf value → read leaf (cells_at (changed place.index (written place.offset (leaf_cells leaf value)) (all_seen p kept)) (size leaf) (Some place)) ≡ value
stored-back p kept next place leaf value sound within holds is fits =
    ap (λ o. read leaf (cells_of place.offset (size leaf) o)) (there ∙ ap (λ b. Some (written place.offset (leaf_cells leaf value) b)) one)
    ∙ ap (read leaf) (sliced-written place.offset (size leaf) (leaf_cells leaf value) (cells p (get_or kept place.index ended_block).start (get_or kept place.index ended_block).bytes) (sym (length-spelled leaf value fits)) enough)
    ∙ read-spelled leaf value is fits
  where
    there : slice_get (changed place.index (written place.offset (leaf_cells leaf value)) (all_seen p kept)) place.index ≡ Some (written place.offset (leaf_cells leaf value) (get_or (all_seen p kept) place.index (seen p (get_or kept place.index ended_block))))
    there = changed-there (written place.offset (leaf_cells leaf value)) (all_seen p kept) place.index (seen p (get_or kept place.index ended_block)) (omega (arith, within, length-all p kept))

    one : get_or (all_seen p kept) place.index (seen p (get_or kept place.index ended_block)) ≡ seen p (get_or kept place.index ended_block)
    one = seen-read p kept place.index (seen p (get_or kept place.index ended_block)) ended_block within

    enough : place.offset + size leaf ≤ length (cells p (get_or kept place.index ended_block).start (get_or kept place.index ended_block).bytes)
    enough =
        let long = length-placed (λ a x. over (p a) x) (get_or kept place.index ended_block).start (get_or kept place.index ended_block).bytes in
        let whole = sound.whole place.index ended_block within in omega (arith, long, whole, holds)

-- a copy, where both ranges were judged
module _ (m : Blocks) (to from : Scalar) (count : ℕ) (may : Bool) (s t : BlockPlace) (meets : Bool) (some : count ≡ 0 → ⊥) (source : access m count 1 false from ≡ Ok (Some s)) (is : meets ≡ (not may && overlap count (Some s) (Some t))) where
  judged_source : copied to from count may m ≡ copied_at m count may (Ok (Some s)) (access m count 1 true to)
  judged_source = copied-some to from count may m some ∙ ap (λ r. copied_at m count may r (access m count 1 true to)) source

  pub copied-refused : (kind : UndefinedKind) → access m count 1 true to ≡ Err kind → copied to from count may m ≡ Err kind
  copied-refused kind target = judged_source ∙ ap (λ r. copied_at m count may (Ok (Some s)) r) target

  chosen : (u : Bool) → access m count 1 true to ≡ Ok (Some t) → meets ≡ u → copied to from count may m ≡ (if u then Err Overlap else Ok (put m (cells_at m.list count (Some s)) (Some t)))
  chosen u target e =
      judged_source
      ∙ ap (λ r. copied_at m count may (Ok (Some s)) r) target
      ∙ ap (λ x. if x then Err Overlap else Ok (put m (cells_at m.list count (Some s)) (Some t))) (sym is ∙ e)

  pub copied-overlap : access m count 1 true to ≡ Ok (Some t) → meets ≡ true → copied to from count may m ≡ Err Overlap
  copied-overlap target e = chosen true target e

  pub copied-ok : access m count 1 true to ≡ Ok (Some t) → meets ≡ false → copied to from count may m ≡ Ok (put m (cells_at m.list count (Some s)) (Some t))
  copied-ok target e = chosen false target e
