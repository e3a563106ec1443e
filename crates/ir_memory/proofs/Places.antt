-- Pointers and the blocks that they speak of, by what is read of the table.
use Rattle.std.proofs.Common.{◌≡◌, ◌∙◌, ℕ, ◌<◌, ◌≤◌, ◌+◌, ◌-◌, ◌%◌, List, length, get_or, ap, sym, refl, subst, true, arith, Bool, not, ◌&&◌, Option, Some, None, cond}
use Rattle.std.specs.Prelude.{is_some, nat_eq}
use Rattle.std.proofs.lemmas.Bool.{and_parts}
use Rattle.std.proofs.lemmas.List.{get_or_default}
use Rattle.ir_eval.specs.declared.value.Pointer.{Pointer}
use Rattle.ir_eval.specs.declared.value.Scalar.TheVariants.{Ptr}
use Rattle.ir_memory.specs.declared.pointers.piece.PointerPiece.{PointerPiece}
use Rattle.ir_memory.specs.declared.kind.BlockKind.{BlockKind}
use Rattle.ir_memory.specs.declared.kept.KeptBlock.{KeptBlock}
use Rattle.ir_memory.specs.MemoryBlock.{holds, starts, is_constant, same_kind}
use Rattle.ir_memory.specs.Memory.{access, started, bounds_at}
use Rattle.ir_memory.specs.Find.{IsOnly}
use Rattle.ir_memory.specs.Seen.{seen, all_seen, IsSound}
use Rattle.ir_memory.proofs.Changed.{length-all, seen-read, placed-kept}
use Rattle.ir_memory.proofs.Finds.{access-at, started-at, bounds-at, judged}

module _ (p : ℕ → Option PointerPiece) (kept : List KeptBlock) where
  pub read : (i : ℕ) (b : KeptBlock) → i < length kept → b ≡ get_or kept i b → seen p b ≡ get_or (all_seen p kept) i (seen p b)
  read i b h is = ap (seen p) is ∙ sym (seen-read p kept i (seen p b) b h)

  pub access-kept : (next : ℕ) (sealed : Bool) (count align : ℕ) (writes : Bool) (pointer : Pointer) (i : ℕ) (b : KeptBlock) → 1 ≤ count → IsOnly (all_seen p kept) pointer.block pointer.address (Some i) → i < length kept → b ≡ get_or kept i b → access (record { list = all_seen p kept; next = next; sealed = sealed }) count align writes (Ptr pointer) ≡ judged (not b.live && is_some pointer.block) (not (b.live && holds (seen p b) pointer.address count)) (writes && sealed && is_constant b.kind) (nat_eq (pointer.address % align) 0) (record { index = i; offset = pointer.address - b.start })
  access-kept next sealed count align writes pointer i b some only h is =
      access-at (record { list = all_seen p kept; next = next; sealed = sealed }) count align writes pointer i (seen p b) some only (omega (arith, h, length-all p kept)) (read i b h is)

  pub started-kept : (pointer : Pointer) (kind : BlockKind) (i : ℕ) (b : KeptBlock) (t : Bool) → IsOnly (all_seen p kept) pointer.block pointer.address (Some i) → i < length kept → b ≡ get_or kept i b → t ≡ starts (seen p b) pointer.address kind → started (all_seen p kept) (Ptr pointer) kind ≡ cond t (Some i) None
  started-kept pointer kind i b t only h is e =
      started-at (all_seen p kept) pointer kind i (seen p b) t only (omega (arith, h, length-all p kept)) (read i b h is) e

  pub bounds-kept : (i : ℕ) (b : KeptBlock) → i < length kept → b ≡ get_or kept i b → bounds_at (all_seen p kept) (Some i) ≡ cond b.live (Some (b.start, b.start + b.size)) None
  bounds-kept i b h is = bounds-at (all_seen p kept) i (seen p b) b.live (omega (arith, h, length-all p kept)) (read i b h is) refl

-- a live block that is read is placed
pub read-placed-kept : (p : ℕ → Option PointerPiece) (kept : List KeptBlock) (next i : ℕ) (b : KeptBlock) → IsSound p kept next → i < length kept → b ≡ get_or kept i b → b.live ≡ true → (65536 ≤ b.start) × (b.start + b.size + 16 ≤ next)
read-placed-kept p kept next i b sound h is live =
    subst (λ x. (65536 ≤ x.start) × (x.start + x.size + 16 ≤ next)) (sym is) (placed-kept p kept next i b sound h (subst (λ x. x.live ≡ true) is live))

-- a block that was found lives
pub live-there : (kept : List KeptBlock) (i : ℕ) (b : KeptBlock) → i < length kept → b ≡ get_or kept i b → b.live ≡ true → (d : KeptBlock) → (get_or kept i d).live ≡ true
live-there kept i b h is live d = ap (λ x. x.live) (get_or_default kept i d b h ∙ sym is) ∙ live

pub starts-live : (p : ℕ → Option PointerPiece) (b : KeptBlock) (address : ℕ) (kind : BlockKind) (t : Bool) → t ≡ starts (seen p b) address kind → t ≡ true → b.live ≡ true
starts-live p b address kind t e is =
    let whole : (b.live && nat_eq b.start address && same_kind b.kind kind) ≡ true = sym e ∙ is in
    (and_parts b.live (nat_eq b.start address) (and_parts (b.live && nat_eq b.start address) (same_kind b.kind kind) whole).0).0
