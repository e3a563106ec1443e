-- What is stored is read back.
use Rattle.std.proofs.Common.{◌≡◌, ℕ, zero, suc, ◌+◌, ◌-◌, ◌*◌, ◌/◌, ◌%◌, ◌^◌, ◌<◌, ◌≤◌, List, [], ◌∷◌, ◌++◌, length, take, drop, map, replicate, refl, sym, ap, ◌∙◌, subst, arith, Option, Some, None, Ok, Err, Bool, true, false, inl, inr, lit≤}
use Rattle.std.specs.Prelude.{slice_get, slice_range, nat_eq, ◌&&◌, if◌then◌else◌}
use Rattle.std.specs.List.{range_with_len, position_or_len}
use Rattle.std.proofs.Math.Nat.{div-one, mod-eq_of_lt, div-div-eq-div-mul, mod-add-div, pow-succ', pow-le-pow_right}
use Rattle.std.proofs.lemmas.List.{length-replicate}
use Rattle.std.proofs.lemmas.List.FromFn.{length-map-range_with_len}
use Rattle.std.proofs.lemmas.Bool.Decides.{eqb_tells}
use Rattle.ir_eval.specs.declared.value.Pointer.{Pointer}
use Rattle.ir_eval.specs.declared.value.Scalar.{Scalar}
use Rattle.ir_eval.specs.declared.value.Scalar.TheVariants as scalar
use Rattle.ir_tables.specs.declared.undefined_kind.UndefinedKind.TheVariants.{EndedBlock, OutsideBlock, WriteToConstant, Misaligned}
use Rattle.ir_memory.proofs.OnMasked.Numbers.{shift}
use Rattle.ir_memory.specs.declared.leaf.Leaf.{Leaf}
use Rattle.ir_memory.specs.declared.leaf.Leaf.TheVariants as leaf
use Rattle.ir_memory.specs.declared.cell.Cell.{Cell}
use Rattle.ir_memory.specs.declared.cell.Cell.TheVariants as cell
use Rattle.ir_memory.specs.declared.access.BlockPlace.{BlockPlace}
use Rattle.ir_memory.specs.Given.{IsLeaf, Fits}
use Rattle.ir_memory.specs.Cell.{size, leaf_cells, byte_at, bytes, pieces, read, integer, pointer, number_of, same_block, are_pieces}
use Rattle.ir_memory.specs.MemoryBlock.{MemoryBlock, written, holds}
use Rattle.ir_memory.specs.Memory.{Blocks, changed, access, has_ended, is_over, home, block_found, number_where, place_at, place_in}
use Rattle.ir_memory.proofs.Known.{length-changed}

eqb_same : (n : ℕ) → nat_eq n n ≡ true
eqb_same n = elim (eqb_tells n n) [ inl h ↦ h.0 | inr h ↦ absurd (h.1 refl) ]

-- the bytes of a number from place s on spell what stands above
number-from : (n k s : ℕ) → n / 256 ^ s < 256 ^ k → number_of (map (λ k. cell.Byte (byte_at n k)) (range_with_len s k)) ≡ Some (n / 256 ^ s)
number-from n zero s small = let none : 0 ≡ n / 256 ^ s = omega (arith, small) in ap Some none
number-from n (suc k) s small =
    let above : n / 256 ^ (s + 1) ≡ n / 256 ^ s / 256 = ap (λ p. n / p) (pow-more s) ∙ sym (div-div-eq-div-mul n (256 ^ s) 256) in
    let less : n / 256 ^ s < 256 * 256 ^ k = subst (λ p. n / 256 ^ s < p) (pow-succ' 256 k) small in
    let rest : n / 256 ^ (s + 1) < 256 ^ k = omega (arith, above, less) in
    let whole : n / 256 ^ s % 256 + 256 * (n / 256 ^ (s + 1)) ≡ n / 256 ^ s = ap (λ x. n / 256 ^ s % 256 + 256 * x) above ∙ mod-add-div (n / 256 ^ s) 256 in
    rw (number-from n k (s + 1) rest) (ap Some whole)
  where
    pow-more : (s : ℕ) → 256 ^ (s + 1) ≡ 256 ^ s * 256
    pow-more s = let e : s + 1 ≡ suc s = omega arith in rw e (omega (arith, pow-succ' 256 s))

number-bytes : (n k : ℕ) → n < 256 ^ k → number_of (bytes k n) ≡ Some n
number-bytes n k small =
    let one : n / 256 ^ 0 ≡ n = div-one n in
    number-from n k 0 (subst (λ x. x < 256 ^ k) (sym one) small) ∙ ap Some one

wide : (width : ℕ) → 2 ^ width ≤ 256 ^ ((width + 7) / 8)
wide width =
    let more : 2 ^ width ≤ 2 ^ (8 * ((width + 7) / 8)) = pow-le-pow_right (lit≤ tt) (omega arith) in
    subst (λ p. 2 ^ width ≤ p) (shift ((width + 7) / 8)) more

number-poison : (k : ℕ) → 1 ≤ k → number_of (replicate k cell.Poison) ≡ None
number-poison zero some = absurd (omega (arith, some))
number-poison (suc k) some = refl

same_block-same : (b : Option ℕ) → same_block b b ≡ true
same_block-same None = refl
same_block-same (Some i) = eqb_same i

are_pieces-pieces : (p : Pointer) (n s : ℕ) → are_pieces p s (map (λ k. cell.Piece p k) (range_with_len s n)) ≡ true
are_pieces-pieces p zero s = refl
are_pieces-pieces p (suc n) s = rw (same_block-same p.block, eqb_same p.address, eqb_same s) (are_pieces-pieces p n (s + 1))

pub read-spelled : (leaf : Leaf) (value : Scalar) → IsLeaf leaf → Fits leaf value → read leaf (leaf_cells leaf value) ≡ value
read-spelled (leaf.Int width) scalar.Poison is fits = ap (integer width) (number-poison ((width + 7) / 8) (omega (arith, is)))
read-spelled (leaf.Int width) (scalar.Int n) is fits =
    ap (integer width) (number-bytes n ((width + 7) / 8) (omega (arith, fits, wide width))) ∙ ap scalar.Int (mod-eq_of_lt fits)
read-spelled (leaf.Int width) (scalar.Ptr p) is fits = absurd fits
read-spelled leaf.Ptr scalar.Poison is fits = refl
read-spelled leaf.Ptr (scalar.Int n) is fits = absurd fits
read-spelled leaf.Ptr (scalar.Ptr p) is fits = ap (λ t. pointer (if t then Some p else None) (number_of (pieces p))) (are_pieces-pieces p 8 0)

-- the pieces of a pointer are read as that
pub whole_read : (p : Pointer) → scalar.Ptr p ≡ read leaf.Ptr (pieces p)
whole_read p = sym (read-spelled leaf.Ptr (scalar.Ptr p) tt tt)

-- the cells that were written are there
after_front : (at : ℕ) (cells rest : List Cell) → at ≤ length cells → drop at (take at cells ++ rest) ≡ rest
after_front zero cells rest within = refl
after_front (suc at) [] rest within = absurd (omega (arith, within))
after_front (suc at) (c ∷ cells) rest within = after_front at cells rest (omega (arith, within))

front_of : (new rest : List Cell) → take (length new) (new ++ rest) ≡ new
front_of [] rest = refl
front_of (c ∷ new) rest = ap (λ cs. c ∷ cs) (front_of new rest)

three : (xs ys zs : List Cell) → xs ++ ys ++ zs ≡ xs ++ (ys ++ zs)
three [] ys zs = refl
three (x ∷ xs) ys zs = ap (λ cs. x ∷ cs) (three xs ys zs)

pub sliced-written : (at count : ℕ) (new cells : List Cell) → count ≡ length new → at + count ≤ length cells → slice_range (take at cells ++ new ++ drop (at + length new) cells) at (at + count) ≡ new
sliced-written at count new cells is within =
    let long : at + count - at ≡ length new = omega (arith, is) in
    ap (λ cs. take (at + count - at) (drop at cs)) (three (take at cells) new (drop (at + length new) cells))
    ∙ ap (λ cs. take (at + count - at) cs) (after_front at cells (new ++ drop (at + length new) cells) (omega (arith, within)))
    ∙ ap (λ n. take n (new ++ drop (at + length new) cells)) long
    ∙ front_of new (drop (at + length new) cells)

-- a write changes nothing that an access asks
module _ (at : ℕ) (new : List Cell) where
  same-at : {X : Type 0} (F : Option MemoryBlock → X) → ((b : MemoryBlock) → F (Some (written at new b)) ≡ F (Some b)) → (i : ℕ) (bs : List MemoryBlock) (j : ℕ) → F (slice_get (changed i (written at new) bs) j) ≡ F (slice_get bs j)
  same-at F same i [] j = refl
  same-at F same zero (b ∷ bs) zero = same b
  same-at F same zero (b ∷ bs) (suc j) = refl
  same-at F same (suc i) (b ∷ bs) zero = refl
  same-at F same (suc i) (b ∷ bs) (suc j) = same-at F same i bs j

  same-first : (test : MemoryBlock → Bool) → ((b : MemoryBlock) → test (written at new b) ≡ test b) → (i : ℕ) (bs : List MemoryBlock) → position_or_len test (changed i (written at new) bs) ≡ position_or_len test bs
  same-first test same i [] = refl
  same-first test same zero (b ∷ bs) = rw (same b) refl
  same-first test same (suc i) (b ∷ bs) = rw (same-first test same i bs) refl

  same-home : (i : ℕ) (bs : List MemoryBlock) (p : Pointer) (count : ℕ) (want : Option ℕ) → block_found (changed i (written at new) bs) (λ b. b.live && holds b p.address count) want ≡ block_found bs (λ b. b.live && holds b p.address count) want
  same-home i bs p count None = rw (same-first (λ b. b.live && holds b p.address count) (λ b. refl) i bs, length-changed i (written at new) bs) refl
  same-home i bs p count (Some j) = same-at (number_where j (λ b. b.live && holds b p.address count)) (λ b. refl) i bs j

  same-end : (i : ℕ) (bs : List MemoryBlock) (want : Option ℕ) → has_ended (changed i (written at new) bs) want ≡ has_ended bs want
  same-end i bs None = refl
  same-end i bs (Some j) = same-at is_over (λ b. refl) i bs j

  same-place : (i : ℕ) (bs : List MemoryBlock) (address : ℕ) (at_home : Option ℕ) → place_at (changed i (written at new) bs) address at_home ≡ place_at bs address at_home
  same-place i bs address None = refl
  same-place i bs address (Some j) = same-at (place_in j address) (λ b. refl) i bs j

relaxed : (none over outside fixed misaligned : Bool) (there place : Option BlockPlace) → (if none then Ok None else (if over then Err EndedBlock else (if outside then Err OutsideBlock else (if fixed then Err WriteToConstant else (if misaligned then Err Misaligned else Ok there))))) ≡ Ok place → (if none then Ok None else (if over then Err EndedBlock else (if outside then Err OutsideBlock else (if misaligned then Err Misaligned else Ok there)))) ≡ Ok place
relaxed true over outside fixed misaligned there place e = e
relaxed false true outside fixed misaligned there place e = e
relaxed false false true fixed misaligned there place e = e
relaxed false false false true misaligned there place e = cc
relaxed false false false false misaligned there place e = e

-- what was written can be read
pub access-read : (m : Blocks) (count align i at : ℕ) (new : List Cell) (address : Scalar) (place : Option BlockPlace) → access m count align true address ≡ Ok place → access (record m { list = changed i (written at new) m.list }) count align false address ≡ Ok place
access-read m count align i at new (scalar.Int n) place e = e
access-read m count align i at new scalar.Poison place e = e
access-read m count align i at new (scalar.Ptr p) place e =
    rw (same-end at new i m.list p.block, same-home at new i m.list p count p.block, same-place at new i m.list p.address (home m.list p count))
    (relaxed _ _ _ _ _ _ place e)

pub length-spelled : (leaf : Leaf) (value : Scalar) → Fits leaf value → length (leaf_cells leaf value) ≡ size leaf
length-spelled leaf scalar.Poison fits = length-replicate (size leaf) cell.Poison
length-spelled leaf (scalar.Int n) fits = length-map-range_with_len (λ k. cell.Byte (byte_at n k)) 0 (size leaf)
length-spelled leaf.Ptr (scalar.Ptr p) fits = refl
length-spelled (leaf.Int width) (scalar.Ptr p) fits = absurd fits
