-- What is stored into a block that is fresh from some place on.
use Rattle.std.proofs.Common.{◌≡◌, ℕ, zero, suc, ◌+◌, ◌-◌, ◌%◌, ◌^◌, ◌<◌, ◌≤◌, List, [], ◌∷◌, ◌++◌, length, take, drop, map, replicate, Option, Some, None, Result, Ok, Err, Bool, true, false, not, cond, ◌&&◌, nat_eq, nat_le, eqb-true, append_assoc, refl, sym, ap, ◌∙◌, subst, arith}
use Rattle.std.specs.Prelude.{slice_get, is_none, IsOk, if◌then◌else◌}
use Rattle.std.specs.List.{range_with_len}
use Rattle.std.proofs.lemmas.Bool.{cond-true, le-leb, and_from}
use Rattle.std.proofs.lemmas.List.{take-replicate, drop-replicate, replicate-append-replicate, length-append, length-replicate}
use native.Mathlib.Nat.{zero-div}
use Rattle.ir_tables.specs.declared.undefined_kind.UndefinedKind.{UndefinedKind}
use Rattle.ir_tables.specs.declared.undefined_kind.UndefinedKind.TheVariants.{EndedBlock, OutsideBlock, WriteToConstant, Misaligned}
use Rattle.ir_eval.specs.declared.value.Pointer.{Pointer}
use Rattle.ir_eval.specs.declared.value.Scalar.{Scalar}
use Rattle.ir_eval.specs.declared.value.Scalar.TheVariants as scalar
use Rattle.ir_memory.specs.declared.access.BlockPlace.{BlockPlace}
use Rattle.ir_memory.specs.declared.cell.Cell.{Cell}
use Rattle.ir_memory.specs.declared.cell.Cell.TheVariants.{Byte}
use Rattle.ir_memory.specs.declared.leaf.Leaf.{Leaf}
use Rattle.ir_memory.specs.declared.leaf.Leaf.TheVariants as leaf
use Rattle.ir_memory.specs.MemoryBlock.{MemoryBlock, holds, written}
use Rattle.ir_memory.specs.Cell.{byte_at, size, leaf_cells}
use Rattle.ir_memory.specs.Memory.{Blocks, access, changed, block_found, has_constant, has_ended, home, is_over, number_where, place_at, place_in, put_at, stored}
use Rattle.ir_memory.proofs.Finds.{is_some_count}
use Rattle.run_rules.specs.Access.{and_then, behind, stored_slots}
use Rattle.run_rules.specs.Plan.{Contents}
use Rattle.typed_runs.specs.Kinds.{IsOf}
use Rattle.typed_runs.specs.States.{AreStored}
use Rattle.run_initial.specs.Initial.Fresh.{is_fresh, put, to_store}
use Rattle.run_initial.proofs.OnInitial.Ordered.{AreInOrder, from_earlier}

-- ---- one block of many is changed

pub changed_there : (i : ℕ) (f : MemoryBlock → MemoryBlock) (bs : List MemoryBlock) (b : MemoryBlock) → slice_get bs i ≡ Some b → slice_get (changed i f bs) i ≡ Some (f b)
changed_there i f [] b e = cc
changed_there zero f (x ∷ bs) b e = let same : x ≡ b = cc in ap (λ (y : MemoryBlock). Some (f y)) same
changed_there (suc i) f (x ∷ bs) b e = changed_there i f bs b e

pub changed_other : (i j : ℕ) (f : MemoryBlock → MemoryBlock) (bs : List MemoryBlock) → (j ≡ i → ⊥) → slice_get (changed i f bs) j ≡ slice_get bs j
changed_other i j f [] never = refl
changed_other zero zero f (x ∷ bs) never = absurd (never refl)
changed_other zero (suc j) f (x ∷ bs) never = refl
changed_other (suc i) zero f (x ∷ bs) never = refl
changed_other (suc i) (suc j) f (x ∷ bs) never = changed_other i j f bs (λ e. never (ap suc e))

changed_same : (i : ℕ) (f : MemoryBlock → MemoryBlock) (bs : List MemoryBlock) (b : MemoryBlock) → slice_get bs i ≡ Some b → f b ≡ b → changed i f bs ≡ bs
changed_same i f [] b e same = refl
changed_same zero f (x ∷ bs) b e same =
    let is : x ≡ b = cc in
    ap (λ (y : MemoryBlock). y ∷ bs) (ap f is ∙ same ∙ sym is)
changed_same (suc i) f (x ∷ bs) b e same = ap (λ (l : List MemoryBlock). x ∷ l) (changed_same i f bs b e same)

-- ---- a store within a block that lives

abbrev judged : Bool → Bool → Bool → Bool → Bool → Option BlockPlace → Result (Option BlockPlace) UndefinedKind
judged none over outside fixed crooked place =
    if none then Ok None else (if over then Err EndedBlock else (if outside then Err OutsideBlock else (if fixed then Err WriteToConstant else (if crooked then Err Misaligned else Ok place))))

module _ (m : Blocks) (q : Pointer) (i : ℕ) (b : MemoryBlock) (of_block : q.block ≡ Some i) (there : slice_get m.list i ≡ Some b) (live : b.live ≡ true) (unsealed : m.sealed ≡ false) where
  within : (count : ℕ) → b.start ≤ q.address → q.address + count ≤ b.start + b.size → (b.live && holds b q.address count) ≡ true
  within count low high =
      and_from b.live (holds b q.address count) live (and_from (nat_le b.start q.address) (nat_le (q.address + count) (b.start + b.size)) (le-leb b.start q.address low) (le-leb (q.address + count) (b.start + b.size) high))

  home_is : (count : ℕ) → b.start ≤ q.address → q.address + count ≤ b.start + b.size → home m.list q count ≡ Some i
  home_is count low high =
      let test : MemoryBlock → Bool = λ x. x.live && holds x q.address count in
      ap (block_found m.list test) of_block ∙ ap (number_where i test) there ∙ cond-true (test b) (Some i) None (within count low high)

  access_is : (count : ℕ) → 1 ≤ count → b.start ≤ q.address → q.address + count ≤ b.start + b.size → access m count 1 true (scalar.Ptr q) ≡ Ok (Some (record { index = i; offset = q.address - b.start }))
  access_is count some low high =
      let here = home_is count low high in
      let none : nat_eq count 0 ≡ false = is_some_count count some in
      let over : has_ended m.list q.block ≡ false = ap (has_ended m.list) of_block ∙ ap is_over there ∙ ap not live in
      let outside : is_none (home m.list q count) ≡ false = ap is_none here in
      let fixed : (true && m.sealed && has_constant m.list (home m.list q count)) ≡ false = ap (λ (x : Bool). true && x && has_constant m.list (home m.list q count)) unsealed in
      let whole : q.address % 1 ≡ 0 = omega arith in
      let crooked : not (nat_eq (q.address % 1) 0) ≡ false = ap (λ (n : ℕ). not (nat_eq n 0)) whole in
      let place : place_at m.list q.address (home m.list q count) ≡ Some (record { index = i; offset = q.address - b.start }) = ap (place_at m.list q.address) here ∙ ap (place_in i q.address) there in
      (λ j. judged (none j) (over j) (outside j) (fixed j) (crooked j) (place j))

-- the same memory with other cells from a place of that block on
abbrev pub with_cells : Blocks → ℕ → ℕ → List Cell → Blocks
with_cells m i at cells = record m { list = changed i (written at cells) m.list }

-- ---- a block that is fresh from some place on

-- a pointer to the start of a live block: cells in front are as they are, and the others fresh
pub record IsFresh (m : Blocks) (p : Pointer) (i : ℕ) (front : List Cell) (rest : ℕ) : Type 0 where
  pub block : MemoryBlock
  pub of_block : p.block ≡ Some i
  pub address : p.address ≡ block.start
  pub there : slice_get m.list i ≡ Some block
  pub live : block.live ≡ true
  pub long : block.size ≡ length front + rest
  pub near : block.start + block.size < 2 ^ 64
  pub cells : block.cells ≡ front ++ replicate rest (Byte 0)
  pub unsealed : m.sealed ≡ false

low_enough : (n : ℕ) → n < 2 ^ 64 → n % 2 ^ 64 ≡ n
low_enough n h = omega (arith, h)

module _ (m : Blocks) (p : Pointer) (i : ℕ) (front : List Cell) (rest : ℕ) (f : IsFresh m p i front rest) (at : ℕ) (kind : Leaf) (v : Scalar) (inside : at + size kind ≤ length front + rest) where
  place_is : (behind p at).address ≡ f.block.start + at
  place_is =
      let long = f.long in
      let near = f.near in
      let same : p.address + at ≡ f.block.start + at = ap (λ (n : ℕ). n + at) f.address in
      let small : f.block.start + at < 2 ^ 64 = omega (arith, inside, long, near) in
      ap (λ (n : ℕ). n % 2 ^ 64) same ∙ low_enough (f.block.start + at) small

  stored_is : 1 ≤ size kind → stored (scalar.Ptr (behind p at)) kind 1 v m ≡ Ok (with_cells m i at (leaf_cells kind v))
  stored_is some =
      let long = f.long in
      let is = place_is in
      let q = behind p at in
      let low : f.block.start ≤ q.address = omega (arith, is) in
      let high : q.address + size kind ≤ f.block.start + f.block.size = omega (arith, is, inside, long) in
      let offset : q.address - f.block.start ≡ at = omega (arith, is) in
      ap (put_at m (leaf_cells kind v)) (access_is m q i f.block f.of_block f.there f.live f.unsealed (size kind) some low high)
      ∙ ap (λ (n : ℕ). Ok (with_cells m i n (leaf_cells kind v))) offset

-- ---- cells

abbrev pub zeros : ℕ → List Cell
zeros n = replicate n (Byte 0)

digit_none : (k : ℕ) → byte_at 0 k ≡ 0
digit_none k = ap (λ (n : ℕ). n % 256) (zero-div (256 ^ k))

bytes_zero : (start n : ℕ) → map (λ k. Byte (byte_at 0 k)) (range_with_len start n) ≡ zeros n
bytes_zero start zero = refl
bytes_zero start (suc n) = λ j. Byte (digit_none start j) ∷ bytes_zero (start + 1) n j

take_fresh : (front : List Cell) (rest at : ℕ) → length front ≤ at → at ≤ length front + rest → take at (front ++ zeros rest) ≡ front ++ zeros (at - length front)
take_fresh [] rest at low high = take-replicate at rest (Byte 0) (omega (arith, high)) ∙ (let same : at ≡ at - 0 = omega arith in ap (λ (n : ℕ). replicate n (Byte 0)) same)
take_fresh (c ∷ front) rest zero low high = absurd (omega (arith, low))
take_fresh (c ∷ front) rest (suc at) low high =
    let less : at - length front ≡ suc at - suc (length front) = omega arith in
    ap (λ (l : List Cell). c ∷ l) (take_fresh front rest at (omega (arith, low)) (omega (arith, high)) ∙ ap (λ (n : ℕ). front ++ replicate n (Byte 0)) less)

drop_fresh : (front : List Cell) (rest at : ℕ) → length front ≤ at → drop at (front ++ zeros rest) ≡ zeros (length front + rest - at)
drop_fresh [] rest at low = drop-replicate at rest (Byte 0) ∙ (let same : rest - at ≡ 0 + rest - at = omega arith in ap (λ (n : ℕ). replicate n (Byte 0)) same)
drop_fresh (c ∷ front) rest zero low = absurd (omega (arith, low))
drop_fresh (c ∷ front) rest (suc at) low =
    let less : length front + rest - at ≡ suc (length front) + rest - suc at = omega arith in
    drop_fresh front rest at (omega (arith, low)) ∙ ap (λ (n : ℕ). replicate n (Byte 0)) less

-- ---- one leaf is stored

module _ (m : Blocks) (p : Pointer) (i : ℕ) (front : List Cell) (rest : ℕ) (f : IsFresh m p i front rest) (at : ℕ) (cells : List Cell) (low : length front ≤ at) (inside : at + length cells ≤ length front + rest) where
  -- what stands in front from now on
  abbrev pub longer : List Cell
  longer = front ++ (zeros (at - length front) ++ cells)

  abbrev pub left : ℕ
  left = length front + rest - (at + length cells)

  written_is : take at f.block.cells ++ cells ++ drop (at + length cells) f.block.cells ≡ longer ++ zeros left
  written_is =
      let first = ap (take at) f.cells ∙ take_fresh front rest at low (omega (arith, inside)) in
      let last = ap (drop (at + length cells)) f.cells ∙ drop_fresh front rest (at + length cells) (omega (arith, low)) in
      (λ j. first j ++ cells ++ last j) ∙ ap (λ (l : List Cell). l ++ zeros left) (append_assoc front (zeros (at - length front)) cells)

  longer_length : length longer ≡ at + length cells
  longer_length =
      let one = length-append front (zeros (at - length front) ++ cells) in
      let two = length-append (zeros (at - length front)) cells in
      let three = length-replicate (at - length front) (Byte 0) in
      omega (arith, one, two, three, low)

  pub fresh_still : IsFresh (with_cells m i at cells) p i longer left
  fresh_still = record {
    block = written at cells f.block;
    of_block = f.of_block;
    address = f.address;
    there = changed_there i (written at cells) m.list f.block f.there;
    live = f.live;
    long = let whole = f.long in let now = longer_length in omega (arith, whole, now, inside);
    near = f.near;
    cells = written_is;
    unsealed = f.unsealed;
  }

  -- zeros change nothing
  pub zeros_same : (n : ℕ) → cells ≡ zeros n → length cells ≡ n → with_cells m i at cells ≡ m
  zeros_same n is count =
      let more : length front + rest ≡ length front + (at - length front + (n + left)) = omega (arith, count, low, inside) in
      let same : rest ≡ at - length front + (n + left) = omega (arith, more) in
      let cells_same : longer ++ zeros left ≡ f.block.cells =
      append_assoc front (zeros (at - length front) ++ cells) (zeros left)
      ∙ ap (λ (l : List Cell). front ++ l)
      (append_assoc (zeros (at - length front)) cells (zeros left)
      ∙ ap (λ (l : List Cell). zeros (at - length front) ++ (l ++ zeros left)) is
      ∙ ap (λ (l : List Cell). zeros (at - length front) ++ l) (replicate-append-replicate n left (Byte 0))
      ∙ replicate-append-replicate (at - length front) (n + left) (Byte 0)
      ∙ ap (λ (k : ℕ). zeros k) (sym same))
      ∙ sym f.cells in
      ap (λ (l : List MemoryBlock). record m { list = l })
      (changed_same i (written at cells) m.list f.block f.there (ap (λ (l : List Cell). record f.block { cells = l }) (written_is ∙ cells_same)))

-- ---- all leaves

no_cells : (cells : List Cell) → length cells ≡ 0 → cells ≡ zeros 0
no_cells [] e = refl
no_cells (c ∷ cells) e = absurd (omega (arith, e))

-- a leaf of any size
leaf_stored : (m : Blocks) (p : Pointer) (i : ℕ) (front : List Cell) (rest : ℕ) → IsFresh m p i front rest → (at : ℕ) (kind : Leaf) (v : Scalar) → length front ≤ at → at + size kind ≤ length front + rest → length (leaf_cells kind v) ≡ size kind
    → stored (scalar.Ptr (behind p at)) kind 1 v m ≡ Ok (with_cells m i at (leaf_cells kind v))
leaf_stored m p i front rest f at kind v low inside long = go (size kind) refl
  where
    go : (n : ℕ) → size kind ≡ n → stored (scalar.Ptr (behind p at)) kind 1 v m ≡ Ok (with_cells m i at (leaf_cells kind v))
    go zero e =
        let none : length (leaf_cells kind v) ≡ 0 = long ∙ e in
        ap (λ (n : ℕ). put_at m (leaf_cells kind v) (access m n 1 true (scalar.Ptr (behind p at)))) e
        ∙ ap (λ (n : Blocks). Ok n) (sym (zeros_same m p i front rest f at (leaf_cells kind v) low (omega (arith, inside, long)) 0 (no_cells (leaf_cells kind v) none) none))
    go (suc n) e = stored_is m p i front rest f at kind v inside (omega (arith, e))

spelled_long : (count : ℕ) (kind : Leaf) (v : Scalar) → IsOf count kind v → length (leaf_cells kind v) ≡ size kind
spelled_long count kind scalar.Poison h = length-replicate (size kind) _
spelled_long count kind (scalar.Int n) h = go 0 (size kind)
  where
    go : (start k : ℕ) → length (map (λ j. Byte (byte_at n j)) (range_with_len start k)) ≡ k
    go start zero = refl
    go start (suc k) = ap suc (go (start + 1) k)
spelled_long count (leaf.Int w) (scalar.Ptr p) h = absurd h
spelled_long count leaf.Ptr (scalar.Ptr p) h = refl

fresh_zero : (v : Scalar) → is_fresh v ≡ true → v ≡ scalar.Int 0
fresh_zero (scalar.Int n) h = ap scalar.Int (eqb-true n 0 h)
fresh_zero (scalar.Ptr p) h = cc
fresh_zero scalar.Poison h = cc

-- into a block that is fresh from there on all is stored, and it is enough to store what fresh memory does not read as
both_stored : (xs : Contents) (m : Blocks) (p : Pointer) (i : ℕ) (front : List Cell) (rest to count : ℕ) → to ≡ length front + rest → IsFresh m p i front rest → AreInOrder (length front) to xs → AreStored count xs
    → IsOk (stored_slots p 1 xs m) × (stored_slots p 1 xs m ≡ stored_slots p 1 (to_store xs) m)
both_stored [] m p i front rest to count whole f order are = (refl, refl)
both_stored (x ∷ xs) m p i front rest to count whole f order are =
    go (is_fresh x.1) refl (λ n l k e g o. both_stored xs n p i l k to count e g o are.1)
  where
    cells : List Cell
    cells = leaf_cells x.0.leaf x.1

    many : length cells ≡ size x.0.leaf
    many = spelled_long count x.0.leaf x.1 are.0

    low : length front ≤ x.0.offset
    low = order.0

    inside : x.0.offset + size x.0.leaf ≤ length front + rest
    inside = let high = order.1 in omega (arith, high, whole)

    cells_inside : x.0.offset + length cells ≤ length front + rest
    cells_inside = omega (arith, inside, many)

    here : stored (scalar.Ptr (behind p x.0.offset)) x.0.leaf 1 x.1 m ≡ Ok (with_cells m i x.0.offset cells)
    here = leaf_stored m p i front rest f x.0.offset x.0.leaf x.1 low inside many

    longest : to ≡ length (longer m p i front rest f x.0.offset cells low cells_inside) + left m p i front rest f x.0.offset cells low cells_inside
    longest = let now = longer_length m p i front rest f x.0.offset cells low cells_inside in omega (arith, now, whole, cells_inside)

    later : AreInOrder (length (longer m p i front rest f x.0.offset cells low cells_inside)) to xs
    later =
        let now = longer_length m p i front rest f x.0.offset cells low cells_inside in
        subst (λ (n : ℕ). AreInOrder n to xs) (let same : x.0.offset + size x.0.leaf ≡ length (longer m p i front rest f x.0.offset cells low cells_inside) = omega (arith, now, many) in same) order.2

    all : Result Blocks UndefinedKind
    all = and_then (stored (scalar.Ptr (behind p x.0.offset)) x.0.leaf 1 x.1 m) (λ n. stored_slots p 1 xs n)

    go : (b : Bool) → is_fresh x.1 ≡ b
        → ((n : Blocks) (l : List Cell) (k : ℕ) → to ≡ length l + k → IsFresh n p i l k → AreInOrder (length l) to xs → IsOk (stored_slots p 1 xs n) × (stored_slots p 1 xs n ≡ stored_slots p 1 (to_store xs) n))
        → IsOk all × (all ≡ stored_slots p 1 (cond (not b) (x ∷ to_store xs) (to_store xs)) m)
    go true e more =
        let is : cells ≡ zeros (size x.0.leaf) = ap (leaf_cells x.0.leaf) (fresh_zero x.1 e) ∙ bytes_zero 0 (size x.0.leaf) in
        let same : with_cells m i x.0.offset cells ≡ m = zeros_same m p i front rest f x.0.offset cells low cells_inside (size x.0.leaf) is many in
        let first : all ≡ stored_slots p 1 xs m = ap (λ (r : Result Blocks UndefinedKind). and_then r (λ n. stored_slots p 1 xs n)) (here ∙ ap (λ (n : Blocks). Ok n) same) in
        let others = more m front rest whole f (from_earlier (length front) (x.0.offset + size x.0.leaf) to xs (omega (arith, low)) order.2) in
        (subst (λ (r : Result Blocks UndefinedKind). IsOk r) (sym first) others.0, first ∙ others.1)
    go false e more =
        let first : all ≡ stored_slots p 1 xs (with_cells m i x.0.offset cells) = ap (λ (r : Result Blocks UndefinedKind). and_then r (λ n. stored_slots p 1 xs n)) here in
        let others =
        more (with_cells m i x.0.offset cells) (longer m p i front rest f x.0.offset cells low cells_inside) (left m p i front rest f x.0.offset cells low cells_inside) longest
        (fresh_still m p i front rest f x.0.offset cells low cells_inside) later in (
          subst (λ (r : Result Blocks UndefinedKind). IsOk r) (sym first) others.0,
          first ∙ others.1 ∙ sym (ap (λ (r : Result Blocks UndefinedKind). and_then r (λ n. stored_slots p 1 (to_store xs) n)) here),
        )

module _ (xs : Contents) (m : Blocks) (p : Pointer) (i : ℕ) (front : List Cell) (rest to count : ℕ) (whole : to ≡ length front + rest) (f : IsFresh m p i front rest) (order : AreInOrder (length front) to xs) (are : AreStored count xs) where
  -- it is enough to store what fresh memory does not read as
  pub same_stored : stored_slots p 1 xs m ≡ stored_slots p 1 (to_store xs) m
  same_stored = (both_stored xs m p i front rest to count whole f order are).1

  -- every store goes well
  pub all_stored : IsOk (stored_slots p 1 xs m)
  all_stored = (both_stored xs m p i front rest to count whole f order are).0

  -- and so does every store that is needed
  pub all_put : IsOk (put p xs m)
  all_put = subst (λ (r : Result Blocks UndefinedKind). IsOk r) same_stored all_stored
