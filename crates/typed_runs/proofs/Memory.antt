-- What keeps memory typed.
use Rattle.std.proofs.Common.{◌≡◌, ℕ, zero, suc, ◌+◌, ◌-◌, ◌*◌, ◌/◌, ◌%◌, ◌^◌, ◌<◌, ◌≤◌, List, [], ◌∷◌, ◌++◌, length, replicate, refl, sym, ◌∙◌, subst, arith, Option, Some, None, Result, Ok, Err, Bool, true, false, lit≤}
use Rattle.std.specs.Prelude.{IfOk, nat_eq, not, ◌&&◌, if◌then◌else◌}
use Rattle.std.specs.List.{All}
use Rattle.std.proofs.Math.Nat.{div-add-mod', pow-le-pow_right}
use Rattle.std.proofs.lemmas.Bool.{leb-true}
use Rattle.std.proofs.lemmas.Nat.{pow_pos, mod_below}
use Rattle.std.proofs.lemmas.List.{length-append}
use Rattle.std.proofs.lemmas.List.Elements.{All-nil, All-cons, All-head, All-tail, All-replicate}
use Rattle.ir_tables.specs.declared.undefined_kind.UndefinedKind.{UndefinedKind}
use Rattle.ir_tables.specs.declared.undefined_kind.UndefinedKind.TheVariants.{Overlap}
use Rattle.ir_eval.specs.declared.value.Pointer.{Pointer}
use Rattle.ir_eval.specs.declared.value.Scalar.{Scalar}
use Rattle.ir_eval.specs.declared.value.Scalar.TheVariants as scalar
use Rattle.ir_memory.specs.declared.leaf.Leaf.{Leaf}
use Rattle.ir_memory.specs.declared.leaf.Leaf.TheVariants as leaf
use Rattle.ir_memory.specs.declared.kind.BlockKind.{BlockKind}
use Rattle.ir_memory.specs.declared.cell.Cell.{Cell}
use Rattle.ir_memory.specs.declared.cell.Cell.TheVariants as cell
use Rattle.ir_memory.specs.declared.access.BlockPlace.{BlockPlace}
use Rattle.ir_memory.specs.Answer.{Keeps}
use Rattle.ir_memory.specs.MemoryBlock.{MemoryBlock, new_block, gone, written}
use Rattle.ir_memory.specs.Cell.{size, read, leaf_cells, integer, pointer, number_of, pointer_of}
use Rattle.ir_memory.specs.Given.{IsAlignment, HasKnown}
use Rattle.ir_memory.specs.Kept.{IsKnownCell, AreKnown}
use Rattle.ir_memory.specs.Memory.{Blocks, added, round_up, live_bytes, byte_limit, changed, access, cells_at, put, put_at, read_at, loaded, stored, filled, copied, copied_at, overlap, ended, ended_at, started}
use Rattle.ir_memory.proofs.Known.{AreKnown-added, AreKnown-written, length-changed, known-cells_of, known-spelled, known-read}
use Rattle.ir_memory.proofs.Placed.{IsPlaced-push, live_bytes-push, IsPlaced-ended, IsPlaced-written, live_bytes-written}
use Rattle.run_rules.specs.Access.{has_room}
use Rattle.typed_runs.specs.Kinds.{IsOf}
use Rattle.typed_runs.specs.States.{IsTypedMemory, IsLater}

-- a value of a kind is one that memory takes

pub has_known : (bs : List MemoryBlock) (kind : Leaf) (v : Scalar) → IsOf (length bs) kind v → HasKnown bs v
has_known bs kind (scalar.Int n) h = tt
has_known bs (leaf.Int w) (scalar.Ptr p) h = absurd h
has_known bs leaf.Ptr (scalar.Ptr p) h = h
has_known bs kind scalar.Poison h = tt

-- a block more

rounded : (n a : ℕ) → 1 ≤ a → (n ≤ (n + (a - 1)) / a * a) × ((n + (a - 1)) / a * a ≤ n + (a - 1))
rounded n a some =
    let whole = div-add-mod' (n + (a - 1)) a in
    let less : (n + (a - 1)) % a < a = mod_below (n + (a - 1)) a some in
    (omega (arith, whole, less, some), omega (arith, whole))

is_placed : (n align : ℕ) → IsAlignment align → (n ≤ round_up n align) × (round_up n align ≤ n + 65535)
is_placed n align h =
    let some : 1 ≤ align = subst (λ a. 1 ≤ a) (sym h.2) (pow_pos h.0) in
    let most : align ≤ 65536 = subst (λ a. a ≤ 65536) (sym h.2) (pow-le-pow_right (lit≤ tt) h.1) in
    let r = rounded n align some in
    (r.0, omega (arith, r, most))

pub added_typed : (size align : ℕ) (kind : BlockKind) (m : Blocks) → IsAlignment align → has_room size m ≡ true → IsTypedMemory m
    → IsTypedMemory (added size align kind m) × IsLater m (added size align kind m) × (length m.list < length (added size align kind m).list)
added_typed size align kind m is room h =
    let p = is_placed m.next align is in
    let fits : live_bytes m.list + size ≤ byte_limit = leb-true (live_bytes m.list + size) byte_limit room in
    let b = new_block (round_up m.next align) size kind in
    let longer : length (m.list ++ b ∷ []) ≡ length m.list + 1 = length-append m.list (b ∷ []) in (
      record {
        placed = IsPlaced-push m.list b 65536 m.next h.placed p.0;
        limit = omega (arith, live_bytes-push m.list b, fits);
        known = AreKnown-added m.list (round_up m.next align) size kind (length m.list) (length (m.list ++ b ∷ [])) (omega (arith, longer)) h.known;
      },
      record { blocks = omega (arith, longer); next = omega (arith, p, fits) },
      omega (arith, longer),
    )

-- blocks of which one is changed

ended_live : (i : ℕ) (bs : List MemoryBlock) → live_bytes (changed i (λ b. gone) bs) ≤ live_bytes bs
ended_live i [] = omega arith
ended_live zero (b ∷ bs) = omega arith
ended_live (suc i) (b ∷ bs) = omega (arith, ended_live i bs)

ended_known : (count i : ℕ) (bs : List MemoryBlock) → AreKnown count bs → AreKnown count (changed i (λ b. gone) bs)
ended_known count i [] known = known
ended_known count zero (b ∷ bs) known =
    All-cons (λ b. All (IsKnownCell count) b.cells) gone bs (All-nil (IsKnownCell count)) (All-tail (λ b. All (IsKnownCell count) b.cells) b bs known)
ended_known count (suc i) (b ∷ bs) known =
    All-cons (λ b. All (IsKnownCell count) b.cells) b (changed i (λ b. gone) bs)
    (All-head (λ b. All (IsKnownCell count) b.cells) b bs known)
    (ended_known count i bs (All-tail (λ b. All (IsKnownCell count) b.cells) b bs known))

-- calls that add no block

-- typed memory with as many blocks and the same next address
abbrev pub IsKeptTyped : Blocks → Blocks → Type 0
IsKeptTyped m n = IsTypedMemory n × Keeps m n

pub nothing_done : (m : Blocks) → IsTypedMemory m → IsKeptTyped m m
nothing_done m h = (h, (refl, refl))

pub then_done : (m n o : Blocks) → IsKeptTyped m n → IsKeptTyped n o → IsKeptTyped m o
then_done m n o h k = (k.0, (k.1.0 ∙ h.1.0, k.1.1 ∙ h.1.1))

pub later_of : (m n : Blocks) → Keeps m n → IsLater m n
later_of m n k = record { blocks = omega (arith, k.0); next = omega (arith, k.1) }

put_typed : (m : Blocks) (cells : List Cell) (place : Option BlockPlace) → All (IsKnownCell (length m.list)) cells → IsTypedMemory m → IsKeptTyped m (put m cells place)
put_typed m cells None known h = nothing_done m h
put_typed m cells (Some p) known h =
    let same : length (changed p.index (written p.offset cells) m.list) ≡ length m.list = length-changed p.index (written p.offset cells) m.list in (
      record {
        placed = IsPlaced-written p.index p.offset cells m.list 65536 m.next h.placed;
        limit = omega (arith, live_bytes-written p.index p.offset cells m.list, h.limit);
        known = subst (λ n. AreKnown n (changed p.index (written p.offset cells) m.list)) (sym same) (AreKnown-written (length m.list) p.index p.offset cells m.list known h.known);
      },
      (same, refl),
    )

put_at_typed : (m : Blocks) (cells : List Cell) (place : Result (Option BlockPlace) UndefinedKind) → All (IsKnownCell (length m.list)) cells → IsTypedMemory m → IfOk (put_at m cells place) (IsKeptTyped m)
put_at_typed m cells (Err kind) known h = tt
put_at_typed m cells (Ok place) known h = put_typed m cells place known h

pub stored_typed : (m : Blocks) (address : Scalar) (kind : Leaf) (align : ℕ) (v : Scalar) → IsOf (length m.list) kind v → IsTypedMemory m → IfOk (stored address kind align v m) (IsKeptTyped m)
stored_typed m address kind align v is h =
    put_at_typed m (leaf_cells kind v) (access m (size kind) align true address) (known-spelled m.list kind v (has_known m.list kind v is)) h

pub filled_typed : (m : Blocks) (to : Scalar) (byte count : ℕ) → IsTypedMemory m → IfOk (filled to byte count m) (IsKeptTyped m)
filled_typed m to byte count h =
    put_at_typed m (replicate count (cell.Byte byte)) (access m count 1 true to) (All-replicate (IsKnownCell (length m.list)) count (cell.Byte byte) tt) h

cells_at_known : (count n : ℕ) (bs : List MemoryBlock) (place : Option BlockPlace) → AreKnown count bs → All (IsKnownCell count) (cells_at bs n place)
cells_at_known count n bs None known = All-nil (IsKnownCell count)
cells_at_known count n bs (Some p) known = known-cells_of count n p.offset bs p.index known

copied_at_typed : (m : Blocks) (count : ℕ) (may : Bool) (source target : Result (Option BlockPlace) UndefinedKind) → IsTypedMemory m → IfOk (copied_at m count may source target) (IsKeptTyped m)
copied_at_typed m count may (Err kind) target h = tt
copied_at_typed m count may (Ok source) (Err kind) h = tt
copied_at_typed m count may (Ok source) (Ok target) h = go (not may && overlap count source target)
  where
    go : (b : Bool) → IfOk {E = UndefinedKind} (if b then Err Overlap else Ok (put m (cells_at m.list count source) target)) (IsKeptTyped m)
    go true = tt
    go false = put_typed m (cells_at m.list count source) target (cells_at_known (length m.list) count m.list source h.known) h

pub copied_typed : (m : Blocks) (to from : Scalar) (count : ℕ) (may : Bool) → IsTypedMemory m → IfOk (copied to from count may m) (IsKeptTyped m)
copied_typed m to from count may h = go (nat_eq count 0)
  where
    go : (b : Bool) → IfOk (if b then Ok m else copied_at m count may (access m count 1 false from) (access m count 1 true to)) (IsKeptTyped m)
    go true = nothing_done m h
    go false = copied_at_typed m count may (access m count 1 false from) (access m count 1 true to) h

ended_at_typed : (m : Blocks) (i : Option ℕ) → IsTypedMemory m → IfOk (ended_at m i) (IsKeptTyped m)
ended_at_typed m None h = tt
ended_at_typed m (Some i) h =
    let same : length (changed i (λ b. gone) m.list) ≡ length m.list = length-changed i (λ b. gone) m.list in (
      record {
        placed = IsPlaced-ended i m.list 65536 m.next h.placed;
        limit = omega (arith, ended_live i m.list, h.limit);
        known = subst (λ n. AreKnown n (changed i (λ b. gone) m.list)) (sym same) (ended_known (length m.list) i m.list h.known);
      },
      (same, refl),
    )

pub ended_typed : (m : Blocks) (p : Scalar) (kind : BlockKind) → IsTypedMemory m → IfOk (ended p kind m) (IsKeptTyped m)
ended_typed m p kind h = ended_at_typed m (started m.list p kind) h

-- what is loaded

integer_fits : (count width : ℕ) (number : Option ℕ) → IsOf count (leaf.Int width) (integer width number)
integer_fits count width None = tt
integer_fits count width (Some n) = mod_below n (2 ^ width) (pow_pos width)

pointer_fits : (bs : List MemoryBlock) (p : Option Pointer) (number : Option ℕ) → HasKnown bs (pointer p number) → IsOf (length bs) leaf.Ptr (pointer p number)
pointer_fits bs (Some p) number h = h
pointer_fits bs None None h = tt
pointer_fits bs None (Some n) h = tt

pub read_fits : (bs : List MemoryBlock) (kind : Leaf) (cells : List Cell) → All (IsKnownCell (length bs)) cells → IsOf (length bs) kind (read kind cells)
read_fits bs (leaf.Int width) cells known = integer_fits (length bs) width (number_of cells)
read_fits bs leaf.Ptr cells known = pointer_fits bs (pointer_of cells) (number_of cells) (known-read bs leaf.Ptr cells known)

read_at_fits : (m : Blocks) (kind : Leaf) (place : Result (Option BlockPlace) UndefinedKind) → IsTypedMemory m → IfOk (read_at m kind place) (IsOf (length m.list) kind)
read_at_fits m kind (Err e) h = tt
read_at_fits m kind (Ok place) h = read_fits m.list kind (cells_at m.list (size kind) place) (cells_at_known (length m.list) (size kind) m.list place h.known)

pub loaded_fits : (m : Blocks) (address : Scalar) (kind : Leaf) (align : ℕ) → IsTypedMemory m → IfOk (loaded m address kind align) (IsOf (length m.list) kind)
loaded_fits m address kind align h = read_at_fits m kind (access m (size kind) align false address) h
