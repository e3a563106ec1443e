-- For all calls of `Memory`: one byte of memory, and the leaves of values as cells. Memory is little endian, and a
-- pointer has 8 bytes.
use Rattle.std.specs.Prelude.{ℕ, ◌+◌, ◌/◌, ◌%◌, ◌^◌, Bool, true, false, ◌&&◌, nat_eq, List, [], ◌∷◌, map, replicate, Option, Some, None, if◌then◌else◌}
use Rattle.std.specs.List.{range_with_len}
use Rattle.ir_eval.specs.declared.value.Pointer.{Pointer}
use Rattle.ir_eval.specs.declared.value.Scalar.{Scalar}
use Rattle.ir_eval.specs.declared.value.Scalar.TheVariants as scalar
use Rattle.ir_memory.specs.Masked.Masked.{joined}
use Rattle.ir_memory.specs.declared.leaf.Leaf.{Leaf}
use Rattle.ir_memory.specs.declared.leaf.Leaf.TheVariants as leaf
use Rattle.ir_memory.specs.declared.cell.Cell.{Cell}
use Rattle.ir_memory.specs.declared.cell.Cell.TheVariants as cell

-- how many cells a leaf takes
abbrev pub size : Leaf → ℕ
size (leaf.Int width) = (width + 7) / 8
size leaf.Ptr = 8

-- the byte at a place of a number, the least first
abbrev pub byte_at : ℕ → ℕ → ℕ
byte_at number k = number / 256 ^ k % 256

-- so many bytes of a number
abbrev pub bytes : ℕ → ℕ → List Cell
bytes count number = map (λ k. cell.Byte (byte_at number k)) (range_with_len 0 count)

-- a pointer as its pieces 0 to 7
abbrev pub pieces : Pointer → List Cell
pieces p = map (λ k. cell.Piece p k) (range_with_len 0 8)

-- what a store writes
abbrev pub leaf_cells : Leaf → Scalar → List Cell
leaf_cells leaf scalar.Poison = replicate (size leaf) cell.Poison
leaf_cells leaf (scalar.Int number) = bytes (size leaf) number
leaf_cells leaf (scalar.Ptr p) = pieces p

-- a cell as a byte, where it is not poison: piece k of a pointer is byte k of its address
abbrev pub byte_of : Cell → Option ℕ
byte_of (cell.Byte b) = Some b
byte_of cell.Poison = None
byte_of (cell.Piece p k) = Some (byte_at p.address k)

-- the number that cells spell, where none is poison
abbrev pub number_of : List Cell → Option ℕ
number_of [] = Some 0
number_of (c ∷ cs) = joined (byte_of c) (number_of cs)

-- two pointers speak of the same block, or of none
abbrev pub same_block : Option ℕ → Option ℕ → Bool
same_block None None = true
same_block (Some i) (Some j) = nat_eq i j
same_block _ _ = false

-- a cell is that piece of a pointer
abbrev pub is_piece : Pointer → ℕ → Cell → Bool
is_piece p k (cell.Piece q j) = (same_block q.block p.block && nat_eq q.address p.address) && nat_eq j k
is_piece p k (cell.Byte b) = false
is_piece p k cell.Poison = false

-- the cells are pieces of a pointer, from the k-th on, in order
abbrev pub are_pieces : Pointer → ℕ → List Cell → Bool
are_pieces p k [] = true
are_pieces p k (c ∷ cs) = is_piece p k c && are_pieces p (k + 1) cs

-- the pointer of which the cells are the pieces, where the first is one
abbrev pub pointer_from : Cell → List Cell → Option Pointer
pointer_from (cell.Piece p k) cs = if are_pieces p 0 cs then Some p else None
pointer_from (cell.Byte b) cs = None
pointer_from cell.Poison cs = None

-- the pointer of which the cells are the pieces, in order
abbrev pub pointer_of : List Cell → Option Pointer
pointer_of [] = None
pointer_of (c ∷ cs) = pointer_from c (c ∷ cs)

-- a number cut to a width, or poison
abbrev pub integer : ℕ → Option ℕ → Scalar
integer width None = scalar.Poison
integer width (Some number) = scalar.Int (number % 2 ^ width)

-- a whole pointer, else the address in the bytes without a block, or poison
abbrev pub pointer : Option Pointer → Option ℕ → Scalar
pointer (Some p) number = scalar.Ptr p
pointer None None = scalar.Poison
pointer None (Some number) = scalar.Ptr (record { block = None; address = number })

-- what a load gives
abbrev pub read : Leaf → List Cell → Scalar
read (leaf.Int width) cells = integer width (number_of cells)
read leaf.Ptr cells = pointer (pointer_of cells) (number_of cells)
