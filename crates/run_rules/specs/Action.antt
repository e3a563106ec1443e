-- For `equal_look_ups_give_equal_runs`: what an instruction comes to once each name, type and layout in it is known. An
-- action names no part, no global and no struct; it speaks of places in a frame, of leaves and of shapes.
use Rattle.std.specs.Prelude.{ℕ, Bool, List}
use Rattle.ir_tables.specs.declared.opcode.Opcode.{Opcode}
use Rattle.ir_tables.specs.declared.predicate.Predicate.{Predicate}
use Rattle.ir_eval.specs.declared.value.Scalar.{Scalar}
use Rattle.type_table.specs.Shape.{Shape}
use Rattle.run_rules.specs.Leaves.{Slot}

-- where a leaf is had from: from that place in the frame, or it is known
pub data Origin : Type 0 where
  -- what stands at that place of the frame
  Held : (place : ℕ) → Origin
  -- that leaf
  Known : (leaf : Scalar) → Origin

-- a leaf of a phi, and where it is had from on an edge
pub record Move : Type 0 where
  pub to : ℕ
  pub from : Origin

-- a way into a block: past its phis, with what these get
pub record Edge : Type 0 where
  pub block : ℕ
  pub position : ℕ
  pub moves : List Move

-- so many elements of a size, or so many bytes up to a field. The index is an integer of that width, read with its sign
pub record Term : Type 0 where
  pub index : Origin
  pub width : ℕ
  pub size : ℕ

-- a function type whose struct names are replaced by their bodies
pub record Signature : Type 0 where
  pub returns : Shape
  pub parameters : List Shape
  pub variadic : Bool

-- `to` is the place of the result's first leaf
pub data Action : Type 0 where
  -- a binary instruction on integers
  Compute : (to : ℕ) → (opcode : Opcode) → (flags width : ℕ) → (left right : Origin) → Action
  -- `icmp`
  Compare : (to : ℕ) → (predicate : Predicate) → (samesign : Bool) → (width : ℕ) → (left right : Origin) → Action
  -- a cast, from so many bits to so many
  Convert : (to : ℕ) → (opcode : Opcode) → (flags from_width to_width : ℕ) → (value : Origin) → Action
  -- the leaves of the one value, or those of the other
  Select : (to : ℕ) → (condition : Origin) → (arms : List (Origin × Origin)) → Action
  -- each leaf, and whether it is a pointer
  Freeze : (to : ℕ) → (value : List (Bool × Origin)) → Action
  -- extractvalue and insertvalue: the result has these leaves
  Gather : (to : ℕ) → (value : List Origin) → Action
  -- a value at these slots from the address
  Load : (to align : ℕ) → (address : Origin) → (slots : List Slot) → Action
  -- leaves, each to its slot from the address
  Store : (align : ℕ) → (address : Origin) → (value : List (Slot × Origin)) → Action
  -- a block for so many values of that size
  Allocate : (to size align : ℕ) → (count : Origin) → Action
  -- getelementptr: the address is moved by the exact sum of the terms
  Displace : (to : ℕ) → (inbounds : Bool) → (base : Origin) → (terms : List Term) → Action
  -- a function by its address. The shapes are those of the arguments
  Call : (to : ℕ) → (signature : Signature) → (callee : Origin) → (shapes : List Shape) → (arguments : List Origin) → Action
  -- `ret`, with the leaves of its value
  Return : (value : List Origin) → Action
  -- `br` to one block
  Jump : (edge : Edge) → Action
  -- `br` by a condition
  Branch : (condition : Origin) → (then_edge else_edge : Edge) → Action
  -- the first case with that number, or else the other edge
  Switch : (value : Origin) → (otherwise : Edge) → (cases : List (ℕ × Edge)) → Action
  -- `unreachable`
  Unreachable : Action
  -- No instruction is there. A run that came here would end as at `unreachable`, so ends alone do not tell it: that no run of a
  -- valid module comes here is a law of its own
  Stuck : Action
