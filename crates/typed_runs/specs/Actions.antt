-- For `steps_stay_typed`: what is asked of an action so that it can be carried out. Its leaves have the kinds that its class works
-- on, and where the run goes on there is an instruction.
use Rattle.std.specs.Prelude.{◌≡◌, ℕ, ◌+◌, ◌^◌, ◌<◌, IsTrue, false, ⊤, List, [], ◌∷◌, ◌++◌, map, slice_get, Some}
use Rattle.std.specs.List.{All, AllZip}
use Rattle.ir_tables.specs.declared.opcode.Opcode.{Opcode}
use Rattle.ir_tables.specs.declared.opcode.Opcode.TheVariants.{Trunc, ZExt, SExt, PtrToInt, IntToPtr}
use Rattle.ir_eval.specs.Operators.{is_binary}
use Rattle.ir_eval.specs.Value.{IsWidth}
use Rattle.ir_memory.specs.declared.leaf.Leaf.{Leaf}
use Rattle.ir_memory.specs.declared.leaf.Leaf.TheVariants as leaf
use Rattle.ir_memory.specs.Given.{IsLeaf, IsAlignment}
use Rattle.type_table.specs.Shape.{Shape}
use Rattle.run_rules.specs.Action.{Origin, Held, Known, Move, Edge, Term, Signature, Action, Compute, Compare, Convert, Select, Freeze, Gather, Load, Store, Allocate, Displace, Call, Return, Jump, Branch, Switch, Unreachable, Stuck}
use Rattle.run_rules.specs.Leaves.{is_pointer}
use Rattle.run_rules.specs.NeverStuck.{is_stuck}
use Rattle.typed_runs.specs.Kinds.{IsOf, AreAt, kinds_of, kinds_of_all}

-- The kinds of the leaves in the frame of each function, the kinds of the leaves that it returns, and how many blocks
-- there are at least
pub record Typing : Type 0 where
  pub kinds : ℕ → List Leaf
  pub gives : ℕ → List Leaf
  pub fixed : ℕ

-- what is compared with that width: that of a pointer is written 64
abbrev pub IsCompared : ℕ → Leaf → Type 0
IsCompared width (leaf.Int w) = w ≡ width
IsCompared width leaf.Ptr = width ≡ 64

-- the kind that a cast goes from
abbrev pub cast_from : Opcode → ℕ → Leaf
cast_from PtrToInt width = leaf.Ptr
cast_from _ width = leaf.Int width

-- the kind that it goes to
abbrev pub cast_to : Opcode → ℕ → Leaf
cast_to IntToPtr width = leaf.Ptr
cast_to _ width = leaf.Int width

-- the casts, with the widths that they go between
abbrev pub AreCastWidths : Opcode → ℕ → ℕ → Type 0
AreCastWidths Trunc from to = to < from
AreCastWidths ZExt from to = from < to
AreCastWidths SExt from to = from < to
AreCastWidths PtrToInt from to = from ≡ 64
AreCastWidths IntToPtr from to = to ≡ 64
AreCastWidths _ from to = ⊥

-- the arguments are those of the parameters, with further ones only where the function is variadic
abbrev pub AreArguments : Signature → List Shape → Type 0
AreArguments s shapes = (further : List Shape) × (shapes ≡ s.parameters ++ further) × (s.variadic ≡ false → further ≡ [])

module _ (t : Typing) (look : ℕ → ℕ → ℕ → Action) (function : ℕ) where
  -- a leaf of that kind is had from there
  abbrev pub IsOrigin : Leaf → Origin → Type 0
  IsOrigin kind (Held place) = slice_get (t.kinds function) place ≡ Some kind
  IsOrigin kind (Known value) = IsOf t.fixed kind value

  -- leaves of these kinds are had from there
  abbrev pub AreOrigins : List Leaf → List Origin → Type 0
  AreOrigins kinds origins = AllZip IsOrigin kinds origins

  -- leaves of these kinds belong there
  abbrev pub IsResult : ℕ → List Leaf → Type 0
  IsResult to kinds = AreAt (t.kinds function) to kinds

  -- there is an instruction
  abbrev pub IsPlace : ℕ → ℕ → Type 0
  IsPlace block position = is_stuck (look function block position) ≡ false

  -- the leaf belongs where it goes
  abbrev pub IsMove : Move → Type 0
  IsMove m = (kind : Leaf) × (slice_get (t.kinds function) m.to ≡ Some kind) × IsOrigin kind m.from

  -- the way leads to an instruction, and each phi gets a leaf of its kind
  abbrev pub IsEdge : Edge → Type 0
  IsEdge e = IsPlace e.block e.position × All IsMove e.moves

  -- an index is an integer of its width
  abbrev pub IsTerm : Term → Type 0
  IsTerm x = IsWidth x.width × IsOrigin (leaf.Int x.width) x.index

  -- what is asked of the action at a place
  abbrev pub IsTypedAction : ℕ → ℕ → Action → Type 0
  IsTypedAction block position (Compute to opcode flags width left right) =
      IsTrue (is_binary opcode) × IsWidth width × IsOrigin (leaf.Int width) left × IsOrigin (leaf.Int width) right
      × IsResult to (leaf.Int width ∷ []) × IsPlace block (position + 1)
  IsTypedAction block position (Compare to predicate samesign width left right) =
      IsWidth width × ((kind : Leaf) × IsCompared width kind × IsOrigin kind left × IsOrigin kind right)
      × IsResult to (leaf.Int 1 ∷ []) × IsPlace block (position + 1)
  IsTypedAction block position (Convert to opcode flags from_width to_width value) =
      IsWidth from_width × IsWidth to_width × AreCastWidths opcode from_width to_width × IsOrigin (cast_from opcode from_width) value
      × IsResult to (cast_to opcode to_width ∷ []) × IsPlace block (position + 1)
  IsTypedAction block position (Select to condition arms) =
      IsOrigin (leaf.Int 1) condition
      × ((kinds : List Leaf) × AllZip (λ kind arm. IsOrigin kind arm.0 × IsOrigin kind arm.1) kinds arms × IsResult to kinds)
      × IsPlace block (position + 1)
  IsTypedAction block position (Freeze to value) =
      ((kinds : List Leaf) × AllZip (λ kind x. (x.0 ≡ is_pointer kind) × IsOrigin kind x.1) kinds value × IsResult to kinds)
      × IsPlace block (position + 1)
  IsTypedAction block position (Gather to value) =
      ((kinds : List Leaf) × AreOrigins kinds value × IsResult to kinds) × IsPlace block (position + 1)
  IsTypedAction block position (Load to align address slots) =
      IsAlignment align × IsOrigin leaf.Ptr address × All (λ s. IsLeaf s.leaf) slots
      × IsResult to (map (λ s. s.leaf) slots) × IsPlace block (position + 1)
  IsTypedAction block position (Store align address value) =
      IsAlignment align × IsOrigin leaf.Ptr address × All (λ x. IsLeaf x.0.leaf × IsOrigin x.0.leaf x.1) value
      × IsPlace block (position + 1)
  IsTypedAction block position (Allocate to size align count) =
      IsAlignment align × ((width : ℕ) × IsWidth width × IsOrigin (leaf.Int width) count)
      × IsResult to (leaf.Ptr ∷ []) × IsPlace block (position + 1)
  IsTypedAction block position (Displace to inbounds base terms) =
      IsOrigin leaf.Ptr base × All IsTerm terms × IsResult to (leaf.Ptr ∷ []) × IsPlace block (position + 1)
  IsTypedAction block position (Call to signature callee shapes arguments) =
      IsOrigin leaf.Ptr callee × AreOrigins (kinds_of_all shapes) arguments × AreArguments signature shapes
      × IsResult to (kinds_of signature.returns) × IsPlace block (position + 1)
  IsTypedAction block position (Return value) = AreOrigins (t.gives function) value
  IsTypedAction block position (Jump edge) = IsEdge edge
  IsTypedAction block position (Branch condition then_edge else_edge) = IsOrigin (leaf.Int 1) condition × IsEdge then_edge × IsEdge else_edge
  IsTypedAction block position (Switch value otherwise cases) =
      ((width : ℕ) × IsWidth width × IsOrigin (leaf.Int width) value × All (λ x. x.0 < 2 ^ width) cases)
      × IsEdge otherwise × All (λ x. IsEdge x.1) cases
  IsTypedAction block position Unreachable = ⊤
  IsTypedAction block position Stuck = ⊥
