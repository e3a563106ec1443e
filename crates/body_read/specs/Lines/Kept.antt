-- For `read_operation` and `read_store`: instructions as they are kept, what they name, and what they do.
use Rattle.std.specs.Prelude.{◌≡◌, ℕ, List, [], ◌∷◌, length, map, All, ⊤, Option}
use Rattle.ir_tables.specs.declared.opcode.Opcode.{Opcode}
use Rattle.ir_tables.specs.declared.predicate.Predicate.{Predicate}
use Rattle.type_table.specs.Types.{trees}
use Rattle.module_arena.specs.declared.instruction.Choice as the_choice
use Rattle.module_arena.specs.declared.instruction.Incoming as the_incoming
use Rattle.module_arena.specs.declared.instruction.Insertion as the_insertion
use Rattle.module_arena.specs.declared.instruction.Inst.{Inst}
use Rattle.module_arena.specs.declared.instruction.Inst.TheVariants as inst
use Rattle.module_arena.specs.declared.instruction.Operand.{Operand}
use Rattle.module_arena.specs.declared.instruction.Value.{Value}
use Rattle.module_arena.specs.Known.{KnowsInst}
use Rattle.module_arena.specs.Lists.{Lists}
use Rattle.module_arena.specs.Mentions.{result_of}
use Rattle.module_arena.specs.Module as m
use Rattle.module_arena.specs.View.{constants_of, incoming_view, inst_view}
use Rattle.record_table.specs.Fields.{Numbering}
use Rattle.type_read.specs.declared.arena.counts.LocalCounts.{LocalCounts}
use Rattle.body_read.specs.Operands.Found.{HasBlock, HasValue}

-- ---- what the arena and the body have

-- all that an instruction names
abbrev pub HasInst : LocalCounts → Lists → Inst → Type 0
HasInst l a i = KnowsInst (length a.table.types) (length a.constants) l.values l.blocks i

-- the same, and its result is that value
abbrev pub GivesInst : ℕ → LocalCounts → Lists → Inst → Type 0
GivesInst defined l a i = HasInst l a i × (result_of i ≡ defined ∷ [])

-- the same, and it has no result
abbrev pub DoesInst : LocalCounts → Lists → Inst → Type 0
DoesInst l a i = HasInst l a i × (result_of i ≡ [])

-- a value, and a block that it comes from
abbrev pub HasIncoming : LocalCounts → Lists → the_incoming.Incoming → Type 0
HasIncoming l a i = HasValue l a i.value × HasBlock l a i.block

-- the values of a phi
abbrev pub HaveIncoming : LocalCounts → Lists → List the_incoming.Incoming → Type 0
HaveIncoming l a is = All (HasIncoming l a) is

-- one index names nothing
abbrev pub HasIndex : LocalCounts → Lists → ℕ → Type 0
HasIndex l a i = ⊤

-- indices name nothing
abbrev pub HasIndices : LocalCounts → Lists → List ℕ → Type 0
HasIndices l a is = All (HasIndex l a) is

-- ---- what it is

-- what the instruction does that is kept so
abbrev pub operation_in : Numbering → Lists → Inst → m.Operation
operation_in k a i = (inst_view (trees a.table) (constants_of a) k.values k.blocks i).operation

-- the value of a phi that is kept so
abbrev pub incoming_in : Numbering → Lists → the_incoming.Incoming → m.Incoming
incoming_in k a i = incoming_view (trees a.table) (constants_of a) k.values k.blocks i

-- the values of a phi that are kept so
abbrev pub all_incoming_in : Numbering → Lists → List the_incoming.Incoming → List m.Incoming
all_incoming_in k a is = map (incoming_in k a) is

-- an index is kept as it is
abbrev pub index_in : Numbering → Lists → ℕ → ℕ
index_in k a i = i

-- and so are several
abbrev pub indices_in : Numbering → Lists → List ℕ → List ℕ
indices_in k a is = map (index_in k a) is

-- ---- instructions of their parts

-- an operation on two operands of one type
abbrev pub kept_binary : Opcode → ℕ → ℕ × (Operand × Value) → Inst
kept_binary o defined (f, (l, r)) = inst.Binary o f defined l r

-- a comparison
abbrev pub kept_comparison : ℕ → ℕ × (Predicate × (Operand × Value)) → Inst
kept_comparison defined (f, (p, (l, r))) = inst.Compare f p defined l r

-- a cast
abbrev pub kept_conversion : Opcode → ℕ → ℕ × (Operand × ℕ) → Inst
kept_conversion o defined (f, (v, to)) = inst.Convert o f defined v to

-- the parts of a select
abbrev pub kept_choice : Operand × (Operand × Operand) → the_choice.Choice
kept_choice (c, (l, r)) = record { condition = c; first = l; second = r }

-- a value of a phi
abbrev pub kept_incoming : Value × ℕ → the_incoming.Incoming
kept_incoming (v, b) = record { value = v; block = b }

-- a phi
abbrev pub kept_phi : ℕ → ℕ × List the_incoming.Incoming → Inst
kept_phi defined (t, is) = inst.Phi defined t is

-- a load
abbrev pub kept_load : ℕ → ℕ × (ℕ × (Operand × Option ℕ)) → Inst
kept_load defined (f, (t, (a, align))) = inst.Load f defined t a align

-- a store
abbrev pub kept_store : ℕ × (Operand × (Operand × Option ℕ)) → Inst
kept_store (f, (v, (a, align))) = inst.Store f v a align

-- an alloca
abbrev pub kept_alloca : ℕ → ℕ × (Option Operand × Option ℕ) → Inst
kept_alloca defined (t, (count, align)) = inst.Alloca defined t count align

-- an address
abbrev pub kept_steps : ℕ → ℕ × (ℕ × (Operand × List Operand)) → Inst
kept_steps defined (f, (t, (a, is))) = inst.GetElementPtr f defined t a is

-- a part taken out
abbrev pub kept_extraction : ℕ → Operand × List ℕ → Inst
kept_extraction defined (a, is) = inst.ExtractValue defined a is

-- the parts of a part put in
abbrev pub kept_insertion : Operand × (Operand × List ℕ) → the_insertion.Insertion
kept_insertion (a, (p, is)) = record { aggregate = a; part = p; indices = is }
